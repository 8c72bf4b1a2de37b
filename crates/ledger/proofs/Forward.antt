-- A drain over direct adds only edges into the store that drains, which is the latest; so a run gives no ring.
use Rattle.std.proofs.Common.{◌≡◌, ℕ, ◌+◌, ◌<◌, true, ltb, ◌⊎◌, List, [], ◌∷◌, ◌++◌, length, get_or, Some, sym, refl, ap, ◌∙◌, subst, inl, inr, ⊎_elim, arith}
use Rattle.std.specs.List.{All}
use Rattle.std.proofs.lemmas.List.Elements.{All-nil}
use Rattle.std.proofs.lemmas.Bool.{and_parts, lt-ltb, ltb-true}
use Rattle.program.specs.declared.lines.Line.{Line}
use Rattle.buffers.specs.Kinds.{direct}
use Rattle.buffers.specs.Laws.{Lawful}
use Rattle.buffers.specs.Lists.{nothing_waits}
use Rattle.ledger.specs.Actions.{Access, Name, Source, from, initial, loads, name, stores}
use Rattle.ledger.specs.Edges.{SameTrace, Trace, after_source, edge, first_in, is_action, next_in, trace_of}
use Rattle.ledger.specs.Ledgers.{Entry, Ledger, action_at, no_action, start}
use Rattle.ledger.specs.Moves.{after_drain, after_move, after_moves, after_run, less_oldest, ledger_of, oldest}
use Rattle.ledger.specs.Orders.{Lacks}
use Rattle.ledger.specs.Runs.{Accepted}
use Rattle.ledger.specs.Tests.{Passes, lists_in}
use Rattle.ledger.specs.Theorems.{Chained, RunGivesNoRing}
use Rattle.ledger.specs.declared.moves.Move.{Move}
use Rattle.ledger.specs.declared.moves.Move.TheVariants.{Run, Drain}
use Rattle.ledger.proofs.Apart.{EdgeParts, Sort, edge_parts, first_in_push, next_in_cell, next_in_push, next_of_thread, overwritten_by, source_of}
use Rattle.ledger.proofs.Draining.{drain_finds, sound_move}
use Rattle.ledger.proofs.Growing.{Exists, no_store_loads, same_self, update_all}
use Rattle.ledger.proofs.Passing.{run_passes}
use Rattle.ledger.proofs.Replayed.{by_from_reads, by_program_order, by_reads_from, by_store_order, there_true}
use Rattle.ledger.proofs.Sound.{Entered, Sound, sound_start}
use Rattle.ledger.proofs.Timed.{Timed, later, nothing_waits_from, timed_run}
use Rattle.ledger.proofs.Waits.{all_less, last_all, oldest_of}

module _ (ls : List Line) (l : Ledger) (sound : Sound ls l) (t c : ℕ) (e : Entry) (found : oldest c (l.waiting t) ≡ Some e) (time : Name → ℕ) (n : ℕ) (timed : Timed l time n) where
  abbrev next : Ledger
  next = after_drain l t c (Some e)

  abbrev x : Name
  x = name t e.position

  taken : Entered l.actions t e × (e.store.cell ≡ c)
  taken = oldest_of (Entered l.actions t) c (l.waiting t) e found (sound.entries t)

  lacking : Lacks (l.drained c) x
  lacking = subst (λ k. Lacks (l.drained k) x) taken.1 (oldest_of (λ f. Lacks (l.drained f.store.cell) (name t f.position)) c (l.waiting t) e found (sound.apart t)).0

  -- Every other action is earlier than the store that drains.
  before_x : (a : Name) → Exists l.actions a → (a ≡ x → ⊥) → time a < time x
  before_x = (oldest_of (λ f. (a : Name) → Exists l.actions a → (a ≡ name t f.position → ⊥) → time a < time (name t f.position)) c (l.waiting t) e found (timed.last t)).0

  -- In any cell's list only that store is new, and it comes after the last.
  next_cases : (d : ℕ) (a b : Name) → next_in (next.drained d) a b ≡ true → (next_in (l.drained d) a b ≡ true) ⊎ ((a ≡ x → ⊥) × (b ≡ x))
  next_cases d a b =
      update_all l.drained c (l.drained c ++ x ∷ []) (λ k names. next_in names a b ≡ true → (next_in (l.drained k) a b ≡ true) ⊎ ((a ≡ x → ⊥) × (b ≡ x)))
      (λ so. ⊎_elim (λ old. inl old) (λ new. inr (last_all (λ y. y ≡ x → ⊥) (l.drained c) a new.0 lacking, new.1)) (next_in_push (l.drained c) x a b so))
      (λ k other so. inl so) d

  after_cases : (d : ℕ) (source : Source) (b : Name) → after_source (next.drained d) source b ≡ true → (after_source (l.drained d) source b ≡ true) ⊎ (b ≡ x)
  after_cases d initial b so =
      update_all l.drained c (l.drained c ++ x ∷ []) (λ k names. first_in names b ≡ true → (first_in (l.drained k) b ≡ true) ⊎ (b ≡ x))
      (first_in_push (l.drained c) x b) (λ k other so'. inl so') d so
  after_cases d (from s) b so = ⊎_elim (λ old. inl old) (λ new. inr new.1) (next_cases d s b so)

  up_next : (a b : Name) → edge (trace_of next) a b ≡ true → time a < time b
  up_next a b joined = go parts.sort
    where
      parts : EdgeParts (trace_of next) a b
      parts = edge_parts (trace_of next) a b joined

      a_in : is_action (trace_of l) a ≡ true
      a_in = there_true l a parts.first

      b_in : is_action (trace_of l) b ≡ true
      b_in = there_true l b parts.second

      into_x : (a ≡ x → ⊥) → b ≡ x → time a < time b
      into_x other is = subst (λ y. time a < time y) (sym is) (before_x a parts.first other)

      go : Sort (trace_of next) a b → time a < time b
      go (next_of_thread thread position) = timed.up a b (by_program_order (trace_of l) a b a_in b_in thread position)
      go (next_in_cell d access so) = ⊎_elim (λ old. timed.up a b (by_store_order (trace_of l) a b a_in b_in d access old)) (λ new. into_x new.0 new.1) (next_cases d a b so)
      go (source_of d access) = timed.up a b (by_reads_from (trace_of l) a b a_in b_in d (from a) access (same_self a a refl))
      go (overwritten_by d source access so) =
          ⊎_elim
          (λ old. timed.up a b (by_from_reads (trace_of l) a b a_in b_in (loads d source) access old))
          (λ new. into_x (λ is. no_store_loads e.store.cell d source (sym (ap (λ y. (action_at l.actions y).access) is ∙ taken.0.access) ∙ access)) new)
          (after_cases d source b so)

  -- A drain over direct keeps the times.
  pub timed_drain : Timed next time n
  timed_drain = record {
    below = timed.below;
    up = up_next;
    last = update_all l.waiting t (less_oldest c (l.waiting t)) (λ u. All (λ f. (a : Name) → Exists l.actions a → (a ≡ name u f.position → ⊥) → time a < time (name u f.position)))
        (all_less (λ f. (a : Name) → Exists l.actions a → (a ≡ name t f.position → ⊥) → time a < time (name t f.position)) c (l.waiting t) (timed.last t)) (λ u other. timed.last u);
  }

-- Under direct's rules every drain finds its store.
pub direct_lawful : Lawful direct
direct_lawful = record {
  step_in_range = λ ls t free. ltb-true t 8 (and_parts (ltb t 8) (nothing_waits ls) free).0;
  drain_waits = λ ls t c free. free;
}

-- some times that fit
pub record HasTimes (l : Ledger) : Type 0 where
  pub time : Name → ℕ
  pub bound : ℕ
  pub timed : Timed l time bound

times_move : (ls : List Line) (l : Ledger) (m : Move) → Sound ls l → HasTimes l → Passes direct ls l m → HasTimes (after_move ls l m)
times_move ls l (Run t k) sound times passed =
    let p = run_passes direct ls l t k passed in
    let empty = nothing_waits_from ls l sound (and_parts (ltb t 8) (nothing_waits (lists_in l)) p.free).1 in
    subst (λ o. HasTimes (after_run l t k o)) (sym p.there)
    (record { time = later ls l sound empty t k p times.time times.bound times.timed; bound = times.bound + 1; timed = timed_run ls l sound empty t k p times.time times.bound times.timed })
times_move ls l (Drain t c) sound times passed =
    let f = drain_finds direct ls l t c direct_lawful passed in
    subst (λ o. HasTimes (after_drain l t c o)) (sym f.1)
    (record { time = times.time; bound = times.bound; timed = timed_drain ls l sound t c f.0 f.1 times.time times.bound times.timed })

times_moves : (ls : List Line) (ms : List Move) (l : Ledger) → Sound ls l → HasTimes l → Accepted direct ls l ms → HasTimes (after_moves ls l ms)
times_moves ls [] l sound times accepted = times
times_moves ls (m ∷ ms) l sound times accepted =
    times_moves ls ms (after_move ls l m) (sound_move direct direct_lawful ls l m sound accepted.0) (times_move ls l m sound times accepted.0) accepted.1

times_start : HasTimes start
times_start = record {
  time = λ a. 0;
  bound = 0;
  timed = record {
    below = λ a there. absurd (omega (arith, there));
    up = λ a b joined. absurd (let first = (edge_parts (trace_of start) a b joined).first in omega (arith, first));
    last = λ t. All-nil (λ e. (a : Name) → Exists start.actions a → (a ≡ name t e.position → ⊥) → 0 < 0);
  };
}

-- The same trace has the same edges.
pub edge_same : (x y : Trace) → SameTrace x y → (a b : Name) → edge x a b ≡ true → edge y a b ≡ true
edge_same x y same_trace a b joined =
    let parts = edge_parts x a b joined in
    let a_in : is_action y a ≡ true = lt-ltb a.position (length (y.actions a.thread)) (subst (λ acts. a.position < length acts) (same_trace.actions a.thread) parts.first) in
    let b_in : is_action y b ≡ true = lt-ltb b.position (length (y.actions b.thread)) (subst (λ acts. b.position < length acts) (same_trace.actions b.thread) parts.second) in
    go a_in b_in parts.sort
  where
    at_same : (d : Name) (access : Access) → (action_at x.actions d).access ≡ access → (action_at y.actions d).access ≡ access
    at_same d access is = ap (λ acts. (get_or acts d.position no_action).access) (sym (same_trace.actions d.thread)) ∙ is

    go : is_action y a ≡ true → is_action y b ≡ true → Sort x a b → edge y a b ≡ true
    go a_in b_in (next_of_thread thread position) = by_program_order y a b a_in b_in thread position
    go a_in b_in (next_in_cell d access so) = by_store_order y a b a_in b_in d (at_same a (stores d) access) (subst (λ names. next_in names a b ≡ true) (same_trace.drained d) so)
    go a_in b_in (source_of d access) = by_reads_from y a b a_in b_in d (from a) (at_same b (loads d (from a)) access) (same_self a a refl)
    go a_in b_in (overwritten_by d source access so) = by_from_reads y a b a_in b_in (loads d source) (at_same a (loads d source) access) (subst (λ names. after_source names source b ≡ true) (same_trace.drained d) so)

-- Round a ring, time would go forward and come back.
chain_up : (x : Trace) (time : Name → ℕ) → ((a b : Name) → edge x a b ≡ true → time a < time b) → (a : Name) (names : List Name) (z : Name) → Chained x a names z → time a < time z
chain_up x time up a [] z chain = up a z chain
chain_up x time up a (b ∷ names) z chain = let first = up a b chain.0 in let rest = chain_up x time up b names z chain.1 in omega (arith, first, rest)

pub run_gives_no_ring : RunGivesNoRing
run_gives_no_ring ls x (ms, run) [] ring = ring
run_gives_no_ring ls x (ms, run) (a ∷ names) ring =
    let times = times_moves ls ms start (sound_start ls) times_start run.run.accepted in
    let round = chain_up x times.time (λ b d joined. times.timed.up b d (edge_same x (trace_of (ledger_of ls ms)) (record { actions = λ t. sym (run.trace.actions t); drained = λ c. sym (run.trace.drained c) }) b d joined)) a names a ring in
    omega (arith, round)
