-- A trace has a sequentially consistent run exactly when it has no ring; and no edge joins an action to itself.
use Rattle.std.proofs.Common.{◌≡◌, ℕ, zero, suc, ◌<◌, Bool, true, false, ◌&&◌, ◌⊎◌, List, [], ◌∷◌, ◌++◌, length, get_or, sym, refl, ap, ◌∙◌, subst, inl, inr, ⊎_elim, arith}
use Rattle.std.specs.List.{All, Contains}
use Rattle.std.proofs.lemmas.List.Elements.{All-nil, All-cons, All-head, All-append, Contains-append_left, Contains-append_right}
use Rattle.std.proofs.lemmas.Bool.{and_parts, cases_lt, or_cases, true≢false}
use Rattle.program.specs.declared.lines.Line.{Line}
use Rattle.ledger.specs.Actions.{Action, Name, from, name, same}
use Rattle.ledger.specs.Edges.{edge, is_action, next_in, trace_of}
use Rattle.ledger.specs.Ledgers.{Ledger, start}
use Rattle.ledger.specs.Moves.{ledger_of}
use Rattle.ledger.specs.Orders.{Order, listed_moves}
use Rattle.ledger.specs.Tests.{threads}
use Rattle.ledger.specs.Theorems.{HasRun, NoEdgeToItself, Ring, RunExactlyWithoutRing}
use Rattle.ledger.specs.Verdicts.{Different}
use Rattle.ledger.proofs.Apart.{Sort, after_source_one, edge_parts, next_in_cell, next_of_thread, overwritten_by, source_of}
use Rattle.ledger.proofs.Counts.{a_thread, contains_cases}
use Rattle.ledger.proofs.Draining.{sound_moves}
use Rattle.ledger.proofs.Forward.{run_gives_no_ring}
use Rattle.ledger.proofs.Growing.{Exists, no_store_loads, same_true}
use Rattle.ledger.proofs.Ordered.{order_gives_run}
use Rattle.ledger.proofs.Replayed.{there_from, there_true}
use Rattle.ledger.proofs.Sorting.{Outcome, sort_left}
use Rattle.ledger.proofs.Sound.{Sound, StoreTo, sound_start}

-- the first n actions of the thread t, and all actions of the threads us
abbrev pub up_to : ℕ → ℕ → List Name
up_to t zero = []
up_to t (suc n) = name t n ∷ up_to t n

abbrev pub all_of : (ℕ → List Action) → List ℕ → List Name
all_of acts [] = []
all_of acts (u ∷ us) = up_to u (length (acts u)) ++ all_of acts us

in_up_to : (t n p : ℕ) → p < n → Contains (up_to t n) (name t p)
in_up_to t zero p lt = absurd (omega (arith, lt))
in_up_to t (suc n) p lt = ⊎_elim (λ before. Contains-append_right (name t n ∷ []) (up_to t n) (name t p) (in_up_to t n p before)) (λ past. (0, omega arith, ap (name t) (let is : n ≡ p = omega (arith, lt, past) in is))) (cases_lt p n)

in_all_of : (acts : ℕ → List Action) (us : List ℕ) (a : Name) → Contains us a.thread → Exists acts a → Contains (all_of acts us) a
in_all_of acts [] a among there = absurd (omega (arith, among.1))
in_all_of acts (u ∷ us) a among there =
    ⊎_elim
    (λ is. Contains-append_left (up_to u (length (acts u))) (all_of acts us) a (subst (λ v. Contains (up_to v (length (acts v))) a) (sym is) (in_up_to a.thread (length (acts a.thread)) a.position there)))
    (λ later. Contains-append_right (up_to u (length (acts u))) (all_of acts us) a (in_all_of acts us a later there))
    (contains_cases u us a.thread among)

up_to_all : (P : Name → Type 0) (t n : ℕ) → ((p : ℕ) → p < n → P (name t p)) → All P (up_to t n)
up_to_all P t zero holds = All-nil P
up_to_all P t (suc n) holds = All-cons P (name t n) (up_to t n) (holds n (omega arith)) (up_to_all P t n (λ p lt. holds p (omega (arith, lt))))

all_of_all : (P : Name → Type 0) (acts : ℕ → List Action) (us : List ℕ) → ((a : Name) → Exists acts a → P a) → All P (all_of acts us)
all_of_all P acts [] holds = All-nil P
all_of_all P acts (u ∷ us) holds = All-append P (up_to u (length (acts u))) (all_of acts us) (up_to_all P u (length (acts u)) (λ p lt. holds (name u p) lt)) (all_of_all P acts us holds)

-- Every action of a ledger is one of these.
pub in_names : (ls : List Line) (l : Ledger) → Sound ls l → (a : Name) → is_action (trace_of l) a ≡ true → Contains (all_of l.actions threads) a
in_names ls l sound a action = in_all_of l.actions threads a (a_thread a.thread in_range) there
  where
    there : Exists l.actions a
    there = there_from l a action

    in_range : a.thread < 8
    in_range = ⊎_elim (λ small. small) (λ past. absurd (let zero_there : length (l.actions a.thread) ≡ 0 = ap length (sound.in_range a.thread past) in omega (arith, zero_there, there))) (cases_lt a.thread 8)

-- A ledger's trace has an order or a ring.
pub order_or_ring : (ls : List Line) (l : Ledger) → Sound ls l → ((names : List Name) × Order (trace_of l) names) ⊎ ((names : List Name) × Ring (trace_of l) names)
order_or_ring ls l sound = go (sort_left (trace_of l) (length names) [] names (omega arith) (record {
  actions = all_of_all (λ a. is_action (trace_of l) a ≡ true) l.actions threads (there_true l);
  unplaced = λ k d within. All-nil (λ b. b ≡ get_or names k d → ⊥);
  cover = λ a action. inr (in_names ls l sound a action);
}))
  where
    names : List Name
    names = all_of l.actions threads

    go : Outcome (trace_of l) [] → ((ns : List Name) × Order (trace_of l) ns) ⊎ ((ns : List Name) × Ring (trace_of l) ns)
    go (inl (rest, (order, all))) = inl (rest, record { ordered = order; all = all })
    go (inr ring) = inr ring

pub run_exactly_without_ring : RunExactlyWithoutRing
run_exactly_without_ring rules lawful ls ms accepted empty = record {
  no_ring = run_gives_no_ring ls (trace_of (ledger_of ls ms));
  run = λ none_there. go none_there (order_or_ring ls (ledger_of ls ms) (sound_moves rules lawful ls ms start (sound_start ls) accepted));
}
  where
    go : ((names : List Name) → Ring (trace_of (ledger_of ls ms)) names → ⊥) → ((ns : List Name) × Order (trace_of (ledger_of ls ms)) ns) ⊎ ((ns : List Name) × Ring (trace_of (ledger_of ls ms)) ns) → HasRun ls (trace_of (ledger_of ls ms))
    go none_there (inl (names, order)) = (listed_moves (trace_of (ledger_of ls ms)) names, order_gives_run rules lawful ls ms accepted empty names order)
    go none_there (inr (names, ring)) = absurd (none_there names ring)

-- Who stands next after another is another, where no name stands twice.
next_in_other : (names : List Name) (a : Name) → Different names → next_in names a a ≡ true → ⊥
next_in_other [] a once so = true≢false (sym so)
next_in_other (x ∷ []) a once so = true≢false (sym so)
next_in_other (x ∷ y ∷ names) a once so =
    ⊎_elim
    (λ here. let parts = and_parts (same x a) (same y a) here in All-head (λ b. b ≡ x → ⊥) y names once.0 (same_true y a parts.1 ∙ sym (same_true x a parts.0)))
    (λ later. next_in_other (y ∷ names) a once.1 later)
    (or_cases (same x a && same y a) (next_in (y ∷ names) a a) so)

pub self_edge : (ls : List Line) (l : Ledger) → Sound ls l → (a : Name) → edge (trace_of l) a a ≡ true → ⊥
self_edge ls l sound a joined = go (edge_parts (trace_of l) a a joined).sort (edge_parts (trace_of l) a a joined).first
  where
    go : Sort (trace_of l) a a → Exists l.actions a → ⊥
    go (next_of_thread thread position) there = omega (arith, position)
    go (next_in_cell c access so) there = next_in_other (l.drained c) a (sound.once c) so
    go (source_of c access) there = let stored = sound.sources a c (from a) there access in no_store_loads c c (from a) (sym stored.access ∙ access)
    go (overwritten_by c source access so) there = let stored = after_source_one (StoreTo l.actions c) (l.drained c) source a so (sound.drained c) in no_store_loads c c source (sym stored.access ∙ access)

pub no_edge_to_itself : NoEdgeToItself
no_edge_to_itself rules lawful ls ms accepted a = go (edge (trace_of (ledger_of ls ms)) a a) refl
  where
    go : (b : Bool) → edge (trace_of (ledger_of ls ms)) a a ≡ b → edge (trace_of (ledger_of ls ms)) a a ≡ false
    go true is = absurd (self_edge ls (ledger_of ls ms) (sound_moves rules lawful ls ms start (sound_start ls) accepted) a is)
    go false is = is
