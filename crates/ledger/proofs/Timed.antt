-- A run gives no ring: over direct every edge goes forward in time.
use Rattle.std.proofs.Common.{◌≡◌, ℕ, ◌+◌, ◌<◌, ◌≤◌, Bool, true, false, cond, List, [], ◌∷◌, ◌++◌, map, length, Some, None, Option, sym, refl, ap, ◌∙◌, subst, ⊎_elim, arith}
use Rattle.std.specs.List.{All, Contains}
use Rattle.std.proofs.lemmas.List.Elements.{All-nil, All-cons, All-head}
use Rattle.std.proofs.lemmas.Bool.{and_parts, cases_lt, cond-false, cond-true, true≢false}
use Rattle.program.specs.declared.forms.Instruction.{Instruction}
use Rattle.program.specs.declared.forms.Instruction.TheVariants.{Load, Store, Fence, Compute, Assert}
use Rattle.program.specs.declared.lines.Line.{Line}
use Rattle.buffers.specs.Kinds.{direct}
use Rattle.buffers.specs.Lists.{none_of, nothing_waits}
use Rattle.ledger.specs.Actions.{Access, Action, Name, Source, from, loads, name, none, same, stores}
use Rattle.ledger.specs.Edges.{after_source, edge, first_in, trace_of}
use Rattle.ledger.specs.Ledgers.{Entry, Ledger, action_at, operand}
use Rattle.ledger.specs.Moves.{act, action_of, added, asked, forwarded, in_memory, issued, last_of, read, youngest}
use Rattle.ledger.specs.Runs.{NothingWaits}
use Rattle.ledger.specs.Tests.{lists_in, threads}
use Rattle.ledger.proofs.Apart.{Sort, after_source_one, edge_parts, next_in_both, next_in_cell, next_of_thread, none_after_last, overwritten_by, source_of}
use Rattle.ledger.proofs.Counts.{a_thread, contains_cases}
use Rattle.ledger.proofs.Growing.{Exists, grown, new, new_is, old_or_new, same_self, same_true, update_all}
use Rattle.ledger.proofs.Passing.{RunPasses}
use Rattle.ledger.proofs.Replayed.{by_from_reads, by_program_order, by_reads_from, by_store_order, there_true}
use Rattle.ledger.proofs.Sound.{Entered, Sound, StoreTo, new_source}

-- Where the rules of direct let a thread step, nothing waits in any of the eight threads,
none_from : (es : List Entry) → none_of (map (λ e. e.store) es) ≡ true → es ≡ []
none_from [] so = refl
none_from (e ∷ es) so = absurd (true≢false (sym so))

none_among : (l : Ledger) (us : List ℕ) → nothing_waits (map (λ t. map (λ e. e.store) (l.waiting t)) us) ≡ true → (u : ℕ) → Contains us u → l.waiting u ≡ []
none_among l [] so u there = absurd (omega (arith, there.1))
none_among l (v ∷ us) so u there =
    let both = and_parts (none_of (map (λ e. e.store) (l.waiting v))) (nothing_waits (map (λ t. map (λ e. e.store) (l.waiting t)) us)) so in
    ⊎_elim (λ is. subst (λ k. l.waiting k ≡ []) is (none_from (l.waiting v) both.0)) (none_among l us both.1 u) (contains_cases v us u there)

-- and so nowhere, since no other thread has an action.
pub nothing_waits_from : (ls : List Line) (l : Ledger) → Sound ls l → nothing_waits (lists_in l) ≡ true → NothingWaits l
nothing_waits_from ls l sound so u = ⊎_elim (λ small. none_among l threads so u (a_thread u small)) (λ past. go past (l.waiting u) refl (sound.entries u)) (cases_lt u 8)
  where
    go : 8 ≤ u → (es : List Entry) → l.waiting u ≡ es → All (Entered l.actions u) (l.waiting u) → l.waiting u ≡ []
    go past [] is all = is
    go past (e ∷ es) is all =
        let entered = All-head (Entered l.actions u) e es (subst (All (Entered l.actions u)) is all) in
        let none_there : length (l.actions u) ≡ 0 = ap length (sound.in_range u past) in
        absurd (omega (arith, entered.exists, none_there))

-- Every action has a time below n, every edge goes forward, and a store that waits is later than all else.
pub record Timed (l : Ledger) (time : Name → ℕ) (n : ℕ) : Type 0 where
  pub below : (a : Name) → Exists l.actions a → time a < n
  pub up : (a b : Name) → edge (trace_of l) a b ≡ true → time a < time b
  pub last : (t : ℕ) → All (λ e. (a : Name) → Exists l.actions a → (a ≡ name t e.position → ⊥) → time a < time (name t e.position)) (l.waiting t)

last_none : (names : List Name) → last_of names ≡ None → names ≡ []
last_none [] is = refl
last_none (a ∷ []) is = grind arith
last_none (a ∷ b ∷ names) is = let rest = last_none (b ∷ names) is in grind arith

module _ (ls : List Line) (l : Ledger) (sound : Sound ls l) (empty : NothingWaits l) (t k : ℕ) (passed : RunPasses direct ls l t k) (time : Name → ℕ) (n : ℕ) (timed : Timed l time n) where
  abbrev x : Action
  x = action_of l t k passed.line

  abbrev next : Ledger
  next = added l t passed.line x

  abbrev fresh : Name
  fresh = new l.actions t x

  -- the new action comes last
  abbrev pub later : Name → ℕ
  later a = cond (same a fresh) n (time a)

  later_new : (a : Name) → a ≡ fresh → later a ≡ n
  later_new a is = cond-true (same a fresh) n (time a) (same_self a fresh is)

  later_old : (a : Name) → Exists l.actions a → later a ≡ time a
  later_old a there = cond-false (same a fresh) n (time a) (go (same a fresh) refl)
    where
      go : (b : Bool) → same a fresh ≡ b → same a fresh ≡ false
      go true is = absurd (let p : a ≡ fresh = same_true a fresh is in let far : length (l.actions t) < length (l.actions t) = subst (λ y. y.position < length (l.actions y.thread)) p there in omega (arith, far))
      go false is = is

  forward_old : (a b : Name) → Exists l.actions a → Exists l.actions b → edge (trace_of l) a b ≡ true → later a < later b
  forward_old a b a_there b_there joined = let e = later_old a a_there in let f = later_old b b_there in let u = timed.up a b joined in omega (arith, e, f, u)

  forward_new : (a b : Name) → Exists l.actions a → b ≡ fresh → later a < later b
  forward_new a b a_there is = let e = later_old a a_there in let f = later_new b is in let u = timed.below a a_there in omega (arith, e, f, u)

  access_old : (a : Name) (access : Access) → Exists l.actions a → (action_at next.actions a).access ≡ access → (action_at l.actions a).access ≡ access
  access_old a access there is = ap (λ y. y.access) (sym ((grown l.actions t x).as_was a there)) ∙ is

  access_new : (a : Name) (access : Access) → a ≡ fresh → (action_at next.actions a).access ≡ access → x.access ≡ access
  access_new a access is_new is = ap (λ y. y.access) (sym (new_is l.actions t x)) ∙ ap (λ y. (action_at next.actions y).access) (sym is_new) ∙ is

  -- A new load reads the last drained store, so nothing overwrote what it read.
  reads_last : (c : ℕ) (source : Source) → x.access ≡ loads c source → (in_memory l c (last_of (l.drained c))).source ≡ source
  reads_last c source is = go passed.line.instruction is
    where
      rs : ℕ → ℕ
      rs = (l.locals t).registers

      go : (i : Instruction) → (act rs k i (read l t (asked rs i))).access ≡ loads c source → (in_memory l c (last_of (l.drained c))).source ≡ source
      go (Load register address) e =
          let c_is : operand rs address ≡ c = cc in
          let source_is : (read l t (operand rs address)).source ≡ source = cc in
          let memory : read l t (operand rs address) ≡ in_memory l (operand rs address) (last_of (l.drained (operand rs address))) = ap (λ es. forwarded t (youngest (operand rs address) es) (in_memory l (operand rs address) (last_of (l.drained (operand rs address))))) (empty t) in
          ap (λ d. (in_memory l d (last_of (l.drained d))).source) (sym c_is) ∙ ap (λ r. r.source) (sym memory) ∙ source_is
      go (Store address value) e = grind arith
      go Fence e = grind arith
      go (Compute register operation y z') e = grind arith
      go (Assert condition) e = grind arith

  not_overwritten : (c : ℕ) (source : Source) (b : Name) → x.access ≡ loads c source → after_source (l.drained c) source b ≡ true → ⊥
  not_overwritten c source b is so = go (last_of (l.drained c)) refl (subst (λ s. after_source (l.drained c) s b ≡ true) (sym (reads_last c source is)) so)
    where
      go : (o : Option Name) → last_of (l.drained c) ≡ o → after_source (l.drained c) (in_memory l c (last_of (l.drained c))).source b ≡ true → ⊥
      go (Some s) last so' = none_after_last (l.drained c) s b (sound.once c) last (subst (λ p. after_source (l.drained c) (in_memory l c p).source b ≡ true) last so')
      go None last so' = true≢false (sym (subst (λ names. first_in names b ≡ true) (last_none (l.drained c) last) (subst (λ p. after_source (l.drained c) (in_memory l c p).source b ≡ true) last so')))

  up_next : (a b : Name) → edge (trace_of next) a b ≡ true → later a < later b
  up_next a b joined = go (edge_parts (trace_of next) a b joined).sort (edge_parts (trace_of next) a b joined).first (edge_parts (trace_of next) a b joined).second
    where
      go : Sort (trace_of next) a b → Exists next.actions a → Exists next.actions b → later a < later b
      go (next_of_thread thread position) a_there b_there =
          ⊎_elim
          (λ b_old.
          let a_old : Exists l.actions a = subst (λ u. a.position < length (l.actions u)) (sym thread) (omega (arith, position, b_old)) in
          forward_old a b a_old b_old (by_program_order (trace_of l) a b (there_true l a a_old) (there_true l b b_old) thread position))
          (λ b_new. ⊎_elim (λ a_old. forward_new a b a_old b_new) (λ a_new. absurd (let p : a.position ≡ b.position = ap (λ y. y.position) (a_new ∙ sym b_new) in omega (arith, p, position))) (old_or_new l.actions t x a a_there))
          (old_or_new l.actions t x b b_there)
      go (next_in_cell c access so) a_there b_there =
          let both = next_in_both (StoreTo l.actions c) (l.drained c) a b so (sound.drained c) in
          forward_old a b both.0.exists both.1.exists (by_store_order (trace_of l) a b (there_true l a both.0.exists) (there_true l b both.1.exists) c both.0.access so)
      go (source_of c access) a_there b_there =
          ⊎_elim
          (λ b_old.
          let was = access_old b (loads c (from a)) b_old access in
          let a_old = (sound.sources b c (from a) b_old was).exists in
          forward_old a b a_old b_old (by_reads_from (trace_of l) a b (there_true l a a_old) (there_true l b b_old) c (from a) was (same_self a a refl)))
          (λ b_new. forward_new a b (new_source ls l sound direct t k passed c (from a) (access_new b (loads c (from a)) b_new access)).exists b_new)
          (old_or_new l.actions t x b b_there)
      go (overwritten_by c source access so) a_there b_there =
          let b_old = (after_source_one (StoreTo l.actions c) (l.drained c) source b so (sound.drained c)).exists in
          ⊎_elim
          (λ a_old. forward_old a b a_old b_old (by_from_reads (trace_of l) a b (there_true l a a_old) (there_true l b b_old) (loads c source) (access_old a (loads c source) a_old access) so))
          (λ a_new. absurd (not_overwritten c source b (access_new a (loads c source) a_new access) so))
          (old_or_new l.actions t x a a_there)

  below_next : (a : Name) → Exists next.actions a → later a < n + 1
  below_next a there =
      ⊎_elim (λ old. let e = later_old a old in let u = timed.below a old in omega (arith, e, u)) (λ is. let e = later_new a is in omega (arith, e)) (old_or_new l.actions t x a there)

  abbrev Latest : ℕ → Entry → Type 0
  Latest u e = (a : Name) → Exists next.actions a → (a ≡ name u e.position → ⊥) → later a < later (name u e.position)

  -- What waits now is the new store, if it is one.
  last_here : All (Latest t) (issued (length (l.actions t)) x.value x.access)
  last_here = go x.access
    where
      go : (access : Access) → All (Latest t) (issued (length (l.actions t)) x.value access)
      go none = All-nil (Latest t)
      go (stores c) = All-cons (Latest t) _ [] (λ a there other. ⊎_elim (λ old. forward_new a fresh old refl) (λ is. absurd (other is)) (old_or_new l.actions t x a there)) (All-nil (Latest t))
      go (loads c source) = All-nil (Latest t)

  last_next : (u : ℕ) → All (Latest u) (next.waiting u)
  last_next =
      update_all l.waiting t (l.waiting t ++ issued (length (l.actions t)) x.value x.access) (λ u. All (Latest u))
      (subst (λ es. All (Latest t) (es ++ issued (length (l.actions t)) x.value x.access)) (sym (empty t)) last_here)
      (λ u other. subst (All (Latest u)) (sym (empty u)) (All-nil (Latest u)))

  -- A run over direct goes on in time.
  pub timed_run : Timed next later (n + 1)
  timed_run = record { below = below_next; up = up_next; last = last_next }
