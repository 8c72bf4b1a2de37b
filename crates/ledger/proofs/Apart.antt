-- An edge, by its four sorts; and that it is the same edge in the same trace.
use Rattle.std.proofs.Common.{◌≡◌, ℕ, ◌+◌, true, false, ◌&&◌, eqb, ◌⊎◌, List, [], ◌∷◌, ◌++◌, length, Some, sym, refl, ap, ◌∙◌, subst, inl, inr, ⊎_elim}
use Rattle.std.specs.List.{All}
use Rattle.std.proofs.lemmas.List.Elements.{All-head, All-tail}
use Rattle.std.proofs.lemmas.Bool.{and_parts, eqb-true, ltb-true, or_cases, or_left, or_right, true≢false}
use Rattle.ledger.specs.Actions.{Access, Name, Source, from, initial, loads, none, same, stores}
use Rattle.ledger.specs.Edges.{Trace, after_source, edge, first_in, from_reads, is_action, next_in, program_order, reads_from, store_order}
use Rattle.ledger.specs.Ledgers.{action_at}
use Rattle.ledger.specs.Moves.{last_of}
use Rattle.ledger.specs.Verdicts.{Different}
use Rattle.ledger.proofs.Growing.{Exists, same_true}
use Rattle.ledger.proofs.Waits.{last_all}

-- the four sorts
pub data Sort (x : Trace) (a b : Name) : Type 0 where
  next_of_thread : a.thread ≡ b.thread → a.position + 1 ≡ b.position → Sort x a b
  next_in_cell : (c : ℕ) → (action_at x.actions a).access ≡ stores c → next_in (x.drained c) a b ≡ true → Sort x a b
  source_of : (c : ℕ) → (action_at x.actions b).access ≡ loads c (from a) → Sort x a b
  overwritten_by : (c : ℕ) (source : Source) → (action_at x.actions a).access ≡ loads c source → after_source (x.drained c) source b ≡ true → Sort x a b

pub record EdgeParts (x : Trace) (a b : Name) : Type 0 where
  pub first : Exists x.actions a
  pub second : Exists x.actions b
  pub sort : Sort x a b

pub edge_parts : (x : Trace) (a b : Name) → edge x a b ≡ true → EdgeParts x a b
edge_parts x a b joined =
    let outer = and_parts (is_action x a && is_action x b) _ joined in
    let both = and_parts (is_action x a) (is_action x b) outer.0 in
    record {
      first = ltb-true a.position (length (x.actions a.thread)) both.0;
      second = ltb-true b.position (length (x.actions b.thread)) both.1;
      sort = ⊎_elim by_thread (λ rest. ⊎_elim (by_cell (action_at x.actions a).access refl) (λ rest'. ⊎_elim (by_source (action_at x.actions b).access refl) (by_overwriting (action_at x.actions a).access refl) (or_cases (reads_from a (action_at x.actions b).access) _ rest')) (or_cases (store_order x a (action_at x.actions a).access b) _ rest)) (or_cases (program_order a b) _ outer.1);
    }
  where
    by_thread : program_order a b ≡ true → Sort x a b
    by_thread so = let parts = and_parts (eqb a.thread b.thread) (eqb (a.position + 1) b.position) so in next_of_thread (eqb-true a.thread b.thread parts.0) (eqb-true (a.position + 1) b.position parts.1)

    by_cell : (access : Access) → (action_at x.actions a).access ≡ access → store_order x a access b ≡ true → Sort x a b
    by_cell none is so = absurd (true≢false (sym so))
    by_cell (stores c) is so = next_in_cell c is so
    by_cell (loads c source) is so = absurd (true≢false (sym so))

    by_source : (access : Access) → (action_at x.actions b).access ≡ access → reads_from a access ≡ true → Sort x a b
    by_source none is so = absurd (true≢false (sym so))
    by_source (stores c) is so = absurd (true≢false (sym so))
    by_source (loads c initial) is so = absurd (true≢false (sym so))
    by_source (loads c (from s)) is so = source_of c (is ∙ ap (λ k. loads c (from k)) (same_true s a so))

    by_overwriting : (access : Access) → (action_at x.actions a).access ≡ access → from_reads x access b ≡ true → Sort x a b
    by_overwriting none is so = absurd (true≢false (sym so))
    by_overwriting (stores c) is so = absurd (true≢false (sym so))
    by_overwriting (loads c source) is so = overwritten_by c source is so

-- Who stands next after another is in the list, and so is the other.
pub next_in_both : (P : Name → Type 0) (names : List Name) (a b : Name) → next_in names a b ≡ true → All P names → P a × P b
next_in_both P [] a b so all = absurd (true≢false (sym so))
next_in_both P (x ∷ []) a b so all = absurd (true≢false (sym so))
next_in_both P (x ∷ y ∷ names) a b so all =
    ⊎_elim
    (λ here. let parts = and_parts (same x a) (same y b) here in (subst P (same_true x a parts.0) (All-head P x (y ∷ names) all), subst P (same_true y b parts.1) (All-head P y names (All-tail P x (y ∷ names) all))))
    (λ later. next_in_both P (y ∷ names) a b later (All-tail P x (y ∷ names) all))
    (or_cases (same x a && same y b) (next_in (y ∷ names) a b) so)

pub first_in_one : (P : Name → Type 0) (names : List Name) (b : Name) → first_in names b ≡ true → All P names → P b
first_in_one P [] b so all = absurd (true≢false (sym so))
first_in_one P (x ∷ names) b so all = subst P (same_true x b so) (All-head P x names all)

pub after_source_one : (P : Name → Type 0) (names : List Name) (source : Source) (b : Name) → after_source names source b ≡ true → All P names → P b
after_source_one P names initial b so all = first_in_one P names b so all
after_source_one P names (from s) b so all = (next_in_both P names s b so all).1

-- Nothing stands next after the last, where no name stands twice.
pub none_after_last : (names : List Name) (a b : Name) → Different names → last_of names ≡ Some a → next_in names a b ≡ true → ⊥
none_after_last [] a b once last so = true≢false (sym so)
none_after_last (x ∷ []) a b once last so = true≢false (sym so)
none_after_last (x ∷ y ∷ names) a b once last so =
    ⊎_elim
    (λ here. let x_is = same_true x a (and_parts (same x a) (same y b) here).0 in last_all (λ b. b ≡ x → ⊥) (y ∷ names) x (last ∙ ap Some (sym x_is)) once.0 refl)
    (λ later. none_after_last (y ∷ names) a b once.1 last later)
    (or_cases (same x a && same y b) (next_in (y ∷ names) a b) so)

-- In a list with one more name, the new name stands next after the old last, and nothing else is new.
pub next_in_push : (names : List Name) (x a b : Name) → next_in (names ++ x ∷ []) a b ≡ true → (next_in names a b ≡ true) ⊎ ((last_of names ≡ Some a) × (b ≡ x))
next_in_push [] x a b so = absurd (true≢false (sym so))
next_in_push (y ∷ []) x a b so =
    ⊎_elim
    (λ here. let parts = and_parts (same y a) (same x b) here in inr (ap Some (same_true y a parts.0), sym (same_true x b parts.1)))
    (λ later. absurd (true≢false (sym later)))
    (or_cases (same y a && same x b) false so)
next_in_push (y ∷ z ∷ names) x a b so =
    ⊎_elim
    (λ here. inl (or_left (same y a && same z b) (next_in (z ∷ names) a b) here))
    (λ later. ⊎_elim (λ old. inl (or_right (same y a && same z b) (next_in (z ∷ names) a b) old)) (λ new. inr new) (next_in_push (z ∷ names) x a b later))
    (or_cases (same y a && same z b) (next_in (z ∷ names ++ x ∷ []) a b) so)

pub first_in_push : (names : List Name) (x b : Name) → first_in (names ++ x ∷ []) b ≡ true → (first_in names b ≡ true) ⊎ (b ≡ x)
first_in_push [] x b so = inr (sym (same_true x b so))
first_in_push (y ∷ names) x b so = inl so
