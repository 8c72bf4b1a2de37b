-- How the blockers move up, and what holds of each node's standing meanwhile.
use Rattle.std.proofs.Common.{◌≡◌, ℕ, ◌+◌, ◌<◌, ◌≤◌, Bool, true, false, List, Option, Some, None, MatchOption, length, get_or, set, sym, ap, ◌∙◌, subst, inl, inr, arith, below_more}
use Rattle.std.proofs.lemmas.List.{length-set, get_or-set_same, get_or-set_other, get_or-map, set-get_or, map-set, take_at}
use Rattle.std.proofs.lemmas.Bool.{cases_lt}
use Rattle.std.specs.List.{refill}
use Rattle.graph.specs.declared.ordering.Standing.{Standing}
use Rattle.graph.specs.declared.ordering.Standing.TheVariants.{Placed, Ready, Behind}
use Rattle.graph.specs.Placing.{is_placed, marks, Passed, Stands, Movable}

-- The mark of a node says whether it is placed.
pub mark_of : (standings : List Standing) (v : ℕ) → v < length standings → get_or (marks standings) v false ≡ is_placed (get_or standings v Placed)
mark_of standings v l = get_or-map is_placed standings v Placed false l

-- A list of which one place was written through a loan of all of it.
pub written : (n : ℕ) (old lent : List Standing) (v : ℕ) (x : Standing) → lent ≡ old → n ≡ length old → refill n old (set lent v x) ≡ set old v x
written n old lent v x same many =
    ap (λ (ys : List Standing). refill n old (set ys v x)) same ∙ take_at (set old v x) _ n (length-set old v x ∙ sym many)

-- What is known of the standings when those of the nodes below `at` have moved, if they were behind `from`.
pub record Moved (joins : ℕ → ℕ → Bool) (size : ℕ) (placed : List Bool) (from at : ℕ) (standings : List Standing) : Type 0 where
  pub sized : length standings ≡ size
  pub same : marks standings ≡ placed
  pub done : (v : ℕ) → v < at → Stands joins size placed v (get_or standings v Placed)
  pub ahead : (v : ℕ) → at ≤ v → v < size → Movable joins size placed from v (get_or standings v Placed)

-- The next node, which is not placed, is given another standing.
pub moved_set : (joins : ℕ → ℕ → Bool) (size : ℕ) (placed : List Bool) (from at : ℕ) (standings : List Standing) (x : Standing)
    → Moved joins size placed from at standings → at < size → get_or standings at Placed ≡ Behind from → is_placed x ≡ false
    → Stands joins size placed at x → Moved joins size placed from (at + 1) (set standings at x)
moved_set joins size placed from at standings x m l was unplaced here = record {
  sized = length-set standings at x ∙ m.sized;
  same = map-set is_placed standings at x ∙ ap (set (marks standings) at) (unplaced ∙ sym unmarked) ∙ set-get_or (marks standings) at false ∙ m.same;
  done = below_more _ _
      (λ v h. subst (Stands joins size placed v) (sym (get_or-set_other standings at v x Placed (omega arith))) (m.done v h))
      (subst (Stands joins size placed at) (sym (get_or-set_same standings at x Placed (omega (arith, m.sized)))) here);
  ahead = λ v h k.
      subst (Movable joins size placed from v) (sym (get_or-set_other standings at v x Placed (omega arith))) (m.ahead v (omega arith) k);
}
  where
    unmarked : get_or (marks standings) at false ≡ false
    unmarked = mark_of standings at (omega (arith, m.sized)) ∙ ap is_placed was

-- The next node stands otherwise, and stays so.
pub moved_stay : (joins : ℕ → ℕ → Bool) (size : ℕ) (placed : List Bool) (from at : ℕ) (standings : List Standing)
    → Moved joins size placed from at standings → at < size → (get_or standings at Placed ≡ Behind from → ⊥)
    → Moved joins size placed from (at + 1) standings
moved_stay joins size placed from at standings m l elsewhere = record {
  sized = m.sized;
  same = m.same;
  done = below_more _ _ m.done ((m.ahead at (omega arith) l).elsewhere elsewhere);
  ahead = λ v h k. m.ahead v (omega arith) k;
}

-- The node that was found to block is the lowest one, or none does.
pub stands_found : (joins : ℕ → ℕ → Bool) (size : ℕ) (placed : List Bool) (v from end : ℕ) (found : Option ℕ) (x : Standing) → end ≡ size
    → Passed joins placed v from
    → MatchOption found ((u : ℕ) → from ≤ u → u < end → joins u v ≡ true → get_or placed u false ≡ true)
    (λ b. (from ≤ b) × (b < end) × ((get_or placed b false ≡ false) × (joins b v ≡ true))
    × ((u : ℕ) → from ≤ u → u < b → joins u v ≡ true → get_or placed u false ≡ true))
    → MatchOption found (x ≡ Ready) (λ b. x ≡ Behind b) → Stands joins size placed v x
stands_found joins size placed v from end None x e before none is =
    subst (Stands joins size placed v) (sym is) (passed_on size (λ u h l leads. none u h (omega arith) leads))
  where
    passed_on : (to : ℕ) → ((u : ℕ) → from ≤ u → u < to → joins u v ≡ true → get_or placed u false ≡ true) → Passed joins placed v to
    passed_on to rest u l leads =
        elim (cases_lt u from) [
          | inl h ↦ before u h leads
          | inr h ↦ rest u h l leads
        ]
stands_found joins size placed v from end (Some b) x e before some is =
    subst (Stands joins size placed v) (sym is) (record {
      within = omega arith;
      passed = λ u l leads.
          elim (cases_lt u from) [
            | inl h ↦ before u h leads
            | inr h ↦ some.3 u h l leads
          ];
      leads = some.2.1;
      unplaced = some.2.0;
    })
