-- A trace without a ring has an order: place what is ready, until nothing is left; if something is left and nothing is
-- ready, going back from one to what blocks it must come round.
use Rattle.std.proofs.Common.{◌≡◌, ℕ, zero, suc, ◌+◌, ◌<◌, ◌≤◌, Bool, true, false, cond, not, ◌&&◌, ◌⊎◌, List, [], ◌∷◌, ◌++◌, length, get_or, filter, sym, refl, ap, ◌∙◌, subst, inl, inr, ⊎_elim, append_assoc, suc-le-suc, arith, length-append}
use Rattle.std.specs.List.{All, Any, Contains, list_any}
use Rattle.std.proofs.lemmas.List.Elements.{All-contains, All-nil, All-cons, All-head, All-tail, All-filter, All-push, All-weaker, filter_passes, Contains-append_cases, Contains-append_left, Contains-append_right, Contains-push}
use Rattle.std.proofs.lemmas.List.Filters.{length-filter_both}
use Rattle.std.proofs.lemmas.List.Folds.{Any-from_list_any, list_any_at}
use Rattle.std.proofs.lemmas.Map.Made.{Contains-tail}
use Rattle.std.proofs.lemmas.Bool.{and_parts, both_ways, cases_Bool, false_from_ne_true, not-false, not-true, true≢false}
use Rattle.ledger.specs.Actions.{Name, same}
use Rattle.ledger.specs.Edges.{Trace, edge, is_action}
use Rattle.ledger.specs.Orders.{InOrder, Lacks, Ready}
use Rattle.ledger.specs.Theorems.{Chained, Ring}
use Rattle.ledger.specs.Verdicts.{Different}
use Rattle.ledger.proofs.Counts.{contains_cases}
use Rattle.ledger.proofs.Growing.{same_self, same_true}

none_contained : (a : Name) → Contains [] a → ⊥
none_contained a there = omega (arith, there.1)

-- A list has the name at some place, or lacks it.
pub split : (names : List Name) (a : Name) → ((before : List Name) × ((after : List Name) × (names ≡ before ++ a ∷ after))) ⊎ Lacks names a
split [] a = inr (All-nil (λ b. b ≡ a → ⊥))
split (b ∷ names) a = go (same b a) refl (split names a)
  where
    go : (k : Bool) → same b a ≡ k → ((before : List Name) × ((after : List Name) × (names ≡ before ++ a ∷ after))) ⊎ Lacks names a → ((before : List Name) × ((after : List Name) × (b ∷ names ≡ before ++ a ∷ after))) ⊎ Lacks (b ∷ names) a
    go true is rest = inl ([], (names, ap (λ y. y ∷ names) (same_true b a is)))
    go false is (inl found) = inl (b ∷ found.0, (found.1.0, ap (λ l. b ∷ l) found.1.1))
    go false is (inr lacks) = inr (All-cons (λ d. d ≡ a → ⊥) b names (λ e. true≢false (sym (same_self b a e) ∙ is)) lacks)

-- Of the names of a list with x in it, those that are not x are in the list without it.
out_of : (x : Name) (before after : List Name) (a : Name) → (a ≡ x → ⊥) → Contains (before ++ x ∷ after) a → Contains (before ++ after) a
out_of x before after a other there =
    ⊎_elim (Contains-append_left before after a) (λ right. Contains-append_right before after a (Contains-tail x after a (λ e. other (sym e)) right)) (Contains-append_cases before (x ∷ after) a there)

elsewhere : (x : Name) (before after ys : List Name) → ys ≡ before ++ x ∷ after → (zs : List Name) → Lacks zs x → All (Contains ys) zs → All (Contains (before ++ after)) zs
elsewhere x before after ys is zs lacks there = λ k d within. out_of x before after (get_or zs k d) (lacks k d within) (subst (λ ns. Contains ns (get_or zs k d)) is (there k d within))

-- No more different names than there are places.
pub no_more : (xs ys : List Name) → Different xs → All (Contains ys) xs → length xs ≤ length ys
no_more [] ys once all = omega arith
no_more (x ∷ xs) ys once all = go (split ys x) (λ zs. no_more xs zs once.1)
  where
    go : ((before : List Name) × ((after : List Name) × (ys ≡ before ++ x ∷ after))) ⊎ Lacks ys x → ((zs : List Name) → All (Contains zs) xs → length xs ≤ length zs) → suc (length xs) ≤ length ys
    go (inr lacks) rest = absurd (All-contains (λ b. b ≡ x → ⊥) ys x lacks (All-head (Contains ys) x xs all) refl)
    go (inl found) rest =
        let before = found.0 in
        let after = found.1.0 in
        let is = found.1.1 in
        let few = rest (before ++ after) (elsewhere x before after ys is xs once.0 (All-tail (Contains ys) x xs all)) in
        let n : length ys ≡ length before + suc (length after) = ap length is ∙ length-append before (x ∷ after) in
        omega (arith, few, n, length-append before after)

-- Edges from each to the next.
abbrev Linked : Trace → Name → List Name → Type 0
Linked x a [] = Unit {0}
Linked x a (b ∷ names) = (edge x a b ≡ true) × Linked x b names

linked_ring : (x : Trace) (a : Name) (before : List Name) (z : Name) (after : List Name) → Linked x a (before ++ z ∷ after) → Chained x a before z
linked_ring x a [] z after linked = linked.0
linked_ring x a (b ∷ before) z after linked = (linked.0, linked_ring x b before z after linked.1)

-- Where each of the names is blocked by another of them, going back comes round.
module _ (x : Trace) (left : List Name) (blocked : (b : Name) → Contains left b → (a : Name) × (Contains left a × (edge x a b ≡ true))) where
  walk : (fuel : ℕ) (b : Name) (path : List Name) → Linked x b path → Different (b ∷ path) → All (Contains left) (b ∷ path) → length left < fuel + length (b ∷ path) → (names : List Name) × Ring x names
  walk zero b path linked once inside enough = let few = no_more (b ∷ path) left once inside in absurd (omega (arith, few, enough))
  walk (suc fuel) b path linked once inside enough = go (blocked b (All-head (Contains left) b path inside)) (λ a linked' once' inside'. walk fuel a (b ∷ path) linked' once' inside' (omega (arith, enough)))
    where
      go : (a : Name) × (Contains left a × (edge x a b ≡ true)) → ((a : Name) → Linked x a (b ∷ path) → Different (a ∷ b ∷ path) → All (Contains left) (a ∷ b ∷ path) → (names : List Name) × Ring x names) → (names : List Name) × Ring x names
      go (a, (there, joined)) further =
          ⊎_elim
          (λ found. (a ∷ found.0, linked_ring x a found.0 a found.1.0 (subst (Linked x a) found.1.1 (joined, linked))))
          (λ lacks. further a (joined, linked) (lacks, once) (All-cons (Contains left) a (b ∷ path) there inside))
          (split (b ∷ path) a)

  pub comes_round : (b : Name) → Contains left b → (names : List Name) × Ring x names
  comes_round b there = walk (length left + 1) b [] tt (All-nil (λ a. a ≡ b → ⊥), tt) (All-cons (Contains left) b [] there (All-nil (Contains left))) (omega arith)

-- none of the names has an edge to b
abbrev free : Trace → List Name → Name → Bool
free x names b = not (list_any (λ a. edge x a b) names)

-- One of the candidates is free among the names, or each is blocked.
pick : (x : Trace) (names candidates : List Name) → ((b : Name) × (Contains candidates b × All (λ a. edge x a b ≡ false) names)) ⊎ ((b : Name) → Contains candidates b → (a : Name) × (Contains names a × (edge x a b ≡ true)))
pick x names candidates = ⊎_elim (λ so. inl (found (Any-from_list_any (free x names) candidates so))) (λ so. inr (blocked so)) (cases_Bool (list_any (free x names) candidates))
  where
    found : Any (λ b. free x names b ≡ true) candidates → (b : Name) × (Contains candidates b × All (λ a. edge x a b ≡ false) names)
    found (i, b, within, is, so) = (
      b,
      (
        (i, within, is),
        λ k d lt. false_from_ne_true (edge x (get_or names k d) b) (λ joined.
            both_ways (list_any (λ a. edge x a b) names) (not-true (list_any (λ a. edge x a b) names) so) (list_any_at (λ a. edge x a b) names k d lt joined)),
      ),
    )

    blocked : list_any (free x names) candidates ≡ false → (b : Name) → Contains candidates b → (a : Name) × (Contains names a × (edge x a b ≡ true))
    blocked none b (k, within, is) =
        let not_free = false_from_ne_true (free x names b) (λ so. both_ways (list_any (free x names) candidates) none (list_any_at (free x names) candidates k b within (subst (λ d. free x names d ≡ true) (sym is) so))) in
        let (j, a, there, at, joined) = Any-from_list_any (λ a. edge x a b) names (not-false (list_any (λ a. edge x a b) names) not_free) in
        (a, ((j, there, at), joined))

-- the others
abbrev others : Name → List Name → List Name
others b names = filter (λ a. not (same a b)) names

in_others : (b a : Name) (names : List Name) → (a ≡ b → ⊥) → Contains names a → Contains (others b names) a
in_others b a [] other there = absurd (none_contained a there)
in_others b a (d ∷ names) other there = go (same d b) refl (contains_cases d names a there) (in_others b a names other)
  where
    go : (k : Bool) → same d b ≡ k → (d ≡ a) ⊎ Contains names a → (Contains names a → Contains (others b names) a) → Contains (cond (not k) (d ∷ others b names) (others b names)) a
    go true is t rest = ⊎_elim (λ e. absurd (other (sym e ∙ same_true d b is))) rest t
    go false is t rest = ⊎_elim (λ e. (0, omega arith, e)) (λ later. Contains-append_right (d ∷ []) (others b names) a (rest later)) t

others_le : (b : Name) (names : List Name) → length (others b names) ≤ length names
others_le b names = let both = length-filter_both (λ a. not (same a b)) (λ a. same a b) (λ a. twice (same a b)) names in omega (arith, both)
  where
    twice : (k : Bool) → k ≡ not (not k)
    twice true = refl
    twice false = refl

others_less : (b : Name) (names : List Name) → Contains names b → length (others b names) < length names
others_less b [] there = absurd (none_contained b there)
others_less b (d ∷ names) there = go (same d b) refl (contains_cases d names b there) (others_le b names) (others_less b names)
  where
    go : (k : Bool) → same d b ≡ k → (d ≡ b) ⊎ Contains names b → length (others b names) ≤ length names → (Contains names b → length (others b names) < length names) → length (cond (not k) (d ∷ others b names) (others b names)) < suc (length names)
    go true is t few rest = omega (arith, few)
    go false is t few rest = ⊎_elim (λ e. absurd (true≢false (sym (same_self d b e) ∙ is))) (λ later. suc-le-suc (rest later)) t

others_apart : (b : Name) (names : List Name) → Lacks (others b names) b
others_apart b names = All-weaker (λ a. not (same a b) ≡ true) (λ a. a ≡ b → ⊥) (λ a kept is. both_ways (same a b) (not-true (same a b) kept) (same_self a b is)) (others b names) (filter_passes (λ a. not (same a b)) names)

-- what sorting comes to: an order of what is left, or a ring
abbrev pub Outcome : Trace → List Name → Type 0
Outcome x placed = ((rest : List Name) × (InOrder x placed rest × ((a : Name) → is_action x a ≡ true → Contains (placed ++ rest) a))) ⊎ ((names : List Name) × Ring x names)

module _ (x : Trace) where
  -- what is known of the names that are left: each is an action that is not placed, and every other action is placed
  pub record Left (placed left : List Name) : Type 0 where
    pub actions : All (λ a. is_action x a ≡ true) left
    pub unplaced : All (Lacks placed) left
    pub cover : (a : Name) → is_action x a ≡ true → Contains placed a ⊎ Contains left a

  -- An edge comes from an action.
  source_action : (a b : Name) → edge x a b ≡ true → is_action x a ≡ true
  source_action a b joined = (and_parts (is_action x a) (is_action x b) (and_parts (is_action x a && is_action x b) _ joined).0).0

  left_less : (placed left : List Name) (b : Name) → Left placed left → Contains left b → Left (placed ++ b ∷ []) (others b left)
  left_less placed left b so_far there = record {
    actions = All-filter (λ a. not (same a b)) (λ a. is_action x a ≡ true) left so_far.actions;
    unplaced = λ k d within. All-push (λ e. e ≡ get_or (others b left) k d → ⊥) placed b
        (All-filter (λ a. not (same a b)) (Lacks placed) left so_far.unplaced k d within) (λ e. others_apart b left k d within (sym e));
    cover = λ a action. ⊎_elim
        (λ has. inl (Contains-append_left placed (b ∷ []) a has))
        (λ in_left'. go a in_left' (same a b) refl)
        (so_far.cover a action);
  }
    where
      go : (a : Name) → Contains left a → (k : Bool) → same a b ≡ k → Contains (placed ++ b ∷ []) a ⊎ Contains (others b left) a
      go a in_left' true is = inl (subst (Contains (placed ++ b ∷ [])) (sym (same_true a b is)) (Contains-push placed b))
      go a in_left' false is = inr (in_others b a left (λ e. true≢false (sym (same_self a b e) ∙ is)) in_left')

  pub sort_left : (fuel : ℕ) (placed left : List Name) → length left ≤ fuel → Left placed left → Outcome x placed
  sort_left zero placed [] few so_far = inl ([], (tt, λ a action. ⊎_elim (Contains-append_left placed [] a) (λ there. absurd (none_contained a there)) (so_far.cover a action)))
  sort_left zero placed (b ∷ left) few so_far = absurd (omega (arith, few))
  sort_left (suc fuel) placed [] few so_far = inl ([], (tt, λ a action. ⊎_elim (Contains-append_left placed [] a) (λ there. absurd (none_contained a there)) (so_far.cover a action)))
  sort_left (suc fuel) placed (d ∷ left) few so_far = go (pick x (d ∷ left) (d ∷ left)) (λ b less. sort_left fuel (placed ++ b ∷ []) (others b (d ∷ left)) less)
    where
      go : ((b : Name) × (Contains (d ∷ left) b × All (λ a. edge x a b ≡ false) (d ∷ left))) ⊎ ((b : Name) → Contains (d ∷ left) b → (a : Name) × (Contains (d ∷ left) a × (edge x a b ≡ true))) → ((b : Name) → length (others b (d ∷ left)) ≤ fuel → Left (placed ++ b ∷ []) (others b (d ∷ left)) → Outcome x (placed ++ b ∷ [])) → Outcome x placed
      go (inr blocked) further = inr (comes_round x (d ∷ left) blocked d (0, omega arith, refl))
      go (inl (b, (there, free))) further = on (further b (let less = others_less b (d ∷ left) there in omega (arith, less, few)) (left_less placed (d ∷ left) b so_far there))
        where
          ready : Ready x placed b
          ready a joined = ⊎_elim (λ has. has) (λ in_left'. absurd (both_ways (edge x a b) (All-contains (λ y. edge x y b ≡ false) (d ∷ left) a free in_left') joined)) (so_far.cover a (source_action a b joined))

          on : Outcome x (placed ++ b ∷ []) → Outcome x placed
          on (inr ring) = inr ring
          on (inl (rest, (order, all))) =
              inl (b ∷ rest, ((All-contains (λ a. is_action x a ≡ true) (d ∷ left) b so_far.actions there, All-contains (Lacks placed) (d ∷ left) b so_far.unplaced there, ready, order), λ a action. subst (λ ns. Contains ns a) (append_assoc placed (b ∷ []) rest) (all a action)))
