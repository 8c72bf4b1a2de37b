-- How the order grows by one node, why the node that is placed is the right one, and what stands when none is ready.
use Rattle.std.proofs.Common.{◌≡◌, ℕ, ◌+◌, ◌<◌, ◌≤◌, Bool, true, false, not, List, [], ◌∷◌, ◌++◌, Option, Some, None, MatchOption, length, get_or, take, drop, set, replicate, sym, refl, ap, ◌∙◌, subst, inl, inr, arith, below_more}
use Rattle.std.specs.List.{Contains, position, position_or_len}
use Rattle.std.proofs.lemmas.List.Elements.{Contains-append_left, Contains-push, Contains-push_cases}
use Rattle.std.proofs.lemmas.List.{length-set, length-append, length-map, length_push, map-append, replicate_more, get_or-set_same, get_or-set_other, get_or_append_left, get_or_push, get_or_past, length-replicate, take-append-le, take_at, drop_at, map-set}
use Rattle.std.proofs.lemmas.List.Quantifiers.{position-Some}
use Rattle.std.proofs.lemmas.List.Sums.{fails_before_first, position_or_len_is}
use Rattle.std.proofs.lemmas.Bool.{cases_eq, cases_lt, cases_Bool, both_ways, lt-ltb, le-ltb, cond-true, cond-false, not-false, not-true}
use Rattle.graph.specs.declared.ordering.Sorting.{Sorting}
use Rattle.graph.specs.declared.ordering.Standing.{Standing}
use Rattle.graph.specs.declared.ordering.Standing.TheVariants.{Placed, Ready, Behind}
use Rattle.graph.specs.Sorting.{Could, Next, Ordered, Front}
use Rattle.graph.specs.Placing.{is_placed, is_ready, marks, Blocks, Stands, Movable, missing, Blocked, Begun, Unplaced, NoneReady}
use Rattle.graph.specs.Rings.{behind, blocker_of, Closed}
use Rattle.graph.proofs.Blocking.{mark_of}
use Rattle.graph.proofs.Counting.{missing_all, missing_some, missing_mark, missing_none}
use Rattle.graph.proofs.Reaching.{all_false, marked_keeps}

-- A node that could come next is not marked.
could_unmarked : (joins : ℕ → ℕ → Bool) (size : ℕ) (s : Sorting) (v : ℕ) → Begun joins size s → Could joins size s.order.items v
    → get_or (marks s.standings.items) v false ≡ false
could_unmarked joins size s v begun could =
    elim (cases_Bool (get_or (marks s.standings.items) v false)) [
      | inl m ↦ absurd (could.new (begun.listed v m))
      | inr e ↦ e
    ]

-- There is a mark for each node.
marks_sized : (joins : ℕ → ℕ → Bool) (size : ℕ) (s : Sorting) → Begun joins size s → length (marks s.standings.items) ≡ size
marks_sized joins size s begun = length-map s.standings.items is_placed ∙ begun.sized

-- A node that could come next leaves room for it in the order.
pub room : (joins : ℕ → ℕ → Bool) (size : ℕ) (s : Sorting) (v : ℕ) → Begun joins size s → Could joins size s.order.items v
    → length s.order.items < size
room joins size s v begun could =
    omega (
      arith,
      begun.counted,
      missing_some size (marks s.standings.items) v (omega (arith, marks_sized joins size s begun)) could.node (could_unmarked joins size s v begun could),
    )

-- Once the node v is placed, a standing other than behind v says still how a node stands.
stands_movable : (joins : ℕ → ℕ → Bool) (size : ℕ) (placed : List Bool) (v w : ℕ) (x : Standing) → v < length placed → v < size
    → Stands joins size placed w x → Movable joins size (set placed v true) v w x
stands_movable joins size placed v w Placed inside l stands = record {
  there = λ e. absurd (cc);
  elsewhere = λ ne. tt;
}
stands_movable joins size placed v w Ready inside l stands = record {
  there = λ e. absurd (cc);
  elsewhere = λ ne u below leads. marked_keeps placed v u inside (stands u below leads);
}
stands_movable joins size placed v w (Behind b) inside l stands = record {
  there = λ e u below leads. let same : b ≡ v = cc in marked_keeps placed v u inside (stands.passed u (omega arith) leads);
  elsewhere = λ ne. record {
    within = stands.within;
    passed = λ u below leads. marked_keeps placed v u inside (stands.passed u below leads);
    leads = stands.leads;
    unplaced = get_or-set_other placed v b true false (λ e. ne (ap Behind e)) ∙ stands.unplaced;
  };
}

-- Once the node v is placed, each node stands as before or behind v.
pub put_movable : (joins : ℕ → ℕ → Bool) (size : ℕ) (s : Sorting) (v : ℕ) → Begun joins size s → v < size
    → (w : ℕ) → w < size → Movable joins size (marks (set s.standings.items v Placed)) v w (get_or (set s.standings.items v Placed) w Placed)
put_movable joins size s v begun l w h =
    subst (λ (ms : List Bool). Movable joins size ms v w (get_or (set s.standings.items v Placed) w Placed)) (sym (map-set is_placed s.standings.items v Placed))
    (elim (cases_eq w v) [
      | inl e ↦ subst (Movable joins size after v w) (sym (here e)) (stands_movable joins size (marks s.standings.items) v w Placed inside l tt)
      | inr ne ↦
          subst (Movable joins size after v w) (sym (get_or-set_other s.standings.items v w Placed Placed ne))
          (stands_movable joins size (marks s.standings.items) v w (get_or s.standings.items w Placed) inside l (begun.blocked w h))
    ])
  where
    after : List Bool
    after = set (marks s.standings.items) v true

    inside : v < length (marks s.standings.items)
    inside = omega (arith, marks_sized joins size s begun)

    here : w ≡ v → get_or (set s.standings.items v Placed) w Placed ≡ Placed
    here e = ap (λ (u : ℕ). get_or (set s.standings.items v Placed) u Placed) e ∙ get_or-set_same s.standings.items v Placed Placed (omega (arith, begun.sized))

-- What comes next after a list comes next after an equal one.
next_same : (joins : ℕ → ℕ → Bool) (size : ℕ) (ns ms : List ℕ) (v w : ℕ) → ms ≡ ns → w ≡ v → Next joins size ns v → Next joins size ms w
next_same joins size ns ms v w e e' n =
    subst (λ (l : List ℕ). Next joins size l w) (sym e) (subst (Next joins size ns) (sym e') n)

-- A node that comes next is placed.
pub put_begun : (joins : ℕ → ℕ → Bool) (size : ℕ) (s t : Sorting) (v : ℕ) → Begun joins size s → Next joins size s.order.items v
    → t.order.items ≡ s.order.items ++ v ∷ [] → marks t.standings.items ≡ marks (set s.standings.items v Placed)
    → Blocked joins size t.standings.items → Begun joins size t
put_begun joins size s t v begun next longer same blocked = record {
  sized = sym (length-map t.standings.items is_placed) ∙ ap (λ (ms : List Bool). length ms) new ∙ length-set old v true ∙ sized;
  few = begun.few;
  counted = omega (
    arith,
    begun.counted,
    ap (λ (ns : List ℕ). length ns) longer,
    length_push before v,
    ap (missing size) new,
    missing_mark size old v (omega (arith, sized)) next.could.node (could_unmarked joins size s v begun next.could),
  );
  listed = λ w m.
      subst (λ (ns : List ℕ). Contains ns w) (sym longer)
      (elim (cases_eq w v) [
        | inl e ↦ subst (Contains (before ++ v ∷ [])) (sym e) (Contains-push before v)
        | inr ne ↦ Contains-append_left before (v ∷ []) w (begun.listed w (sym (get_or-set_other old v w true false ne) ∙ sym (mark w) ∙ m))
      ]);
  marked = λ w has.
      mark w
      ∙ (elim (Contains-push_cases before v w (subst (λ (ns : List ℕ). Contains ns w) longer has)) [
        | inl there ↦ marked_keeps old v w inside (begun.marked w there)
        | inr e ↦ ap (λ (u : ℕ). get_or (set old v true) u false) (sym e) ∙ get_or-set_same old v true false inside
      ]);
  nexts = λ k l.
      subst (λ (ns : List ℕ). Next joins size (take k ns) (get_or ns k 0)) (sym longer)
      (below_more (λ (j : ℕ). Next joins size (take j (before ++ v ∷ [])) (get_or (before ++ v ∷ []) j 0)) (length before) earlier last k
      (omega (arith, ap (λ (ns : List ℕ). length ns) longer, length_push before v)));
  blocked = blocked;
}
  where
    before : List ℕ
    before = s.order.items

    old : List Bool
    old = marks s.standings.items

    sized : length old ≡ size
    sized = marks_sized joins size s begun

    inside : v < length old
    inside = omega (arith, sized, next.could.node)

    new : marks t.standings.items ≡ set old v true
    new = same ∙ map-set is_placed s.standings.items v Placed

    mark : (w : ℕ) → get_or (marks t.standings.items) w false ≡ get_or (set old v true) w false
    mark w = ap (λ (ms : List Bool). get_or ms w false) new

    earlier : (k : ℕ) → k < length before → Next joins size (take k (before ++ v ∷ [])) (get_or (before ++ v ∷ []) k 0)
    earlier k h =
        next_same joins size _ _ _ _ (take-append-le k before (v ∷ []) (omega arith)) (get_or_append_left before (v ∷ []) 0 k h) (begun.nexts k h)

    last : Next joins size (take (length before) (before ++ v ∷ [])) (get_or (before ++ v ∷ []) (length before) 0)
    last = next_same joins size _ _ _ _ (take_at before (v ∷ []) (length before) refl) (get_or_push before v 0 (length before) refl) next

-- No node comes before the first: one that stands behind it may be moved up from there, whatever is placed. No proof here needs it.
pub nothing_movable : (joins : ℕ → ℕ → Bool) (size : ℕ) (placed : List Bool) (v : ℕ) (x : Standing) → x ≡ Behind 0 → Movable joins size placed 0 v x
nothing_movable joins size placed v x e = record {
  there = λ e' u below leads. absurd (omega arith);
  elsewhere = λ ne. absurd (ne e);
}

-- The standings of the first n nodes before any is placed.
pub record First (joins : ℕ → ℕ → Bool) (size n : ℕ) (standings : List Standing) : Type 0 where
  pub many : length standings ≡ n
  pub unmarked : marks standings ≡ replicate n false
  pub stand : (v : ℕ) → v < n → Stands joins size (replicate size false) v (get_or standings v Placed)

pub first_none : (joins : ℕ → ℕ → Bool) (size : ℕ) (standings : List Standing) → standings ≡ [] → First joins size 0 standings
first_none joins size standings none = record {
  many = ap (λ (xs : List Standing). length xs) none;
  unmarked = ap marks none;
  stand = λ v l. absurd (omega arith);
}

-- The standing of the next node is put behind them.
pub first_more : (joins : ℕ → ℕ → Bool) (size n : ℕ) (standings : List Standing) (x : Standing) → First joins size n standings
    → is_placed x ≡ false → Stands joins size (replicate size false) n x → First joins size (n + 1) (standings ++ x ∷ [])
first_more joins size n standings x f unplaced stands = record {
  many = omega (arith, length-append standings (x ∷ []), f.many);
  unmarked = map-append is_placed standings (x ∷ []) ∙ ap (λ (b : Bool). marks standings ++ b ∷ []) unplaced
      ∙ ap (λ (ms : List Bool). ms ++ false ∷ []) f.unmarked ∙ replicate_more n false;
  stand = below_more _ _
      (λ v l. subst (Stands joins size (replicate size false) v) (sym (get_or_append_left standings (x ∷ []) Placed v (omega (arith, f.many)))) (f.stand v l))
      (subst (Stands joins size (replicate size false) n) (sym (get_or_push standings x Placed n f.many)) stands);
}

-- Those of all nodes say how each stands.
pub first_blocked : (joins : ℕ → ℕ → Bool) (size : ℕ) (standings : List Standing) → First joins size size standings → Blocked joins size standings
first_blocked joins size standings f v l =
    subst (λ (ms : List Bool). Stands joins size ms v (get_or standings v Placed)) (sym f.unmarked) (f.stand v l)

-- Before a node is placed, the order and the marks agree.
pub nothing_begun : (joins : ℕ → ℕ → Bool) (size : ℕ) (s : Sorting) → size ≤ 256 → s.order.items ≡ []
    → marks s.standings.items ≡ replicate size false → Blocked joins size s.standings.items → Begun joins size s
nothing_begun joins size s few none unmarked blocked = record {
  sized = sym (length-map s.standings.items is_placed) ∙ ap (λ (ms : List Bool). length ms) unmarked ∙ length-replicate size false;
  few = few;
  counted = omega (arith, ap (λ (ns : List ℕ). length ns) none, ap (missing size) unmarked, missing_all size size (omega arith));
  listed = λ v m. absurd (both_ways (get_or (replicate size false) v false) (all_false size v) (ap (λ (ms : List Bool). get_or ms v false) (sym unmarked) ∙ m));
  marked = λ v has. absurd (omega (arith, (subst (λ (ns : List ℕ). Contains ns v) none has).1));
  nexts = λ k l. absurd (omega (arith, ap (λ (ns : List ℕ). length ns) none));
  blocked = blocked;
}

-- A standing that is ready is that one alone.
ready_is : (x : Standing) → is_ready x ≡ true → x ≡ Ready
ready_is Placed e = absurd (cc)
ready_is Ready e = refl
ready_is (Behind b) e = absurd (cc)

-- A node that is ready could come next.
ready_could : (joins : ℕ → ℕ → Bool) (size : ℕ) (s : Sorting) (v : ℕ) → Begun joins size s
    → ((u w : ℕ) → joins u w ≡ true → u < size) → v < size → get_or s.standings.items v Placed ≡ Ready → Could joins size s.order.items v
ready_could joins size s v begun inside l e = record {
  node = l;
  new = λ has. both_ways (get_or (marks s.standings.items) v false) (mark_of s.standings.items v (omega (arith, begun.sized)) ∙ ap is_placed e) (begun.marked v has);
  ready = λ u leads. begun.listed u (subst (Stands joins size (marks s.standings.items) v) e (begun.blocked v l) u (inside u v leads) leads);
}

-- A node that could come next is ready.
could_ready : (joins : ℕ → ℕ → Bool) (size : ℕ) (s : Sorting) (v : ℕ) → Begun joins size s → Could joins size s.order.items v
    → is_ready (get_or s.standings.items v Placed) ≡ true
could_ready joins size s v begun could =
    cases (get_or s.standings.items v Placed) (begun.blocked v could.node)
    (sym (mark_of s.standings.items v (omega (arith, begun.sized, could.node))) ∙ could_unmarked joins size s v begun could)
  where
    cases : (x : Standing) → Stands joins size (marks s.standings.items) v x → is_placed x ≡ false → is_ready x ≡ true
    cases Placed stands e = absurd (cc)
    cases Ready stands e = refl
    cases (Behind b) stands e = absurd (both_ways (get_or (marks s.standings.items) b false) stands.unplaced (begun.marked b (could.ready b stands.leads)))

-- The lowest node that is ready comes next.
pub ready_next : (joins : ℕ → ℕ → Bool) (size : ℕ) (s : Sorting) (v : ℕ) → Begun joins size s
    → ((u w : ℕ) → joins u w ≡ true → u < size) → position is_ready s.standings.items ≡ Some v → Next joins size s.order.items v
ready_next joins size s v begun inside found = record {
  could = ready_could joins size s v begun inside (omega (arith, first.0, begun.sized)) (ready_is _ first.1);
  lowest = λ w could.
      elim (cases_lt w v) [
        | inl l ↦ absurd (both_ways (is_ready (get_or s.standings.items w Placed)) (first.2 w l) (could_ready joins size s w begun could))
        | inr h ↦ h
      ];
}
  where
    first : (v < length s.standings.items) × (is_ready (get_or s.standings.items v Placed) ≡ true)
        × ((k : ℕ) → k < v → is_ready (get_or s.standings.items k Placed) ≡ false)
    first = position-Some is_ready s.standings.items v Placed found

-- Where no element passes a test, none does at any place.
none_passes : {X : Type 0} (p : X → Bool) (xs : List X) (k : ℕ) (d : X) → position p xs ≡ None → k < length xs → p (get_or xs k d) ≡ false
none_passes p xs k d none l =
    elim (cases_lt (position_or_len p xs) (length xs)) [
      | inl h ↦
          let found : position p xs ≡ Some (position_or_len p xs) = cond-true _ _ _ (lt-ltb (position_or_len p xs) (length xs) h) in
          absurd (cc)
      | inr h ↦ fails_before_first p xs k d (omega arith)
    ]

-- The place that passes a test, while none before it does, is the first; and there is none where no element passes.
first_passes : {X : Type 0} (p : X → Bool) (xs : List X) (d : X) (found : Option ℕ)
    → MatchOption found ((k : ℕ) → k < length xs → p (get_or xs k d) ≡ false)
    (λ i. (i < length xs) × (p (get_or xs i d) ≡ true) × ((k : ℕ) → k < i → p (get_or xs k d) ≡ false))
    → found ≡ position p xs
first_passes p xs d None none =
    let first : position_or_len p xs ≡ length xs = position_or_len_is p xs (length xs) d (omega arith) none (λ l. absurd (omega arith)) in
    sym (cond-false _ _ _ (le-ltb (position_or_len p xs) (length xs) (omega (arith, first))))
first_passes p xs d (Some i) some =
    let first : position_or_len p xs ≡ i = position_or_len_is p xs i d (omega (arith, some.0)) some.2 (λ l. some.1) in
    sym (cond-true _ _ _ (lt-ltb (position_or_len p xs) (length xs) (omega (arith, first, some.0))) ∙ ap Some first)

-- Where the search finds no node that is ready, none is.
pub none_ready : (standings : List Standing) → position is_ready standings ≡ None → NoneReady standings
none_ready standings none v e =
    elim (cases_lt v (length standings)) [
      | inl l ↦ both_ways true (ap is_ready (sym e) ∙ none_passes is_ready standings v Placed none l) refl
      | inr h ↦ apart (sym (get_or_past standings v Placed h) ∙ e)
    ]
  where
    apart : Placed ≡ Ready → ⊥
    apart e' = cc

-- Where every node is placed, the order is complete.
pub begun_ordered : (joins : ℕ → ℕ → Bool) (size : ℕ) (s : Sorting) → Begun joins size s
    → position (λ x. not (is_placed x)) s.standings.items ≡ None → Ordered joins size s.order.items
begun_ordered joins size s begun none = record {
  many = full;
  all = λ v l. begun.listed v (marked v l);
  next = λ k l. begun.nexts k (omega (arith, full));
}
  where
    marked : (v : ℕ) → v < size → get_or (marks s.standings.items) v false ≡ true
    marked v l =
        mark_of s.standings.items v (omega (arith, begun.sized))
        ∙ not-false _ (none_passes (λ x. not (is_placed x)) s.standings.items v Placed none (omega (arith, begun.sized)))

    full : length s.order.items ≡ size
    full = omega (arith, begun.counted, missing_none size (marks s.standings.items) (omega (arith, marks_sized joins size s begun)) marked)

-- What is copied to the front of a list stands there, and the later places are as before.
pub copied_front : (P : List ℕ → Type 0) (n : ℕ) (old ns : List ℕ) → length ns ≡ n → P ns → Front P n old (ns ++ drop n old)
copied_front P n old ns many p = record {
  within = omega (arith, length-append ns (drop n old));
  front = subst P (sym (take_at ns (drop n old) n many)) p;
  later = drop_at ns (drop n old) n many;
}

-- A search of the nodes by number for the lowest without a mark finds the first that is not placed.
pub lowest_unmarked : (standings : List Standing) (end : ℕ) (found : Option ℕ) → end ≡ length standings
    → MatchOption found ((u : ℕ) → 0 ≤ u → u < end → u < length standings → get_or (marks standings) u false ≡ true)
    (λ b. (0 ≤ b) × (b < end) × (get_or (marks standings) b false ≡ false)
    × ((u : ℕ) → 0 ≤ u → u < b → u < length standings → get_or (marks standings) u false ≡ true))
    → found ≡ position (λ x. not (is_placed x)) standings
lowest_unmarked standings end None e none =
    first_passes (λ x. not (is_placed x)) standings Placed None
    (λ k l. ap not (sym (mark_of standings k l) ∙ none k (omega arith) (omega (arith, e)) l))
lowest_unmarked standings end (Some b) e some =
    first_passes (λ x. not (is_placed x)) standings Placed (Some b) (
      within,
      ap not (sym (mark_of standings b within) ∙ some.2),
      λ k l. ap not (sym (mark_of standings k (omega arith)) ∙ some.3 k (omega arith) l (omega arith)),
    )
  where
    within : b < length standings
    within = omega (arith, e, some.1)

-- The node that is found to be not placed is not marked.
pub found_unplaced : (standings : List Standing) (v : ℕ) → position (λ x. not (is_placed x)) standings ≡ Some v → Unplaced standings v
found_unplaced standings v found =
    let first = position-Some (λ x. not (is_placed x)) standings v Placed found in
    (first.0, mark_of standings v first.0 ∙ not-true _ first.1)

-- Where no node is ready, each node that is not placed stands behind another.
stuck_behind : (joins : ℕ → ℕ → Bool) (size : ℕ) (s : Sorting) → Begun joins size s → NoneReady s.standings.items → (v : ℕ) → Unplaced s.standings.items v
    → (get_or s.standings.items v Placed ≡ Behind (blocker_of s.standings.items v)) × Blocks joins size (marks s.standings.items) v (blocker_of s.standings.items v)
stuck_behind joins size s begun none v unplaced =
    cases (get_or s.standings.items v Placed) (begun.blocked v (omega (arith, begun.sized, unplaced.0)))
    (sym (mark_of s.standings.items v unplaced.0) ∙ unplaced.1) (none v)
  where
    cases : (x : Standing) → Stands joins size (marks s.standings.items) v x → is_placed x ≡ false → (x ≡ Ready → ⊥)
        → (x ≡ Behind (behind v x)) × Blocks joins size (marks s.standings.items) v (behind v x)
    cases Placed stands e ne = absurd (cc)
    cases Ready stands e ne = absurd (ne refl)
    cases (Behind b) stands e ne = (refl, stands)

-- Where no node is ready, an edge leads to each node that is not placed from its blocker.
pub stuck_edge : (joins : ℕ → ℕ → Bool) (size : ℕ) (s : Sorting) → Begun joins size s → NoneReady s.standings.items → (v : ℕ) → Unplaced s.standings.items v
    → joins (blocker_of s.standings.items v) v ≡ true
stuck_edge joins size s begun none v unplaced = (stuck_behind joins size s begun none v unplaced).1.leads

-- Where no node is ready, the blocker of a node that is not placed is not placed either, so that the way back goes on.
pub stuck_closed : (joins : ℕ → ℕ → Bool) (size : ℕ) (s : Sorting) → Begun joins size s → NoneReady s.standings.items → Closed s.standings.items
stuck_closed joins size s begun none = record {
  few = omega (arith, begun.sized, begun.few);
  stands = λ v unplaced. (stuck_behind joins size s begun none v unplaced).0;
  step = λ v unplaced.
      let here = (stuck_behind joins size s begun none v unplaced).1 in
      (omega (arith, begun.sized, here.within), here.unplaced);
}
