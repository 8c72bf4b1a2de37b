-- How the way back from blocker to blocker comes to a ring and goes round it, and why the ring is written as it should be.
use Rattle.std.proofs.Common.{◌≡◌, ℕ, zero, suc, ◌+◌, ◌-◌, ◌<◌, ◌≤◌, Bool, true, false, List, length, get_or, take, drop, set, min, replicate, sym, refl, ap, ◌∙◌, subst, inl, inr, suc-add, zero-add, add-one, arith, below_more}
use Rattle.std.proofs.lemmas.List.{length-set, length-replicate, get_or-set_same, get_or-set_other, drop-set-lt, get_or-take, length-take-le}
use Rattle.std.proofs.lemmas.Bool.{cases_eq, cases_lt, both_ways}
use Rattle.graph.specs.declared.ordering.Standing.{Standing}
use Rattle.graph.specs.Placing.{missing, Unplaced}
use Rattle.graph.specs.Rings.{blocker_of, back, Closed, OnRing, Turn, Backward}
use Rattle.graph.specs.Sorting.{Ringed}
use Rattle.graph.proofs.Counting.{missing_all, missing_mark}
use Rattle.graph.proofs.Reaching.{all_false}

-- One step further back stands the blocker.
back_more : (s : List Standing) (k v : ℕ) → back s (k + 1) v ≡ blocker_of s (back s k v)
back_more s k v = ap (λ (n : ℕ). back s n v) (add-one k)

-- Some steps back, and then some more.
back_add : (s : List Standing) (k n v : ℕ) → back s (k + n) v ≡ back s k (back s n v)
back_add s zero n v = ap (λ (m : ℕ). back s m v) (zero-add n)
back_add s (suc k) n v = ap (λ (m : ℕ). back s m v) (suc-add k n) ∙ ap (λ (w : ℕ). blocker_of s w) (back_add s k n v)

-- As many steps back stands the same node.
back_same : (s : List Standing) (k n v : ℕ) → k ≡ n → back s k v ≡ back s n v
back_same s k n v e = ap (λ (m : ℕ). back s m v) e

-- The way back from a node that is not placed has such nodes alone.
back_unplaced : (s : List Standing) → Closed s → (k v : ℕ) → Unplaced s v → Unplaced s (back s k v)
back_unplaced s closed zero v u = u
back_unplaced s closed (suc k) v u = closed.step (back s k v) (back_unplaced s closed k v u)

-- The walk back from `start` where it stands at `node`: how many steps it took, and after how many it saw each node.
pub record Walked (s : List Standing) (start : ℕ) (seen : List Bool) (node : ℕ) : Type 0 where
  pub steps : ℕ
  pub many : length seen ≡ 256
  pub counted : steps + missing (length s) seen ≡ length s
  pub unplaced : Unplaced s node
  pub here : back s steps start ≡ node
  pub when : (v : ℕ) → get_or seen v false ≡ true → (k : ℕ) × (k < steps) × (back s k start ≡ v)

-- At first no node is seen.
pub walked_none : (s : List Standing) (start : ℕ) → Closed s → Unplaced s start → Walked s start (replicate 256 false) start
walked_none s start closed unplaced = record {
  steps = 0;
  many = length-replicate 256 false;
  counted = omega (arith, missing_all (length s) 256 closed.few);
  unplaced = unplaced;
  here = refl;
  when = λ v m. absurd (both_ways (get_or (replicate 256 false) v false) (all_false 256 v) m);
}

-- A node that is seen for the first time leaves one fewer to see.
pub walked_fewer : (s : List Standing) (start : ℕ) (seen : List Bool) (node : ℕ) → Closed s → Walked s start seen node → get_or seen node false ≡ false
    → missing (length s) (set seen node true) + 1 ≡ missing (length s) seen
walked_fewer s start seen node closed w new =
    missing_mark (length s) seen node (omega (arith, w.many, closed.few)) w.unplaced.0 new

-- The walk goes on from a node that it had not seen.
pub walked_more : (s : List Standing) (start : ℕ) (seen : List Bool) (node : ℕ) → Closed s → Walked s start seen node → get_or seen node false ≡ false
    → Walked s start (set seen node true) (blocker_of s node)
walked_more s start seen node closed w new = record {
  steps = w.steps + 1;
  many = length-set seen node true ∙ w.many;
  counted = omega (arith, w.counted, walked_fewer s start seen node closed w new);
  unplaced = closed.step node w.unplaced;
  here = back_more s w.steps start ∙ ap (λ (v : ℕ). blocker_of s v) w.here;
  when = λ v m.
      elim (cases_eq v node) [
        | inl e ↦ (w.steps, omega arith, w.here ∙ sym e)
        | inr ne ↦
            let before = w.when v (sym (get_or-set_other seen node v true false ne) ∙ m) in
            (before.0, omega (arith, before.1), before.2)
      ];
}

-- The walk comes to a node that it had seen.
pub walked_again : (s : List Standing) (start : ℕ) (seen : List Bool) (node : ℕ) → Walked s start seen node → get_or seen node false ≡ true
    → OnRing s node
walked_again s start seen node w m =
    let before = w.when node m in
    let k : ℕ = before.0 in
    record {
      unplaced = w.unplaced;
      round = (
        w.steps - k,
        omega (arith, before.1),
        omega (arith, w.counted),
        ap (back s (w.steps - k)) (sym before.2) ∙ sym (back_add s (w.steps - k) k start)
            ∙ back_same s (w.steps - k + k) w.steps start (omega (arith, before.1)) ∙ w.here,
      );
    }

-- The walk round from `start` where it stands at `node` after `n` steps: it has not come back to `start` before, and the
-- lowest node before `node` is `low`.
pub record Turning (s : List Standing) (start low n node : ℕ) : Type 0 where
  pub unplaced : Unplaced s node
  pub some : 0 < n
  pub within : n ≤ length s
  pub here : back s n start ≡ node
  pub away : (k : ℕ) → k < n → 0 < k → back s k start ≡ start → ⊥
  pub lowest_at : (k : ℕ) × (k < n) × (back s k start ≡ low)
  pub lowest : (k : ℕ) → k < n → low ≤ back s k start

-- The first step of the walk round.
pub turning_first : (s : List Standing) (start : ℕ) → Closed s → OnRing s start → Turning s start start 1 (blocker_of s start)
turning_first s start closed ring = record {
  unplaced = closed.step start ring.unplaced;
  some = omega arith;
  within = omega (arith, ring.unplaced.0);
  here = refl;
  away = λ k l h. absurd (omega arith);
  lowest_at = (0, omega arith, refl);
  lowest = below_more (λ (k : ℕ). start ≤ back s k start) 0 (λ k h. absurd (omega arith)) (omega arith);
}

-- The walk round that has not come back to `start` has a step to go.
pub turning_room : (s : List Standing) (start low n node : ℕ) → OnRing s start → Turning s start low n node → (node ≡ start → ⊥) → n < length s
turning_room s start low n node ring t apart =
    let m : ℕ = ring.round.0 in
    elim (cases_lt n m) [
      | inl l ↦ omega (arith, ring.round.2)
      | inr h ↦ absurd (elim (cases_eq m n) [
        | inl e ↦ apart (sym t.here ∙ back_same s n m start (sym e) ∙ ring.round.3)
        | inr ne ↦ t.away m (omega arith) ring.round.1 ring.round.3
      ])
    ]

-- The walk round goes on from `node`, which may be below all before it.
pub turning_more : (s : List Standing) (start low lower n node : ℕ) → lower ≡ min low node → Closed s → OnRing s start
    → Turning s start low n node → (node ≡ start → ⊥) → Turning s start lower (n + 1) (blocker_of s node)
turning_more s start low lower n node least closed ring t apart = record {
  unplaced = closed.step node t.unplaced;
  some = omega arith;
  within = omega (arith, turning_room s start low n node ring t apart);
  here = back_more s n start ∙ ap (λ (v : ℕ). blocker_of s v) t.here;
  away = below_more _ _ t.away (λ h e. apart (sym t.here ∙ e));
  lowest_at =
      elim (cases_lt node low) [
        | inl l ↦ (n, omega arith, omega (arith, t.here))
        | inr h ↦ (t.lowest_at.0, omega (arith, t.lowest_at.1), omega (arith, t.lowest_at.2))
      ];
  lowest = below_more _ _ (λ k h. omega (arith, t.lowest k h)) (omega (arith, t.here));
}

-- The walk round has come back to `start`: from the lowest node it is as long, and comes back to that.
pub turning_done : (s : List Standing) (start low n node : ℕ) → Closed s → OnRing s start → Turning s start low n node → node ≡ start → Turn s low n
turning_done s start low n node closed ring t e = record {
  unplaced = subst (Unplaced s) at (back_unplaced s closed a start ring.unplaced);
  some = t.some;
  within = t.within;
  round = round;
  once = λ i k l h same.
      apart (n - k + i) (omega arith) (omega arith)
      (back_add s (n - k) i low ∙ ap (back s (n - k)) same ∙ sym (back_add s (n - k) k low) ∙ back_same s (n - k + k) n low (omega arith) ∙ round);
  lowest = λ k h l. let ne = apart k h l in omega (arith, least k l);
}
  where
    a : ℕ
    a = t.lowest_at.0

    at : back s a start ≡ low
    at = t.lowest_at.2

    around : back s n start ≡ start
    around = t.here ∙ e

    -- the way back from the lowest is a part of the way back from `start`
    from_start : (k : ℕ) → back s k low ≡ back s (k + a) start
    from_start k = ap (back s k) (sym at) ∙ sym (back_add s k a start)

    -- and n steps make no difference there
    once_round : (k : ℕ) → back s (k + n) start ≡ back s k start
    once_round k = back_add s k n start ∙ ap (back s k) around

    round : back s n low ≡ low
    round = from_start n ∙ back_same s (n + a) (a + n) start (omega arith) ∙ once_round a ∙ at

    least : (k : ℕ) → k < n → low ≤ back s k low
    least k l =
        elim (cases_lt (k + a) n) [
          | inl h ↦ omega (arith, from_start k, t.lowest (k + a) h)
          | inr h ↦
              omega (
                arith,
                from_start k,
                back_same s (k + a) (k + a - n + n) start (omega arith),
                once_round (k + a - n),
                t.lowest (k + a - n) (omega (arith, t.lowest_at.1)),
              )
        ]

    apart : (k : ℕ) → 0 < k → k < n → back s k low ≡ low → ⊥
    apart k h l same =
        t.away k l h
        (sym (once_round k) ∙ back_same s (k + n) (n - a + (k + a)) start (omega (arith, t.lowest_at.1))
        ∙ back_add s (n - a) (k + a) start ∙ ap (back s (n - a)) (sym (from_start k) ∙ same ∙ sym at)
        ∙ sym (back_add s (n - a) a start) ∙ back_same s (n - a + a) n start (omega (arith, t.lowest_at.1)) ∙ around)

-- The list where the places from `at` on have been written, and the last of them holds `node`.
pub record Writing (s : List Standing) (low n : ℕ) (old : List ℕ) (at node : ℕ) (list : List ℕ) : Type 0 where
  pub unplaced : Unplaced s node
  pub here : back s (n - at) low ≡ node
  pub written : (k : ℕ) → at ≤ k → k < n → get_or list k 0 ≡ back s (n - k) low
  pub later : drop n list ≡ drop n old

-- Nothing is written.
pub writing_none : (s : List Standing) (low n : ℕ) (old : List ℕ) → Unplaced s low → Writing s low n old n low old
writing_none s low n old unplaced = record {
  unplaced = unplaced;
  here = back_same s (n - n) 0 low (omega arith);
  written = λ k h l. absurd (omega arith);
  later = refl;
}

-- One place more is written.
pub writing_more : (s : List Standing) (low n : ℕ) (old : List ℕ) (at node : ℕ) (list : List ℕ) → Closed s → Writing s low n old at node list
    → 0 < at → at ≤ n → n ≤ length list → Writing s low n old (at - 1) (blocker_of s node) (set list (at - 1) (blocker_of s node))
writing_more s low n old at node list closed w some within fits = record {
  unplaced = closed.step node w.unplaced;
  here = here;
  written = λ k h l.
      elim (cases_eq k (at - 1)) [
        | inl e ↦
            ap (λ (j : ℕ). get_or (set list (at - 1) next) j 0) e ∙ get_or-set_same list (at - 1) next 0 (omega arith) ∙ sym here
            ∙ back_same s (n - (at - 1)) (n - k) low (omega arith)
        | inr ne ↦ get_or-set_other list (at - 1) k next 0 ne ∙ w.written k (omega arith) l
      ];
  later = drop-set-lt n list (at - 1) next (omega arith) ∙ w.later;
}
  where
    next : ℕ
    next = blocker_of s node

    here : back s (n - (at - 1)) low ≡ blocker_of s node
    here = back_same s (n - (at - 1)) (n - at + 1) low (omega arith) ∙ back_more s (n - at) low ∙ ap (λ (v : ℕ). blocker_of s v) w.here

-- Where an edge leads to each node from its blocker, the way back, written from the last place to the first, is a ring.
pub written_ringed : (joins : ℕ → ℕ → Bool) (s : List Standing) (low n : ℕ) (list : List ℕ) → Closed s
    → ((v : ℕ) → Unplaced s v → joins (blocker_of s v) v ≡ true) → Turn s low n → n ≤ length list → Backward s low n list
    → Ringed joins (take n list)
written_ringed joins s low n list closed edges t fits written = record {
  some = omega (arith, many, t.some);
  once = λ i k l h same.
      elim (cases_eq i 0) [
        | inl e ↦
            t.once 0 (n - k) (omega (arith, many)) (omega (arith, many))
            (sym first ∙ ap (λ (j : ℕ). get_or ns j 0) (sym e) ∙ same ∙ at k (omega (arith, many)))
        | inr ne ↦
            t.once (n - k) (n - i) (omega (arith, many)) (omega (arith, many))
            (sym (at k (omega (arith, many))) ∙ sym same ∙ at i (omega (arith, many)))
      ];
  edges = λ k l.
      leads (get_or ns k 0) (get_or ns (k + 1) 0) (n - (k + 1)) (at (k + 1) (omega (arith, many)))
      (at k (omega (arith, many)) ∙ back_same s (n - k) (n - (k + 1) + 1) low (omega (arith, many)));
  closed =
      leads (get_or ns (length ns - 1) 0) (get_or ns 0 0) 0 first
      (at (length ns - 1) (omega (arith, many, t.some)) ∙ back_same s (n - (length ns - 1)) (0 + 1) low (omega (arith, many, t.some)));
  lowest = λ k h l. omega (arith, first, at k (omega (arith, many)), t.lowest (n - k) (omega (arith, many)) (omega (arith, many)));
}
  where
    ns : List ℕ
    ns = take n list

    many : length ns ≡ n
    many = length-take-le n list fits

    at : (k : ℕ) → k < n → get_or ns k 0 ≡ back s (n - k) low
    at k l = get_or-take n list k 0 l ∙ written k l

    first : get_or ns 0 0 ≡ low
    first = at 0 t.some ∙ back_same s (n - 0) n low (omega arith) ∙ t.round

    -- an edge leads to each node from the one a step further back
    leads : (u v k : ℕ) → v ≡ back s k low → u ≡ back s (k + 1) low → joins u v ≡ true
    leads u v k e e' =
        subst (λ (w : ℕ). joins w v ≡ true) (sym (e' ∙ back_more s k low ∙ ap (λ (w : ℕ). blocker_of s w) (sym e)))
        (edges v (subst (Unplaced s) (sym e) (back_unplaced s closed k low t.unplaced)))
