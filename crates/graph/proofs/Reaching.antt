-- What the search has found while the edges out of some nodes are still to be followed, and why in the end it has found
-- every node that a chain leads to.
use Rattle.std.proofs.Common.{◌≡◌, ℕ, ◌+◌, ◌<◌, ◌≤◌, Bool, true, false, ◌⊎◌, List, [], ◌∷◌, ◌++◌, length, get_or, drop, drop-cons, set, replicate, sym, refl, ap, ◌∙◌, subst, inl, inr, arith, below_more}
use Rattle.std.specs.List.{Contains}
use Rattle.std.proofs.lemmas.List.{length-set, length-append, length-replicate, get_or-set_same, get_or-set_other, get_or-replicate, get_or_past}
use Rattle.std.proofs.lemmas.List.Elements.{Contains-append_left, Contains-append_right, Contains-append_cases, Contains-push, Contains-push_cases}
use Rattle.std.proofs.Math.Numerals.{suc-eq-add-one}
use Rattle.std.proofs.lemmas.Bool.{cases_eq, cases_lt, both_ways}
use Rattle.graph.specs.Chains.{Chain}
use Rattle.graph.specs.Chains.Chain.{edge, onward}
use Rattle.graph.specs.Placing.{missing}
use Rattle.graph.proofs.Counting.{missing_mark}

-- the node v is marked
abbrev pub Marked : List Bool → ℕ → Type 0
Marked marks v = get_or marks v false ≡ true

-- the search comes to the node v: it is where the search began, or it is marked
abbrev pub Comes : ℕ → List Bool → ℕ → Type 0
Comes start marks v = (v ≡ start) ⊎ Marked marks v

-- every node to which an edge leads from v is marked
abbrev pub Followed : (ℕ → ℕ → Bool) → List Bool → ℕ → Type 0
Followed joins marks v = (w : ℕ) → joins v w ≡ true → Marked marks w

-- What is found while the edges out of the nodes of W are still to be followed, and those out of no other node that the
-- search comes to.
pub record Searched (joins : ℕ → ℕ → Bool) (start : ℕ) (marks : List Bool) (W : ℕ → Type 0) : Type 0 where
  pub size : length marks ≡ 256
  pub sound : (v : ℕ) → Marked marks v → Chain joins start v
  pub comes : (v : ℕ) → W v → Comes start marks v
  pub left : (v : ℕ) → Comes start marks v → W v ⊎ Followed joins marks v

-- A list of `false` has `false` everywhere.
pub all_false : (n v : ℕ) → get_or (replicate n false) v false ≡ false
all_false n v =
    elim (cases_lt v n) [
      | inl l ↦ get_or-replicate n v false false l
      | inr h ↦ get_or_past (replicate n false) v false (omega (arith, length-replicate n false))
    ]

-- A node that is marked stays so.
pub marked_keeps : (marks : List Bool) (w v : ℕ) → w < length marks → Marked marks v → Marked (set marks w true) v
marked_keeps marks w v l m =
    elim (cases_eq v w) [
      | inl e ↦ ap (λ (u : ℕ). get_or (set marks w true) u false) e ∙ get_or-set_same marks w true false l
      | inr ne ↦ get_or-set_other marks w v true false ne ∙ m
    ]

-- A node that is marked was marked before, or is the one that was marked last.
marked_from : (marks : List Bool) (w v : ℕ) → Marked (set marks w true) v → (v ≡ w) ⊎ Marked marks v
marked_from marks w v m =
    elim (cases_eq v w) [
      | inl e ↦ inl e
      | inr ne ↦ inr (sym (get_or-set_other marks w v true false ne) ∙ m)
    ]

-- Before anything is marked, the search comes to the node where it begins alone.
pub searched_first : (joins : ℕ → ℕ → Bool) (start : ℕ) (before todo : List ℕ) → before ≡ [] → todo ≡ before ++ start ∷ []
    → Searched joins start (replicate 256 false) (Contains todo)
searched_first joins start before todo none first = record {
  size = length-replicate 256 false;
  sound = λ v m. absurd (none_marked v m);
  comes = λ v at. inl (sym (only v (Contains-push_cases [] start v (subst (λ (ns : List ℕ). Contains ns v) is at))));
  left = λ v come.
      elim come [
        | inl e ↦ inl (subst (λ (ns : List ℕ). Contains ns v) (sym is) (subst (Contains ([] ++ start ∷ [])) (sym e) (Contains-push [] start)))
        | inr m ↦ absurd (none_marked v m)
      ];
}
  where
    is : todo ≡ [] ++ start ∷ []
    is = first ∙ ap (λ (ns : List ℕ). ns ++ start ∷ []) none

    none_marked : (v : ℕ) → Marked (replicate 256 false) v → ⊥
    none_marked v m = both_ways (get_or (replicate 256 false) v false) (all_false 256 v) m

    only : (v : ℕ) → Contains {X = ℕ} [] v ⊎ (start ≡ v) → start ≡ v
    only v (inl at) = absurd (omega (arith, at.1))
    only v (inr e) = e

-- The node of a list at the place n, and those behind it.
pub next_of : (found seen : List ℕ) (n d : ℕ) → seen ≡ found → n < length found → drop n found ≡ get_or seen n d ∷ drop (n + 1) found
next_of found seen n d is within =
    subst (λ (ns : List ℕ). drop n found ≡ get_or ns n d ∷ drop (n + 1) found) (sym is)
    (drop-cons found n d within ∙ ap (λ (k : ℕ). get_or found n d ∷ drop k found) (suc-eq-add-one n))

-- The next node of the list is taken: its edges are still to be followed.
pub searched_taken : (joins : ℕ → ℕ → Bool) (start : ℕ) (marks : List Bool) (old todo : List ℕ) (from : ℕ) → old ≡ from ∷ todo
    → Searched joins start marks (Contains old) → Searched joins start marks (λ v. Contains todo v ⊎ (v ≡ from))
searched_taken joins start marks old todo from e s = record {
  size = s.size;
  sound = s.sound;
  comes = λ v at. s.comes v (subst (λ (ns : List ℕ). Contains ns v) (sym e) (there v at));
  left = λ v come.
      elim (s.left v come) [
        | inl at ↦ inl (here v (Contains-append_cases (from ∷ []) todo v (subst (λ (ns : List ℕ). Contains ns v) e at)))
        | inr all ↦ inr all
      ];
}
  where
    there : (v : ℕ) → Contains todo v ⊎ (v ≡ from) → Contains (from ∷ todo) v
    there v (inl at) = Contains-append_right (from ∷ []) todo v at
    there v (inr is) = subst (Contains (from ∷ todo)) (sym is) (Contains-append_left (from ∷ []) todo from (Contains-push [] from))

    one : (v : ℕ) → Contains {X = ℕ} [] v ⊎ (from ≡ v) → v ≡ from
    one v (inl at) = absurd (omega (arith, at.1))
    one v (inr is) = sym is

    here : (v : ℕ) → Contains (from ∷ []) v ⊎ Contains todo v → Contains todo v ⊎ (v ≡ from)
    here v (inl at) = inr (one v (Contains-push_cases [] from v at))
    here v (inr at) = inl at

-- The edges out of the node that was taken have been followed.
pub searched_followed : (joins : ℕ → ℕ → Bool) (start : ℕ) (marks : List Bool) (todo : List ℕ) (from : ℕ)
    → Searched joins start marks (λ v. Contains todo v ⊎ (v ≡ from)) → Followed joins marks from → Searched joins start marks (Contains todo)
searched_followed joins start marks todo from s all = record {
  size = s.size;
  sound = s.sound;
  comes = λ v at. s.comes v (inl at);
  left = λ v come.
      elim (s.left v come) [
        | inl (inl at) ↦ inl at
        | inl (inr e) ↦ inr (subst (Followed joins marks) (sym e) all)
        | inr done ↦ inr done
      ];
}

-- A node to which an edge leads is marked. It is one of those whose edges are still to be followed now, unless the search
-- began there.
pub searched_more : (joins : ℕ → ℕ → Bool) (start : ℕ) (marks : List Bool) (V W : ℕ → Type 0) (from to : ℕ)
    → Searched joins start marks V → to < 256 → V from → joins from to ≡ true
    → ((v : ℕ) → V v → W v) → ((v : ℕ) → W v → V v ⊎ (v ≡ to)) → W to ⊎ (to ≡ start)
    → Searched joins start (set marks to true) W
searched_more joins start marks V W from to s l here leads more only new = record {
  size = length-set marks to true ∙ s.size;
  sound = λ v m.
      elim (marked_from marks to v m) [
        | inl e ↦ subst (Chain joins start) (sym e) (chain (s.comes from here))
        | inr before ↦ s.sound v before
      ];
  comes = λ v at.
      elim (only v at) [
        | inl before ↦ comes v (s.comes v before)
        | inr e ↦ inr (ap (λ (u : ℕ). get_or (set marks to true) u false) e ∙ get_or-set_same marks to true false inside)
      ];
  left = left;
}
  where
    inside : to < length marks
    inside = omega (arith, s.size)

    chain : Comes start marks from → Chain joins start to
    chain (inl e) = edge (subst (λ (u : ℕ). joins u to ≡ true) e leads)
    chain (inr m) = onward (s.sound from m) leads

    comes : (v : ℕ) → Comes start marks v → Comes start (set marks to true) v
    comes v (inl e) = inl e
    comes v (inr m) = inr (marked_keeps marks to v inside m)

    stays : (v : ℕ) → V v ⊎ Followed joins marks v → W v ⊎ Followed joins (set marks to true) v
    stays v (inl at) = inl (more v at)
    stays v (inr all) = inr (λ w leads. marked_keeps marks to w inside (all w leads))

    added : (v : ℕ) → v ≡ to → W to ⊎ (to ≡ start) → W v ⊎ Followed joins (set marks to true) v
    added v e (inl at) = inl (subst W (sym e) at)
    added v e (inr e') = stays v (s.left v (inl (e ∙ e')))

    left : (v : ℕ) → Comes start (set marks to true) v → W v ⊎ Followed joins (set marks to true) v
    left v (inl e) = stays v (s.left v (inl e))
    left v (inr m) =
        elim (marked_from marks to v m) [
          | inl e ↦ added v e new
          | inr before ↦ stays v (s.left v (inr before))
        ]

-- What is found while the edges out of `from` are followed, and those to nodes below `at` have been. There are at most n
-- nodes that are not marked or stand on the list.
pub record Following (joins : ℕ → ℕ → Bool) (start from n at : ℕ) (marks : List Bool) (todo : List ℕ) : Type 0 where
  pub searched : Searched joins start marks (λ v. Contains todo v ⊎ (v ≡ from))
  pub edges : (w : ℕ) → w < at → joins from w ≡ true → Marked marks w
  pub room : length todo + missing 256 marks ≤ n

-- An edge leads to a node that is not marked: it is marked.
following_mark : (joins : ℕ → ℕ → Bool) (start from n at : ℕ) (marks : List Bool) (todo todo' : List ℕ) → Following joins start from n at marks todo
    → at < 256 → get_or marks at false ≡ false → length todo' ≤ length todo + 1
    → Searched joins start (set marks at true) (λ v. Contains todo' v ⊎ (v ≡ from))
    → Following joins start from n (at + 1) (set marks at true) todo'
following_mark joins start from n at marks todo todo' f l new one s =
    let inside : at < length marks = omega (arith, f.searched.size) in
    record {
      searched = s;
      edges = below_more _ _ (λ w h e. marked_keeps marks at w inside (f.edges w h e)) (λ e. get_or-set_same marks at true false inside);
      room = omega (arith, f.room, missing_mark 256 marks at (omega (arith, f.searched.size)) l new);
    }

-- It is put on the list.
pub following_put : (joins : ℕ → ℕ → Bool) (start from n at : ℕ) (marks : List Bool) (todo : List ℕ) → Following joins start from n at marks todo
    → at < 256 → get_or marks at false ≡ false → true ≡ joins from at
    → Following joins start from n (at + 1) (set marks at true) (todo ++ at ∷ [])
following_put joins start from n at marks todo f l new leads =
    following_mark joins start from n at marks todo (todo ++ at ∷ []) f l new (omega (arith, length-append todo (at ∷ [])))
    (searched_more joins start marks _ _ from at f.searched l (inr refl) (sym leads) more only (inl (inl (Contains-push todo at))))
  where
    more : (v : ℕ) → Contains todo v ⊎ (v ≡ from) → Contains (todo ++ at ∷ []) v ⊎ (v ≡ from)
    more v (inl there) = inl (Contains-append_left todo (at ∷ []) v there)
    more v (inr e) = inr e

    only : (v : ℕ) → Contains (todo ++ at ∷ []) v ⊎ (v ≡ from) → (Contains todo v ⊎ (v ≡ from)) ⊎ (v ≡ at)
    only v (inl there) =
        elim (Contains-push_cases todo at v there) [
          | inl before ↦ inl (inl before)
          | inr e ↦ inr (sym e)
        ]
    only v (inr e) = inl (inr e)

-- It is the node where the search began, whose edges have been followed.
pub following_start : (joins : ℕ → ℕ → Bool) (start from n at : ℕ) (marks : List Bool) (todo : List ℕ) → Following joins start from n at marks todo
    → at < 256 → get_or marks at false ≡ false → true ≡ joins from at → at ≡ start
    → Following joins start from n (at + 1) (set marks at true) todo
following_start joins start from n at marks todo f l new leads e =
    following_mark joins start from n at marks todo todo f l new (omega arith)
    (searched_more joins start marks _ _ from at f.searched l (inr refl) (sym leads) (λ v here. here) (λ v here. inl here) (inr e))

-- The next node is passed over: it is marked if an edge leads to it.
following_pass : (joins : ℕ → ℕ → Bool) (start from n at : ℕ) (marks : List Bool) (todo : List ℕ) → Following joins start from n at marks todo
    → (joins from at ≡ true → Marked marks at) → Following joins start from n (at + 1) marks todo
following_pass joins start from n at marks todo f here = record {
  searched = f.searched;
  edges = below_more _ _ f.edges here;
  room = f.room;
}

-- It was marked already.
pub following_marked : (joins : ℕ → ℕ → Bool) (start from n at : ℕ) (marks : List Bool) (todo : List ℕ) → Following joins start from n at marks todo
    → Marked marks at → Following joins start from n (at + 1) marks todo
following_marked joins start from n at marks todo f m = following_pass joins start from n at marks todo f (λ leads. m)

-- No edge leads to it.
pub following_apart : (joins : ℕ → ℕ → Bool) (start from n at : ℕ) (marks : List Bool) (todo : List ℕ) → Following joins start from n at marks todo
    → false ≡ joins from at → Following joins start from n (at + 1) marks todo
following_apart joins start from n at marks todo f none =
    following_pass joins start from n at marks todo f (λ leads. absurd (both_ways (joins from at) (sym none) leads))

-- What holds wherever an edge leads from `start`, and passes along every edge, holds wherever a chain leads.
along : (joins : ℕ → ℕ → Bool) (P : ℕ → Type 0) (start v : ℕ) → ((w : ℕ) → joins start w ≡ true → P w)
    → ((u w : ℕ) → P u → joins u w ≡ true → P w) → Chain joins start v → P v
along joins P start v first next (edge leads) = first v leads
along joins P start v first next (onward {v = u} chain leads) =
    next u v (along joins P start u first next chain) leads

-- When no node is left whose edges are still to be followed, every node to which a chain leads is marked.
pub searched_all : (joins : ℕ → ℕ → Bool) (start : ℕ) (marks : List Bool) (W : ℕ → Type 0) → Searched joins start marks W
    → ((v : ℕ) → W v → ⊥) → (v : ℕ) → Chain joins start v → Marked marks v
searched_all joins start marks W s none v =
    along joins (Marked marks) start v (followed start (inl refl)) (λ u w m leads. followed u (inr m) w leads)
  where
    followed : (u : ℕ) → Comes start marks u → Followed joins marks u
    followed u come =
        elim (s.left u come) [
          | inl at ↦ absurd (none u at)
          | inr all ↦ all
        ]
