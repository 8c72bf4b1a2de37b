-- An order of the nodes makes `sequential` true, and a ring of them makes `violation` true.
use Rattle.std.proofs.Common.{◌≡◌, ℕ, zero, suc, ◌+◌, ◌-◌, ◌<◌, ◌≤◌, Bool, true, false, cond, ◌&&◌, eqb, ltb, List, [], ◌∷◌, ◌++◌, map, length, get_or, take, drop, sym, refl, ap, ◌∙◌, subst, inl, ⊎_elim, suc-le-suc, arith}
use lib.ListN.{length-map}
use Rattle.std.specs.List.{Contains, All}
use Rattle.std.proofs.lemmas.List.Elements.{All-from_get_or, All-map, Contains-append_left, Contains-get_or, Contains-push, Contains-push_cases}
use Rattle.std.proofs.lemmas.List.{get_or_default, drop_all, drop_more, get_or-map, get_or-take, length-take, map_push, take_more}
use Rattle.std.proofs.lemmas.Bool.{and_from, and_parts, cases_eq, cases_lt, cond-false, cond-true, eq-eqb, lt-ltb, ltb-true, ne_eqb}
use Rattle.graph.specs.Sorting.{Next, Ordered, Ringed}
use Rattle.program.specs.declared.lines.Line.{Line}
use Rattle.ledger.specs.Actions.{Name, name}
use Rattle.ledger.specs.Edges.{Trace, edge, is_action, trace_of}
use Rattle.ledger.specs.Judged.{Judged}
use Rattle.ledger.specs.Ledgers.{Ledger, start}
use Rattle.ledger.specs.Moves.{ledger_of}
use Rattle.ledger.specs.Nodes.{node_joins, node_name, nodes}
use Rattle.ledger.specs.Orders.{InOrder, Lacks, Order, Ready}
use Rattle.ledger.specs.Theorems.{Chained}
use Rattle.ledger.specs.Verdicts.{Different, ListsRing, Lower, LowestFirst, count_of, next_of}
use Rattle.ledger.proofs.Apart.{edge_parts}
use Rattle.ledger.proofs.Draining.{sound_moves}
use Rattle.ledger.proofs.Exact.{self_edge}
use Rattle.ledger.proofs.Growing.{Exists}
use Rattle.ledger.proofs.Numbered.{lower_both, lower_self, node_exists, node_lower, number_of, one_number}
use Rattle.ledger.proofs.Ordered.{order_gives_run}
use Rattle.ledger.proofs.Ranks.{lacks_has}
use Rattle.ledger.proofs.Replayed.{by_program_order, there_from, there_true}
use Rattle.ledger.proofs.Sound.{Sound, sound_start}
use Rattle.ledger.proofs.Table.{shows}

-- What a list has, its image has.
has_map : {X Y : Type 0} (f : X → Y) (xs : List X) (x : X) → Contains xs x → Contains (map f xs) (f x)
has_map f xs x has = (has.0, omega (arith, has.1, length-map xs f), get_or-map f xs has.0 x (f x) has.1 ∙ ap f has.2)

-- A list lacks what it does not have.
lacks_from : (names : List Name) (a : Name) → (Contains names a → ⊥) → Lacks names a
lacks_from names a none_there = λ k d within is. none_there (k, within, get_or_default names k a d within ∙ is)

-- how many of the names are of a thread, with one name more
count_same : (names : List Name) (b : Name) (t : ℕ) → b.thread ≡ t → count_of t (names ++ b ∷ []) ≡ suc (count_of t names)
count_same [] b t is = cond-true (eqb b.thread t) (suc 0) 0 (eq-eqb b.thread t is)
count_same (a ∷ names) b t is = go (eqb a.thread t) (count_same names b t is)
  where
    go : (k : Bool) → count_of t (names ++ b ∷ []) ≡ suc (count_of t names) → cond k (suc (count_of t (names ++ b ∷ []))) (count_of t (names ++ b ∷ [])) ≡ suc (cond k (suc (count_of t names)) (count_of t names))
    go true rest = ap suc rest
    go false rest = rest

count_other : (names : List Name) (b : Name) (t : ℕ) → (b.thread ≡ t → ⊥) → count_of t (names ++ b ∷ []) ≡ count_of t names
count_other [] b t other = cond-false (eqb b.thread t) (suc 0) 0 (ne_eqb b.thread t other)
count_other (a ∷ names) b t other = go (eqb a.thread t) (count_other names b t other)
  where
    go : (k : Bool) → count_of t (names ++ b ∷ []) ≡ count_of t names → cond k (suc (count_of t (names ++ b ∷ []))) (count_of t (names ++ b ∷ [])) ≡ cond k (suc (count_of t names)) (count_of t names)
    go true rest = ap suc rest
    go false rest = rest

-- the names of each thread are its first actions
record Counted (placed : List Name) : Type 0 where
  placed_below : (t p : ℕ) → p < count_of t placed → Contains placed (name t p)
  below : (a : Name) → Contains placed a → a.position < count_of a.thread placed

counted_none : Counted []
counted_none = record { placed_below = λ t p lt. absurd (omega (arith, lt)); below = λ a has. absurd (omega (arith, has.1)) }

module _ (l : Ledger) (placed : List Name) (counted : Counted placed) (b : Name) (action : is_action (trace_of l) b ≡ true) (lacks : Lacks placed b) (ready : Ready (trace_of l) placed b) where
  -- The next that is placed is the next of its thread.
  counted_next : b.position ≡ count_of b.thread placed
  counted_next = go b.position refl
    where
      low : count_of b.thread placed ≤ b.position
      low = ⊎_elim (λ below'. absurd (lacks_has placed b lacks (counted.placed_below b.thread b.position below'))) (λ past. past) (cases_lt b.position (count_of b.thread placed))

      go : (p : ℕ) → b.position ≡ p → b.position ≡ count_of b.thread placed
      go zero is = omega (arith, low, is)
      go (suc q) is =
          let a = name b.thread q in
          let there : Exists l.actions a = let b_there = there_from l b action in omega (arith, b_there, is) in
          let before = counted.below a (ready a (by_program_order (trace_of l) a b (there_true l a there) action refl (omega (arith, is)))) in
          omega (arith, low, is, before)

  counted_push : Counted (placed ++ b ∷ [])
  counted_push = record {
    placed_below = λ t p lt. ⊎_elim
        (λ is.
        let n = count_same placed b t is in
        ⊎_elim
        (λ below'. Contains-append_left placed (b ∷ []) (name t p) (counted.placed_below t p below'))
        (λ past. subst (Contains (placed ++ b ∷ [])) (λ i. record { thread = is i; position = position_is t p is past lt n i }) (Contains-push placed b))
        (cases_lt p (count_of t placed)))
        (λ other. Contains-append_left placed (b ∷ []) (name t p) (counted.placed_below t p (subst (λ n. p < n) (count_other placed b t other) lt)))
        (cases_eq b.thread t);
    below = λ a has. ⊎_elim
        (λ old. let lt = counted.below a old in ⊎_elim (λ is. let n = count_same placed b a.thread is in omega (arith, lt, n)) (λ other. subst (λ n. a.position < n) (sym (count_other placed b a.thread other)) lt) (cases_eq b.thread a.thread))
        (λ is. subst (λ k. k.position < count_of k.thread (placed ++ b ∷ [])) is (let n = count_same placed b b.thread refl in omega (arith, n, counted_next)))
        (Contains-push_cases placed b a has);
  }
    where
      position_is : (t p : ℕ) → b.thread ≡ t → count_of t placed ≤ p → p < count_of t (placed ++ b ∷ []) → count_of t (placed ++ b ∷ []) ≡ suc (count_of t placed) → b.position ≡ p
      position_is t p is past lt n = let c : count_of b.thread placed ≡ count_of t placed = ap (λ u. count_of u placed) is in omega (arith, past, lt, n, c, counted_next)

module _ (ls : List Line) (l : Ledger) (sound : Sound ls l) where
  abbrev x : Trace
  x = trace_of l

  abbrev size : ℕ
  size = length (nodes x)

  joins_from : (u v : ℕ) → u < size → v < size → edge x (node_name x u) (node_name x v) ≡ true → node_joins x u v ≡ true
  joins_from u v u_in v_in joined = and_from (ltb u size) (ltb v size && edge x (node_name x u) (node_name x v)) (lt-ltb u size u_in) (and_from (ltb v size) (edge x (node_name x u) (node_name x v)) (lt-ltb v size v_in) joined)

  pub joins_to : (u v : ℕ) → node_joins x u v ≡ true → (u < size) × (v < size) × (edge x (node_name x u) (node_name x v) ≡ true)
  joins_to u v joined =
      let first = and_parts (ltb u size) (ltb v size && edge x (node_name x u) (node_name x v)) joined in
      let second = and_parts (ltb v size) (edge x (node_name x u) (node_name x v)) first.1 in
      (ltb-true u size first.0, ltb-true v size second.0, second.1)

  number : (a : Name) → Exists l.actions a → (k : ℕ) × (k < size) × (node_name x k ≡ a)
  number a there = number_of x a (⊎_elim (λ small. small) (λ past. absurd (let none_there : length (l.actions a.thread) ≡ 0 = ap length (sound.in_range a.thread past) in omega (arith, none_there, there))) (cases_lt a.thread 8)) there

  module _ (ns : List ℕ) (ordered : Ordered (node_joins x) size ns) where
    abbrev placed_at : ℕ → List Name
    placed_at k = map (node_name x) (take k ns)

    -- Each number that is placed is a node's.
    placed_node : (k u : ℕ) → k ≤ size → Contains (take k ns) u → u < size
    placed_node k u le has =
        let j = has.0 in
        let j_in : j < k = let n = length-take k ns in omega (arith, has.1, n) in
        let is : get_or ns j 0 ≡ u = sym (get_or-take k ns j 0 j_in) ∙ get_or_default (take k ns) j 0 u has.1 ∙ has.2 in
        subst (λ v. v < size) is (ordered.next j (omega (arith, j_in, le))).could.node

    -- A number is placed where its name is.
    unplace : (k y : ℕ) → k ≤ size → y < size → Contains (placed_at k) (node_name x y) → Contains (take k ns) y
    unplace k y le y_in has =
        let j = has.0 in
        let j_in : j < length (take k ns) = let n = length-map (take k ns) (node_name x) in omega (arith, has.1, n) in
        let u = get_or (take k ns) j 0 in
        let u_has = Contains-get_or (take k ns) j 0 j_in in
        let is : node_name x u ≡ node_name x y = sym (get_or-map (node_name x) (take k ns) j 0 (node_name x y) j_in) ∙ has.2 in
        subst (Contains (take k ns)) (one_number x u y (placed_node k u le u_has) y_in is) u_has

    module _ (k : ℕ) (within : k < size) where
      abbrev v : ℕ
      v = get_or ns k 0

      abbrev b : Name
      b = node_name x v

      next : Next (node_joins x) size (take k ns) v
      next = ordered.next k within

      b_action : is_action x b ≡ true
      b_action = there_true l b (node_exists x v next.could.node)

      b_lacks : Lacks (placed_at k) b
      b_lacks = lacks_from (placed_at k) b (λ has. next.could.new (unplace k v (omega (arith, within)) next.could.node has))

      b_ready : Ready x (placed_at k) b
      b_ready a joined =
          let n = number a (edge_parts x a b joined).first in
          let placed = next.could.ready n.0 (joins_from n.0 v n.1 next.could.node (subst (λ y. edge x y b ≡ true) (sym n.2) joined)) in
          subst (Contains (placed_at k)) n.2 (has_map (node_name x) (take k ns) n.0 placed)

      -- No lower thread has an action that is ready.
      b_lowest : Counted (placed_at k) → (u : ℕ) → u < b.thread → is_action x (next_of (placed_at k) u) ≡ true → Ready x (placed_at k) (next_of (placed_at k) u) → ⊥
      b_lowest counted u lt action ready =
          let a = next_of (placed_at k) u in
          let n = number a (there_from l a action) in
          let w = n.0 in
          let le = next.lowest w (record {
            node = n.1;
            new = λ has. let far = counted.below a (subst (Contains (placed_at k)) n.2 (has_map (node_name x) (take k ns) w has)) in omega (arith, far);
            ready = λ y joined. let parts = joins_to y w joined in unplace k y (omega (arith, within)) parts.0 (ready (node_name x y) (subst (λ z. edge x (node_name x y) z ≡ true) n.2 parts.2));
          }) in
          let low : Lower (node_name x w) b = subst (λ z. Lower z b) (sym n.2) (inl lt) in
          ⊎_elim (λ less. lower_both (node_name x w) b low (node_lower x v w less n.1)) (λ past. lower_self (node_name x w) b (ap (node_name x) (let e : w ≡ v = omega (arith, le, past) in e)) low) (cases_lt v w)

    -- All of it, place by place, from the end.
    placed_more : (k : ℕ) → k < size → placed_at (k + 1) ≡ placed_at k ++ node_name x (get_or ns k 0) ∷ []
    placed_more k within = ap (map (node_name x)) (take_more ns k 0 (omega (arith, within, ordered.many))) ∙ map_push (node_name x) (take k ns) (get_or ns k 0)

    rest_more : (k : ℕ) → k < size → map (node_name x) (drop k ns) ≡ node_name x (get_or ns k 0) ∷ map (node_name x) (drop (k + 1) ns)
    rest_more k within = ap (map (node_name x)) (drop_more ns k 0 (omega (arith, within, ordered.many)))

    in_order_from : (fuel k : ℕ) → k + fuel ≡ size → InOrder x (placed_at k) (map (node_name x) (drop k ns))
    in_order_from zero k end = subst (InOrder x (placed_at k)) (sym (ap (map (node_name x)) (drop_all k ns (omega (arith, end, ordered.many))))) tt
    in_order_from (suc fuel) k end =
        let within : k < size = omega (arith, end) in
        subst (InOrder x (placed_at k)) (sym (rest_more k within))
        (b_action k within, b_lacks k within, b_ready k within, subst (λ p. InOrder x p (map (node_name x) (drop (k + 1) ns))) (placed_more k within) (in_order_from fuel (k + 1) (omega (arith, end))))

    lowest_from : (fuel k : ℕ) → k + fuel ≡ size → Counted (placed_at k) → LowestFirst x (placed_at k) (map (node_name x) (drop k ns))
    lowest_from zero k end counted = subst (LowestFirst x (placed_at k)) (sym (ap (map (node_name x)) (drop_all k ns (omega (arith, end, ordered.many))))) tt
    lowest_from (suc fuel) k end counted =
        let within : k < size = omega (arith, end) in
        let position = counted_next l (placed_at k) counted (b k within) (b_action k within) (b_lacks k within) (b_ready k within) in
        let counted' = subst Counted (sym (placed_more k within)) (counted_push l (placed_at k) counted (b k within) (b_action k within) (b_lacks k within) (b_ready k within)) in
        subst (LowestFirst x (placed_at k)) (sym (rest_more k within))
        ((λ i. record { thread = (b k within).thread; position = position i }), b_ready k within, b_lowest k within counted, subst (λ p. LowestFirst x p (map (node_name x) (drop (k + 1) ns))) (placed_more k within) (lowest_from fuel (k + 1) (omega (arith, end)) counted'))

    pub nodes_order : Order x (map (node_name x) ns)
    nodes_order = record {
      ordered = in_order_from size 0 (omega arith);
      all = λ a action. let n = number a (there_from l a action) in subst (Contains (map (node_name x) ns)) n.2 (has_map (node_name x) ns n.0 (ordered.all n.0 n.1));
    }

    pub nodes_lowest : LowestFirst x [] (map (node_name x) ns)
    nodes_lowest = lowest_from size 0 (omega arith) counted_none

  module _ (ns : List ℕ) (ringed : Ringed (node_joins x) ns) where
    -- Each of a ring's numbers is a node's: an edge leads from it.
    ring_node : (k : ℕ) → k < length ns → get_or ns k 0 < size
    ring_node k within =
        ⊎_elim
        (λ more. (joins_to (get_or ns k 0) (get_or ns (k + 1) 0) (ringed.edges k more)).0)
        (λ last. subst (λ j. get_or ns j 0 < size) (let e : length ns - 1 ≡ k = omega (arith, last, within) in e) (joins_to (get_or ns (length ns - 1) 0) (get_or ns 0 0) ringed.closed).0)
        (cases_lt (k + 1) (length ns))

-- What holds of all places of a list holds of all of its image.
all_places : (x : Trace) (P : Name → Type 0) (ns : List ℕ) → ((k : ℕ) → k < length ns → P (node_name x (get_or ns k 0))) → All P (map (node_name x) ns)
all_places x P ns holds = All-map P (node_name x) ns (All-from_get_or (λ n. P (node_name x n)) ns 0 holds)

-- Different numbers of nodes are different actions.
different_nodes : (x : Trace) (ns : List ℕ) → ((k : ℕ) → k < length ns → get_or ns k 0 < length (nodes x)) → ((i k : ℕ) → i < k → k < length ns → get_or ns i 0 ≡ get_or ns k 0 → ⊥) → Different (map (node_name x) ns)
different_nodes x [] inside once = tt
different_nodes x (n ∷ ns) inside once = (
  all_places x (λ a. a ≡ node_name x n → ⊥) ns (λ k within is. once 0 (suc k) (omega arith) (suc-le-suc within) (sym (one_number x (get_or ns k 0) n (inside (suc k) (suc-le-suc within)) (inside 0 (omega arith)) is))),
  different_nodes x ns (λ k within. inside (suc k) (suc-le-suc within)) (λ i k lt within. once (suc i) (suc k) (suc-le-suc lt) (suc-le-suc within)),
)

-- Edges from place to place are a chain.
chain_places : (x : Trace) (n : ℕ) (ns : List ℕ) (z : Name) → ((k : ℕ) → k + 1 < length (n ∷ ns) → edge x (node_name x (get_or (n ∷ ns) k 0)) (node_name x (get_or (n ∷ ns) (k + 1) 0)) ≡ true) → edge x (node_name x (get_or (n ∷ ns) (length ns) 0)) z ≡ true → Chained x (node_name x n) (map (node_name x) ns) z
chain_places x n [] z edges closed = closed
chain_places x n (m ∷ ns) z edges closed = (
  edges 0 (omega arith),
  chain_places x m ns z (λ k within. subst (λ j. edge x (node_name x (get_or (m ∷ ns) k 0)) (node_name x (get_or (n ∷ m ∷ ns) j 0)) ≡ true) (let e : suc k + 1 ≡ suc (k + 1) = omega arith in e) (edges (suc k) (omega (arith, within)))) closed,
)

-- A ring of nodes is a ring of actions, two or more and the lowest first.
pub nodes_ring : (ls : List Line) (l : Ledger) (sound : Sound ls l) (ns : List ℕ) → Ringed (node_joins (trace_of l)) ns → ListsRing (trace_of l) (map (node_name (trace_of l)) ns)
nodes_ring ls l sound [] ringed = omega (arith, ringed.some)
nodes_ring ls l sound (n ∷ []) ringed = self_edge ls l sound (node_name (trace_of l) n) (joins_to ls l sound n n ringed.closed).2
nodes_ring ls l sound (n ∷ m ∷ ns) ringed =
    let x = trace_of l in
    let inside = ring_node ls l sound (n ∷ m ∷ ns) ringed in
    let last : length (n ∷ m ∷ ns) - 1 ≡ length (m ∷ ns) = omega arith in (
      chain_places x n (m ∷ ns) (node_name x n) (λ k within. (joins_to ls l sound (get_or (n ∷ m ∷ ns) k 0) (get_or (n ∷ m ∷ ns) (k + 1) 0) (ringed.edges k within)).2) (subst (λ j. edge x (node_name x (get_or (n ∷ m ∷ ns) j 0)) (node_name x n) ≡ true) last (joins_to ls l sound (get_or (n ∷ m ∷ ns) (length (n ∷ m ∷ ns) - 1) 0) n ringed.closed).2),
      different_nodes x (n ∷ m ∷ ns) inside ringed.once,
      all_places x (Lower (node_name x n)) (m ∷ ns) (λ k within. node_lower x n (get_or (m ∷ ns) k 0) (ringed.lowest (suc k) (omega arith) (suc-le-suc within)) (inside (suc k) (suc-le-suc within))),
    )

pub judged : Judged
judged = record {
  order_is_true = λ rules lawful ls ms accepted empty ns ordered.
      let l = ledger_of ls ms in
      let sound = sound_moves rules lawful ls ms start (sound_start ls) accepted in
      let order = nodes_order ls l sound ns ordered in
      record { order = order; lowest = nodes_lowest ls l sound ns ordered; run = order_gives_run rules lawful ls ms accepted empty (map (node_name (trace_of l)) ns) order };
  ring_is_true = λ rules lawful ls ms accepted ns ringed.
      let l = ledger_of ls ms in
      let sound = sound_moves rules lawful ls ms start (sound_start ls) accepted in
      shows ls (trace_of l) (map (node_name (trace_of l)) ns) (nodes_ring ls l sound ns ringed);
}
