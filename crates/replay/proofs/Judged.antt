-- The edges between numbered actions are those between the actions, and what an order or a ring of numbers says of the list of names.
use Rattle.std.proofs.Common.{◌≡◌, ℕ, zero, suc, ◌+◌, ◌-◌, ◌<◌, ◌≤◌, Bool, true, false, ◌&&◌, ltb, List, [], ◌∷◌, ◌++◌, map, length, get_or, take, drop, Some, None, Option, sym, refl, ap, ◌∙◌, subst, ⊎_elim, suc-le-suc, arith}
use mathlib.Core.List.{map-map}
use mathlib.Core.Path.{fun_ext}
use Rattle.std.specs.List.{slice_get}
use Rattle.std.proofs.lemmas.List.{drop_at, get_or-map, length-append, length-map, length-take-le, take_at}
use Rattle.std.proofs.lemmas.Bool.{and_parts, cases_lt, le-ltb, lt-ltb, ltb-true}
use Rattle.graph.specs.Laws.{among}
use Rattle.graph.specs.Sorting.{Answered, Ordered, Ringed}
use Rattle.graph.specs.declared.ordering.Written.{Written}
use Rattle.graph.specs.declared.ordering.Written.TheVariants.{Order, Ring}
use Rattle.ledger.specs.Actions.{Name as Name', name}
use Rattle.present.specs.Data.{Noted, Present, how_many_in, noted_at, nothing_noted}
use Rattle.present.specs.Joins.{delaying_in, is_noted, joined_by, joined_in, node_joined, node_named, nodes_in}
use Rattle.replay.specs.GraphLaws.{named, named_joined}
use Rattle.replay.specs.Names.{name_of}
use Rattle.replay.specs.Verdicts.{FoundIn, ListedIn}
use Rattle.replay.specs.declared.names.Name.{Name}
use Rattle.replay.specs.declared.verdicts.Verdict.{Verdict}
use Rattle.replay.specs.declared.verdicts.Word.{Word}
use Rattle.replay.specs.declared.verdicts.Word.TheVariants.{Sequential, Violation}
use Rattle.replay.proofs.Numbered.{nodes_many}

-- Nothing is found at a place only behind the end.
nth_none : {X : Type 0} (xs : List X) (i : ℕ) → None ≡ slice_get xs i → length xs ≤ i
nth_none [] i gone = omega arith
nth_none (x ∷ xs) zero gone = let z : ◌≡◌ {A = ℕ} 0 1 = cc in absurd (omega arith)
nth_none (x ∷ xs) (suc i) gone = suc-le-suc (nth_none xs i gone)

-- What is found at a place stands there, within the list.
nth_some : {X : Type 0} (xs : List X) (i : ℕ) (x d : X) → Some x ≡ slice_get xs i → (i < length xs) × (get_or xs i d ≡ x)
nth_some [] i x d found = let z : ◌≡◌ {A = ℕ} 0 1 = cc in absurd (omega arith)
nth_some (y ∷ xs) zero x d found = (omega arith, cc)
nth_some (y ∷ xs) (suc i) x d found = let rest = nth_some xs i x d found in (suc-le-suc rest.0, rest.1)

module _ (own : Present) (a b : Name') where
  -- No edge leads from what is no action.
  pub none_from : None ≡ slice_get (own.noted a.thread) a.position → false ≡ joined_in own a b
  none_from gone =
      ap (λ k. (k && is_noted own b) && joined_by a b (noted_at own a) (noted_at own b)) (sym (le-ltb a.position (length (own.noted a.thread)) (nth_none (own.noted a.thread) a.position gone)))

  -- No edge leads to what is no action.
  pub none_to : None ≡ slice_get (own.noted b.thread) b.position → false ≡ joined_in own a b
  none_to gone =
      neither (is_noted own a) ∙ ap (λ k. (is_noted own a && k) && joined_by a b (noted_at own a) (noted_at own b)) (sym (le-ltb b.position (length (own.noted b.thread)) (nth_none (own.noted b.thread) b.position gone)))
    where
      neither : (x : Bool) → false ≡ ((x && false) && joined_by a b (noted_at own a) (noted_at own b))
      neither true = refl
      neither false = refl

  -- Between two actions there is an edge as the two say.
  pub joined_both : (x y : Noted) → Some x ≡ slice_get (own.noted a.thread) a.position → Some y ≡ slice_get (own.noted b.thread) b.position → (r : Bool) → r ≡ joined_by a b x y → r ≡ joined_in own a b
  joined_both x y first second r said =
      let one = nth_some (own.noted a.thread) a.position x nothing_noted first in
      let two = nth_some (own.noted b.thread) b.position y nothing_noted second in
      said
      ∙ sym
      (ap (λ k. (k && is_noted own b) && joined_by a b (noted_at own a) (noted_at own b)) (lt-ltb a.position (length (own.noted a.thread)) one.0)
      ∙ ap (λ k. k && joined_by a b (noted_at own a) (noted_at own b)) (lt-ltb b.position (length (own.noted b.thread)) two.0)
      ∙ ap (λ z. joined_by a b z (noted_at own b)) one.1
      ∙ ap (joined_by a b x) two.1)

-- Two functions that agree on each number of a list make one list of it.
map_agree : {X : Type 0} (f g : ℕ → X) (ns : List ℕ) → ((k : ℕ) → k < length ns → f (get_or ns k 0) ≡ g (get_or ns k 0)) → map f ns ≡ map g ns
map_agree f g [] agree = refl
map_agree f g (n ∷ ns) agree =
    ap (λ x. x ∷ map f ns) (agree 0 (omega arith)) ∙ ap (λ l. g n ∷ l) (map_agree f g ns (λ k within. agree (suc k) (suc-le-suc within)))

-- Behind two tests, only where both hold need two more be the same.
behind_both : (x y p q : Bool) → (x ≡ true → y ≡ true → p ≡ q) → (x && (y && p)) ≡ (x && (y && q))
behind_both true true p q alike = alike refl refl
behind_both true false p q alike = refl
behind_both false y p q alike = refl

-- Each number of an order is a node.
ordered_below : (joins : ℕ → ℕ → Bool) (size : ℕ) (ns : List ℕ) → Ordered joins size ns → (k : ℕ) → k < length ns → get_or ns k 0 < size
ordered_below joins size ns order k within = (order.next k (subst (λ n. k < n) order.many within)).could.node

-- From each number of a ring an edge leads on.
ringed_below : (joins : ℕ → ℕ → Bool) (size : ℕ) (ns : List ℕ) → ((u v : ℕ) → joins u v ≡ true → u < size) → Ringed joins ns → (k : ℕ) → k < length ns → get_or ns k 0 < size
ringed_below joins size ns inside ring k within =
    ⊎_elim
    (λ more. inside (get_or ns k 0) (get_or ns (k + 1) 0) (ring.edges k more))
    (λ last.
    let e : length ns - 1 ≡ k = omega (arith, last, within) in
    inside (get_or ns k 0) (get_or ns 0 0) (subst (λ j. joins (get_or ns j 0) (get_or ns 0 0) ≡ true) e ring.closed))
    (cases_lt (k + 1) (length ns))

-- An edge leads from a node.
node_inside : (own : Present) (u v : ℕ) → node_joined own u v ≡ true → u < length (nodes_in own)
node_inside own u v joined = ltb-true u (length (nodes_in own)) (and_parts (ltb u (length (nodes_in own))) _ joined).0

-- Each number that an order or a ring has is a node.
pub found_below : (own : Present) (w : Word) (ns : List ℕ) → FoundIn own w ns → (k : ℕ) → k < length ns → get_or ns k 0 < length (nodes_in own)
found_below own Sequential ns found k within = ordered_below (node_joined own) (length (nodes_in own)) ns found k within
found_below own Violation ns found k within = ringed_below (node_joined own) (length (nodes_in own)) ns (node_inside own) found k within

module _ (own : Present) (names : List Name) (is : map name_of names ≡ nodes_in own) where
  -- There are as many numbers as nodes.
  pub all_numbered : length names ≡ length (nodes_in own)
  all_numbered = sym (length-map names name_of) ∙ ap length is

  -- A number names the node of that number.
  pub names_node : (k : ℕ) → k < length names → name_of (named names k) ≡ node_named own k
  names_node k within = sym (get_or-map name_of names k (record { thread = 0; position = 0 }) (name 8 0) within) ∙ ap (λ l. get_or l k (name 8 0)) is

  -- The edges between the numbers are those between the nodes.
  pub joins_same : among (length names) (named_joined own names) ≡ node_joined own
  joins_same =
      fun_ext (λ u. fun_ext (λ v.
      behind_both (ltb u (length names)) (ltb v (length names)) (named_joined own names u v) (joined_in own (node_named own u) (node_named own v))
      (λ first second. ap (λ x. joined_in own x (name_of (named names v))) (names_node u (ltb-true u (length names) first)) ∙ ap (joined_in own (node_named own u)) (names_node v (ltb-true v (length names) second)))
      ∙ ap (λ m. ltb u m && (ltb v m && joined_in own (node_named own u) (node_named own v))) all_numbered))

  -- An order of the numbers is an order of the nodes.
  pub order_found : (ns : List ℕ) → Ordered (among (length names) (named_joined own names)) (length names) ns → FoundIn own Sequential ns
  order_found ns order = subst (λ m. Ordered (node_joined own) m ns) all_numbered (subst (λ joins. Ordered joins (length names) ns) joins_same order)

  -- A ring of the numbers is a ring of the nodes.
  pub ring_found : (ns : List ℕ) → Ringed (among (length names) (named_joined own names)) ns → FoundIn own Violation ns
  ring_found ns ring = subst (λ joins. Ringed joins ns) joins_same ring

  -- Names written for an order or a ring are what a verdict lists.
  pub names_listed : (before after : List Name) (v : Verdict) (ns : List ℕ) → FoundIn own v.word ns → v.entries ≡ length ns → length ns ≤ length before → after ≡ map (named names) ns ++ drop (length ns) before → v.delayed ≡ delaying_in own → ListedIn own before v after
  names_listed before after v ns found many room written delayed =
      let long : length (map (named names) ns) ≡ v.entries = length-map ns (named names) ∙ sym many in
      let whole = ap length written ∙ length-append (map (named names) ns) (drop (length ns) before) in
      record {
        numbers = ns;
        found = found;
        entries = many;
        within = omega (arith, whole, long);
        list =
            ap (λ l. map name_of (take v.entries l)) written
            ∙ ap (map name_of) (take_at (map (named names) ns) (drop (length ns) before) v.entries long)
            ∙ map-map name_of (named names) ns
            ∙ map_agree (λ k. name_of (named names k)) (node_named own) ns (λ k within. names_node (get_or ns k 0) (subst (λ m. get_or ns k 0 < m) (sym all_numbered) (found_below own v.word ns found k within)));
        later =
            ap (drop v.entries) written
            ∙ drop_at (map (named names) ns) (drop (length ns) before) v.entries long
            ∙ ap (λ k. drop k before) (sym many);
        delayed = delayed;
      }

-- What a search for an order has written: the word is right by these numbers, they are as many as it says, and there is room for all.
pub record Placed (own : Present) (told : Word × ℕ) (room : ℕ) (ns : List ℕ) : Type 0 where
  pub many : told.1 ≡ length ns
  pub found : FoundIn own told.0 ns
  pub enough : how_many_in own ≤ room

module _ (own : Present) (names : List Name) (is : map name_of names ≡ nodes_in own) (old new : List ℕ) (o : Option Written) (answered : Answered (among (length names) (named_joined own names)) (length names) old new o) where
  -- A list with too few places for the actions is as before.
  pub too_few : o ≡ None → length new < how_many_in own
  too_few gone =
      let so = subst (λ w. Answered (among (length names) (named_joined own names)) (length names) old new w) gone answered in
      omega (arith, so.0, ap length so.1, all_numbered own names is, nodes_many own)

  module _ (written : Written) (told : Word × ℕ) (k : ℕ) (some : o ≡ Some written) where
    -- An order was written.
    pub order_placed : told ≡ (Sequential, k) → written ≡ Order k → length new ≡ length old → Placed own told (length new) (take told.1 new)
    order_placed said so long =
        let here = subst (λ w. Answered (among (length names) (named_joined own names)) (length names) old new w) (some ∙ ap Some so) answered in
        subst (λ t. Placed own t (length new) (take t.1 new)) (sym said)
        (record { many = sym (length-take-le k new here.1.within); found = order_found own names is (take k new) here.1.front; enough = omega (arith, here.0, long, all_numbered own names is, nodes_many own) })

    -- A ring was written.
    pub ring_placed : told ≡ (Violation, k) → written ≡ Ring k → length new ≡ length old → Placed own told (length new) (take told.1 new)
    ring_placed said so long =
        let here = subst (λ w. Answered (among (length names) (named_joined own names)) (length names) old new w) (some ∙ ap Some so) answered in
        subst (λ t. Placed own t (length new) (take t.1 new)) (sym said)
        (record { many = sym (length-take-le k new here.1.within); found = ring_found own names is (take k new) here.1.front; enough = omega (arith, here.0, long, all_numbered own names is, nodes_many own) })
