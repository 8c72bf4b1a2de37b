-- The edges between kept actions are those of the trace of a ledger that they agree with.
use Rattle.std.proofs.Common.{◌≡◌, ℕ, ◌<◌, Bool, true, false, ◌&&◌, ◌||◌, ltb, List, [], ◌∷◌, length, get_or, Some, sym, refl, ap, ◌∙◌, subst, ⊎_elim, arith}
use mathlib.Core.Path.{fun_ext}
use Rattle.std.specs.List.{All}
use Rattle.std.proofs.lemmas.List.Elements.{All-head, All-tail}
use Rattle.std.proofs.lemmas.List.{get_or-map}
use Rattle.std.proofs.lemmas.Bool.{and_from, and_parts, cond-false, cond-true, eq-eqb, eqb-true, false_from_ne_true, ltb-true, or_cases, true≢false}
use Rattle.program.specs.declared.lines.Line.{Line}
use Rattle.ledger.specs.Actions.{Access, Name, Source, from, initial, loads, name, none, same, stores}
use Rattle.ledger.specs.Edges.{after_source, edge, from_reads, is_action, next_in, program_order, reads_from, store_order, trace_of}
use Rattle.ledger.specs.Ledgers.{Ledger, action_at, no_action}
use Rattle.ledger.specs.Nodes.{node_joins, nodes, nodes_of}
use Rattle.ledger.specs.Orders.{Lacks}
use Rattle.ledger.specs.Tests.{threads}
use Rattle.ledger.specs.Verdicts.{Different}
use Rattle.ledger.proofs.Apart.{after_source_one, next_in_both}
use Rattle.ledger.proofs.Growing.{Exists, same_true}
use Rattle.ledger.proofs.Sound.{Sound, StoreTo}
use Rattle.present.proofs.Running.{kept_length}
use Rattle.present.specs.Agreement.{Agrees, overwrote}
use Rattle.present.specs.Data.{Held, noted_at, nothing_noted, stores_to}
use Rattle.present.specs.Joins.{is_noted, is_over, joined_by, joined_in, node_joined, nodes_in, over_source, source_overwritten}

-- Two tests are the same where each holds if the other does.
bool_same : (x y : Bool) → (x ≡ true → y ≡ true) → (y ≡ true → x ≡ true) → x ≡ y
bool_same x y to back = grind (arith, to, back)

-- Behind a test, only where it holds need two tests be the same.
and_same : (x y z : Bool) → (x ≡ true → y ≡ z) → (x && y) ≡ (x && z)
and_same x y z alike = grind (arith, alike)

-- Who stands next after another stands behind the first.
next_behind : (P : Name → Type 0) (x : Name) (names : List Name) (a b : Name) → next_in (x ∷ names) a b ≡ true → All P names → P b
next_behind P x [] a b so all = absurd (true≢false (sym so))
next_behind P x (y ∷ names) a b so all =
    ⊎_elim
    (λ here. subst P (same_true y b (and_parts (same x a) (same y b) here).1) (All-head P y names all))
    (λ later. next_behind P y names a b later (All-tail P y names all))
    (or_cases (same x a && same y b) (next_in (y ∷ names) a b) so)

-- The first stands next after none, where no name stands twice.
first_after_none : (x : Name) (names : List Name) (a b : Name) → Lacks names x → same x b ≡ true → next_in (x ∷ names) a b ≡ false
first_after_none x names a b lacks first =
    false_from_ne_true (next_in (x ∷ names) a b) (λ so. next_behind (λ d. d ≡ x → ⊥) x names a b so lacks (sym (same_true x b first)))

-- A store behind another in its cell's list overwrote the one that it stands next after.
over_behind : (x : Name) (names : List Name) (a b : Name) → Different (x ∷ names) → is_over (from a) (overwrote (from x) names b) ≡ next_in (x ∷ names) a b
over_behind x [] a b once = refl
over_behind x (y ∷ names) a b once = go (same y b) refl (over_behind y names a b once.1)
  where
    both : (p q : Bool) → q ≡ false → p ≡ ((p && true) || q)
    both p q is = grind arith

    neither : (p q : Bool) → q ≡ ((p && false) || q)
    neither p q = grind arith

    go : (s : Bool) → same y b ≡ s → is_over (from a) (overwrote (from y) names b) ≡ next_in (y ∷ names) a b → is_over (from a) (overwrote (from x) (y ∷ names) b) ≡ next_in (x ∷ y ∷ names) a b
    go true is rest =
        ap (is_over (from a)) (cond-true (same y b) (Some (from x)) (overwrote (from y) names b) is)
        ∙ both (same x a) (next_in (y ∷ names) a b) (first_after_none y names a b once.1.0 is)
        ∙ ap (λ s. (same x a && s) || next_in (y ∷ names) a b) (sym is)
    go false is rest =
        ap (is_over (from a)) (cond-false (same y b) (Some (from x)) (overwrote (from y) names b) is)
        ∙ rest
        ∙ neither (same x a) (next_in (y ∷ names) a b)
        ∙ ap (λ s. (same x a && s) || next_in (y ∷ names) a b) (sym is)

-- A store behind another did not overwrite what was there at the start.
never_initial : (x : Name) (names : List Name) (b : Name) → is_over initial (overwrote (from x) names b) ≡ false
never_initial x [] b = refl
never_initial x (y ∷ names) b = go (same y b) refl (never_initial y names b)
  where
    go : (s : Bool) → same y b ≡ s → is_over initial (overwrote (from y) names b) ≡ false → is_over initial (overwrote (from x) (y ∷ names) b) ≡ false
    go true is rest = ap (is_over initial) (cond-true (same y b) (Some (from x)) (overwrote (from y) names b) is)
    go false is rest = ap (is_over initial) (cond-false (same y b) (Some (from x)) (overwrote (from y) names b) is) ∙ rest

-- What a store overwrote is the source that it stands directly after in its cell's list.
pub over_after : (names : List Name) → Different names → (s : Source) (b : Name) → is_over s (overwrote initial names b) ≡ after_source names s b
over_after [] once initial b = refl
over_after [] once (from a) b = refl
over_after (x ∷ names) once initial b = go (same x b) refl
  where
    go : (s : Bool) → same x b ≡ s → is_over initial (overwrote initial (x ∷ names) b) ≡ same x b
    go true is = ap (is_over initial) (cond-true (same x b) (Some initial) (overwrote (from x) names b) is) ∙ sym is
    go false is = ap (is_over initial) (cond-false (same x b) (Some initial) (overwrote (from x) names b) is) ∙ never_initial x names b ∙ sym is
over_after (x ∷ names) once (from a) b = go (same x b) refl
  where
    go : (s : Bool) → same x b ≡ s → is_over (from a) (overwrote initial (x ∷ names) b) ≡ next_in (x ∷ names) a b
    go true is = ap (is_over (from a)) (cond-true (same x b) (Some initial) (overwrote (from x) names b) is) ∙ sym (first_after_none x names a b once.0 is)
    go false is = ap (is_over (from a)) (cond-false (same x b) (Some initial) (overwrote (from x) names b) is) ∙ over_behind x names a b once

module _ (l : Ledger) (h : Held) (agrees : Agrees l h) where
  -- The nodes are the same.
  pub nodes_agree : nodes_in h.own ≡ nodes (trace_of l)
  nodes_agree = ap (λ f. nodes_of f threads) (fun_ext agrees.actions)

  -- The same actions are there.
  noted_agrees : (a : Name) → is_noted h.own a ≡ is_action (trace_of l) a
  noted_agrees a = ap (ltb a.position) (kept_length l h agrees a.thread)

  -- An action that is there is kept as it is.
  action_agrees : (a : Name) → Exists l.actions a → (noted_at h.own a).action ≡ action_at l.actions a
  action_agrees a there =
      sym (get_or-map (λ x. x.action) (h.own.noted a.thread) a.position nothing_noted no_action (subst (λ n. a.position < n) (sym (kept_length l h agrees a.thread)) there))
      ∙ ap (λ acts. get_or acts a.position no_action) (agrees.actions a.thread)

module _ (ls : List Line) (l : Ledger) (sound : Sound ls l) (h : Held) (agrees : Agrees l h) where
  -- A store to a cell is kept with what it stands directly after in that cell's list.
  over_agrees : (b : Name) → Exists l.actions b → (c : ℕ) → (action_at l.actions b).access ≡ stores c → (s : Source) → is_over s (noted_at h.own b).over ≡ after_source (l.drained c) s b
  over_agrees b there c is s =
      ap (is_over s) (agrees.over b c (subst (λ n. b.position < n) (sym (kept_length l h agrees b.thread)) there) (ap (λ x. x.access) (action_agrees l h agrees b there) ∙ is))
      ∙ over_after (l.drained c) (sound.once c) s b

  module _ (a b : Name) (first : Exists l.actions a) (second : Exists l.actions b) where
    abbrev x : Access
    x = (action_at l.actions a).access

    abbrev y : Access
    y = (action_at l.actions b).access

    -- The second overwrote the first exactly where it is the next store in the same cell's list.
    store_order_agrees : over_source (from a) y (noted_at h.own b).over ≡ store_order (trace_of l) a x b
    store_order_agrees = bool_same (over_source (from a) y (noted_at h.own b).over) (store_order (trace_of l) a x b) (to y refl) (back x refl)
      where
        to : (access : Access) → y ≡ access → over_source (from a) access (noted_at h.own b).over ≡ true → store_order (trace_of l) a x b ≡ true
        to none is so = absurd (true≢false (sym so))
        to (stores c) is so =
            let next : next_in (l.drained c) a b ≡ true = sym (over_agrees b second c is (from a)) ∙ so in
            ap (λ access. store_order (trace_of l) a access b) (next_in_both (StoreTo l.actions c) (l.drained c) a b next (sound.drained c)).0.access ∙ next
        to (loads c s) is so = absurd (true≢false (sym so))

        back : (access : Access) → x ≡ access → store_order (trace_of l) a access b ≡ true → over_source (from a) y (noted_at h.own b).over ≡ true
        back none is so = absurd (true≢false (sym so))
        back (stores c) is so =
            let stored = (next_in_both (StoreTo l.actions c) (l.drained c) a b so (sound.drained c)).1.access in
            ap (λ access. over_source (from a) access (noted_at h.own b).over) stored ∙ over_agrees b second c stored (from a) ∙ so
        back (loads c s) is so = absurd (true≢false (sym so))

    -- The second overwrote the first's source exactly where it stands directly after it in that cell's list.
    from_reads_agrees : (access : Access) → source_overwritten access (noted_at h.own b) ≡ from_reads (trace_of l) access b
    from_reads_agrees none = refl
    from_reads_agrees (stores c) = refl
    from_reads_agrees (loads c s) = bool_same (source_overwritten (loads c s) (noted_at h.own b)) (after_source (l.drained c) s b) to back
      where
        kept : (noted_at h.own b).action.access ≡ y
        kept = ap (λ k. k.access) (action_agrees l h agrees b second)

        is_store : (access : Access) → stores_to c access ≡ true → access ≡ stores c
        is_store none so = absurd (true≢false (sym so))
        is_store (stores d) so = ap stores (eqb-true d c so)
        is_store (loads d r) so = absurd (true≢false (sym so))

        to : source_overwritten (loads c s) (noted_at h.own b) ≡ true → after_source (l.drained c) s b ≡ true
        to so =
            let parts = and_parts (stores_to c (noted_at h.own b).action.access) (is_over s (noted_at h.own b).over) so in
            sym (over_agrees b second c (sym kept ∙ is_store (noted_at h.own b).action.access parts.0) s) ∙ parts.1

        back : after_source (l.drained c) s b ≡ true → source_overwritten (loads c s) (noted_at h.own b) ≡ true
        back so =
            let stored = (after_source_one (StoreTo l.actions c) (l.drained c) s b so (sound.drained c)).access in
            and_from (stores_to c (noted_at h.own b).action.access) (is_over s (noted_at h.own b).over)
            (ap (stores_to c) (kept ∙ stored) ∙ eq-eqb c c refl) (over_agrees b second c stored s ∙ so)

    -- Between two actions that are there, the four sorts of edges agree.
    sorts_agree : joined_by a b (noted_at h.own a) (noted_at h.own b) ≡ (program_order a b || (store_order (trace_of l) a x b || (reads_from a y || from_reads (trace_of l) x b)))
    sorts_agree =
        ap (λ access. program_order a b || (over_source (from a) access (noted_at h.own b).over || (reads_from a access || source_overwritten (noted_at h.own a).action.access (noted_at h.own b)))) (ap (λ k. k.access) (action_agrees l h agrees b second))
        ∙ ap (λ access. program_order a b || (over_source (from a) y (noted_at h.own b).over || (reads_from a y || source_overwritten access (noted_at h.own b)))) (ap (λ k. k.access) (action_agrees l h agrees a first))
        ∙ ap (λ o. program_order a b || (o || (reads_from a y || source_overwritten x (noted_at h.own b)))) store_order_agrees
        ∙ ap (λ o. program_order a b || (store_order (trace_of l) a x b || (reads_from a y || o))) (from_reads_agrees x)

  -- The edges are the same.
  pub edge_agrees : (a b : Name) → joined_in h.own a b ≡ edge (trace_of l) a b
  edge_agrees a b =
      ap (λ p. (p && is_noted h.own b) && joined_by a b (noted_at h.own a) (noted_at h.own b)) (noted_agrees l h agrees a)
      ∙ ap (λ p. (is_action (trace_of l) a && p) && joined_by a b (noted_at h.own a) (noted_at h.own b)) (noted_agrees l h agrees b)
      ∙ and_same (is_action (trace_of l) a && is_action (trace_of l) b) (joined_by a b (noted_at h.own a) (noted_at h.own b)) _
      (λ there.
      let both = and_parts (is_action (trace_of l) a) (is_action (trace_of l) b) there in
      sorts_agree a b (ltb-true a.position (length (l.actions a.thread)) both.0) (ltb-true b.position (length (l.actions b.thread)) both.1))

  -- And so they are by their numbers.
  pub joins_agree : (u v : ℕ) → node_joined h.own u v ≡ node_joins (trace_of l) u v
  joins_agree u v =
      ap (λ ns. ltb u (length ns) && (ltb v (length ns) && joined_in h.own (get_or ns u (name 8 0)) (get_or ns v (name 8 0)))) (nodes_agree l h agrees)
      ∙ ap (λ e. ltb u (length (nodes (trace_of l))) && (ltb v (length (nodes (trace_of l))) && e)) (edge_agrees (get_or (nodes (trace_of l)) u (name 8 0)) (get_or (nodes (trace_of l)) v (name 8 0)))
