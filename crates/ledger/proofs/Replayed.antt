-- An order gives a run: its actions, one after another over direct, lead to the same trace.
use Rattle.std.proofs.Common.{◌≡◌, ℕ, zero, suc, ◌+◌, ◌<◌, ◌≤◌, true, ◌&&◌, eqb, List, length, get_or, take, Some, None, sym, refl, ap, ◌∙◌, subst, ⊎_elim, arith}
use Rattle.std.specs.List.{Contains}
use Rattle.std.proofs.lemmas.List.Elements.{All-get_or}
use Rattle.std.proofs.lemmas.List.{get_or_default, get_or-take, length-take, nil_from_length}
use Rattle.std.proofs.lemmas.Bool.{and_from, cases_lt, eq-eqb, lt-ltb, ltb-true, or_left, or_right}
use Rattle.program.specs.declared.lines.Line.{Line}
use Rattle.ledger.specs.Actions.{Access, Name, Source, from, initial, loads, name, stores}
use Rattle.ledger.specs.Edges.{Trace, edge, from_reads, is_action, is_source, next_in, program_order, reads_from, store_order, trace_of}
use Rattle.ledger.specs.Ledgers.{Ledger, action_at, no_action}
use Rattle.ledger.specs.Moves.{in_memory, last_of}
use Rattle.ledger.specs.Orders.{Lacks, Ready}
use Rattle.ledger.specs.Runs.{NothingWaits}
use Rattle.ledger.proofs.Growing.{Exists, same_self}
use Rattle.ledger.proofs.Ranks.{first_at, lacks_has, last_take, next_at, one_rank}
use Rattle.ledger.proofs.Sound.{Sound, StoreTo, held}
use Rattle.ledger.proofs.Waits.{AtPosition}

-- The four sorts of edge, each from what makes it.
module _ (x : Trace) (a b : Name) (a_there : is_action x a ≡ true) (b_there : is_action x b ≡ true) where
  both_there : (is_action x a && is_action x b) ≡ true
  both_there = and_from (is_action x a) (is_action x b) a_there b_there

  pub by_program_order : a.thread ≡ b.thread → a.position + 1 ≡ b.position → edge x a b ≡ true
  by_program_order thread position =
      and_from (is_action x a && is_action x b) _ both_there
      (or_left (program_order a b) _ (and_from (eqb a.thread b.thread) (eqb (a.position + 1) b.position) (eq-eqb a.thread b.thread thread) (eq-eqb (a.position + 1) b.position position)))

  pub by_store_order : (c : ℕ) → (action_at x.actions a).access ≡ stores c → next_in (x.drained c) a b ≡ true → edge x a b ≡ true
  by_store_order c access so =
      and_from (is_action x a && is_action x b) _ both_there
      (or_right (program_order a b) _ (or_left (store_order x a (action_at x.actions a).access b) _ (subst (λ k. store_order x a k b ≡ true) (sym access) so)))

  pub by_reads_from : (c : ℕ) (source : Source) → (action_at x.actions b).access ≡ loads c source → is_source a source ≡ true → edge x a b ≡ true
  by_reads_from c source access so =
      and_from (is_action x a && is_action x b) _ both_there
      (or_right (program_order a b) _ (or_right (store_order x a (action_at x.actions a).access b) _ (or_left (reads_from a (action_at x.actions b).access) _ (subst (λ k. reads_from a k ≡ true) (sym access) so))))

  pub by_from_reads : (access : Access) → (action_at x.actions a).access ≡ access → from_reads x access b ≡ true → edge x a b ≡ true
  by_from_reads access is so =
      and_from (is_action x a && is_action x b) _ both_there
      (or_right (program_order a b) _ (or_right (store_order x a (action_at x.actions a).access b) _ (or_right (reads_from a (action_at x.actions b).access) _ (subst (λ k. from_reads x k b ≡ true) (sym is) so))))

-- there is such an action, as a fact and as a test
pub there_true : (l : Ledger) (a : Name) → Exists l.actions a → is_action (trace_of l) a ≡ true
there_true l a there = lt-ltb a.position (length (l.actions a.thread)) there

pub there_from : (l : Ledger) (a : Name) → is_action (trace_of l) a ≡ true → Exists l.actions a
there_from l a there = ltb-true a.position (length (l.actions a.thread)) there

-- The ledger m is the ledger l cut short: the actions that are placed, and no others.
pub record Part (ls : List Line) (l : Ledger) (placed : List Name) (m : Ledger) : Type 0 where
  pub sound : Sound ls m
  pub empty : NothingWaits m
  pub actions : (t : ℕ) → m.actions t ≡ take (length (m.actions t)) (l.actions t)
  pub drained : (c : ℕ) → m.drained c ≡ take (length (m.drained c)) (l.drained c)
  pub is_placed : (a : Name) → Exists m.actions a → Contains placed a
  pub there : (a : Name) → Contains placed a → Exists m.actions a
  pub closed : (a b : Name) → Contains placed b → edge (trace_of l) a b ≡ true → Contains placed a

-- Where nothing waits, no entry stands anywhere.
nowhere : (l : Ledger) → NothingWaits l → (t p : ℕ) → AtPosition p (l.waiting t) → ⊥
nowhere l empty t p at = subst (AtPosition p) (empty t) at

-- A front is no longer than the whole.
front_le : {X : Type 0} (n : ℕ) (xs : List X) → n ≡ length (take n xs) → n ≤ length xs
front_le n xs is = omega (arith, is, length-take n xs)

module _ (ls : List Line) (l : Ledger) (sound : Sound ls l) (empty : NothingWaits l) (placed : List Name) (m : Ledger) (part : Part ls l placed m) where
  pub shorter : (t : ℕ) → length (m.actions t) ≤ length (l.actions t)
  shorter t = front_le (length (m.actions t)) (l.actions t) (ap length (part.actions t))

  pub fewer : (c : ℕ) → length (m.drained c) ≤ length (l.drained c)
  fewer c = front_le (length (m.drained c)) (l.drained c) (ap length (part.drained c))

  -- What is there is there in the whole, and the same.
  pub whole_exists : (a : Name) → Exists m.actions a → Exists l.actions a
  whole_exists a there = omega (arith, there, shorter a.thread)

  pub whole_is : (a : Name) → Exists m.actions a → action_at m.actions a ≡ action_at l.actions a
  whole_is a there = ap (λ acts. get_or acts a.position no_action) (part.actions a.thread) ∙ get_or-take (length (m.actions a.thread)) (l.actions a.thread) a.position no_action there

  -- The store of a rank below the number of those drained is drained.
  pub rank_is : (c q : ℕ) (d : Name) → q < length (m.drained c) → get_or (m.drained c) q d ≡ get_or (l.drained c) q d
  rank_is c q d within = ap (λ names. get_or names q d) (part.drained c) ∙ get_or-take (length (m.drained c)) (l.drained c) q d within

  pub rank_exists : (c q : ℕ) (d : Name) → q < length (m.drained c) → Exists m.actions (get_or (l.drained c) q d)
  rank_exists c q d within = subst (Exists m.actions) (rank_is c q d within) (All-get_or (StoreTo m.actions c) (m.drained c) q d within (part.sound.drained c)).exists

  -- A store that is placed has such a rank.
  pub placed_rank : (c q : ℕ) (d : Name) → q < length (l.drained c) → Contains placed (get_or (l.drained c) q d) → q < length (m.drained c)
  placed_rank c q d within has =
      let a = get_or (l.drained c) q d in
      let there = part.there a has in
      let store = All-get_or (StoreTo l.actions c) (l.drained c) q d within (sound.drained c) in
      ⊎_elim
      (λ waits. absurd (nowhere m part.empty a.thread a.position waits))
      (λ in_List.
      let k_is : get_or (l.drained c) in_List.0 a ≡ get_or (l.drained c) q a = sym (rank_is c in_List.0 a in_List.1) ∙ in_List.2 ∙ get_or_default (l.drained c) q d a within in
      let same_rank = one_rank (l.drained c) (sound.once c) in_List.0 q a (omega (arith, in_List.1, fewer c)) within k_is in
      subst (λ k. k < length (m.drained c)) same_rank in_List.1)
      (part.sound.covered a c there (ap (λ y. y.access) (whole_is a there) ∙ store.access))

module _ (ls : List Line) (l : Ledger) (sound : Sound ls l) (empty : NothingWaits l) (placed : List Name) (m : Ledger) (part : Part ls l placed m) (b : Name) (b_there : Exists l.actions b) (b_lacking : Lacks placed b) (b_ready : Ready (trace_of l) placed b) where
  b_action : is_action (trace_of l) b ≡ true
  b_action = there_true l b b_there

  -- It is not there yet.
  b_new : Exists m.actions b → ⊥
  b_new there = lacks_has placed b b_lacking (part.is_placed b there)

  -- It is the next of its thread: the one before it is placed.
  pub b_next : b.position ≡ length (m.actions b.thread)
  b_next = go b.position refl
    where
      go : (p : ℕ) → b.position ≡ p → b.position ≡ length (m.actions b.thread)
      go zero is = ⊎_elim (λ there. absurd (b_new there)) (λ past. omega (arith, past, is)) (cases_lt b.position (length (m.actions b.thread)))
      go (suc q) is =
          let a = name b.thread q in
          let a_there : Exists l.actions a = omega (arith, b_there, is) in
          let before = part.there a (b_ready a (by_program_order (trace_of l) a b (there_true l a a_there) b_action refl (omega (arith, is)))) in
          ⊎_elim (λ there. absurd (b_new there)) (λ past. omega (arith, past, before, is)) (cases_lt b.position (length (m.actions b.thread)))

  -- A store has the next rank of its cell: the one before it is placed.
  module _ (c : ℕ) (store : (action_at l.actions b).access ≡ stores c) where
    b_drained : Contains (l.drained c) b
    b_drained = ⊎_elim (λ waits. absurd (nowhere l empty b.thread b.position waits)) (λ in_List. in_List) (sound.covered b c b_there store)

    low : length (m.drained c) ≤ b_drained.0
    low = ⊎_elim (λ below. absurd (b_new (subst (Exists m.actions) b_drained.2 (rank_exists ls l sound empty placed m part c b_drained.0 b below)))) (λ past. past) (cases_lt b_drained.0 (length (m.drained c)))

    rank : b_drained.0 ≡ length (m.drained c)
    rank = go b_drained.0 refl
      where
        go : (r : ℕ) → b_drained.0 ≡ r → b_drained.0 ≡ length (m.drained c)
        go zero is = omega (arith, low, is)
        go (suc q) is =
            let within : q < length (l.drained c) = omega (arith, b_drained.1, is) in
            let a = get_or (l.drained c) q b in
            let a_store = All-get_or (StoreTo l.actions c) (l.drained c) q b within (sound.drained c) in
            let next : next_in (l.drained c) a b ≡ true = subst (λ y. next_in (l.drained c) a y ≡ true) (ap (λ k. get_or (l.drained c) k b) (sym is) ∙ b_drained.2) (next_at (l.drained c) q b (omega (arith, b_drained.1, is))) in
            let before = placed_rank ls l sound empty placed m part c q b within (b_ready a (by_store_order (trace_of l) a b (there_true l a a_store.exists) b_action c a_store.access next)) in
            omega (arith, low, is, before)

    pub b_rank : get_or (l.drained c) (length (m.drained c)) b ≡ b
    b_rank = subst (λ k. get_or (l.drained c) k b ≡ b) rank b_drained.2

    pub b_within : length (m.drained c) < length (l.drained c)
    b_within = subst (λ k. k < length (l.drained c)) rank b_drained.1

  -- A load finds what it found.
  module _ (c : ℕ) where
    -- Of a store to c that is placed, an edge from b would have b placed.
    none_after : (source : Source) → (action_at l.actions b).access ≡ loads c source → (q : ℕ) → q < length (m.drained c) → from_reads (trace_of l) (loads c source) (get_or (l.drained c) q b) ≡ true → ⊥
    none_after source load q below after =
        let y = get_or (l.drained c) q b in
        let y_there = rank_exists ls l sound empty placed m part c q b below in
        lacks_has placed b b_lacking (part.closed b y (part.is_placed y y_there) (by_from_reads (trace_of l) b y b_action (there_true l y (whole_exists ls l sound empty placed m part y y_there)) (loads c source) load after))

    pub finds : (source : Source) → (action_at l.actions b).access ≡ loads c source → in_memory m c (last_of (m.drained c)) ≡ record { source = source; value = (action_at l.actions b).value }
    finds initial load =
        let none : length (m.drained c) ≡ 0 = ⊎_elim
        (λ some. absurd (none_after initial load 0 some (first_at (l.drained c) b (omega (arith, some, fewer ls l sound empty placed m part c)))))
        (λ past. omega (arith, past)) (cases_lt 0 (length (m.drained c))) in
        let last : last_of (m.drained c) ≡ None = ap last_of (nil_from_length (m.drained c) none) in
        let zero_held : m.cells c ≡ 0 = part.sound.cells c ∙ ap (held m.actions) last in
        ap (in_memory m c) last ∙ ap (λ v. record { source = initial; value = v }) (zero_held ∙ sym (sound.sources b c initial b_there load))
    finds (from s) load =
        let stored = sound.sources b c (from s) b_there load in
        let drained : Contains (l.drained c) s = ⊎_elim (λ waits. absurd (nowhere l empty s.thread s.position waits)) (λ in_List. in_List) (sound.covered s c stored.exists stored.access) in
        let r = drained.0 in
        let s_placed = b_ready s (by_reads_from (trace_of l) s b (there_true l s stored.exists) b_action c (from s) load (same_self s s refl)) in
        let below : r < length (m.drained c) = placed_rank ls l sound empty placed m part c r s drained.1 (subst (Contains placed) (sym drained.2) s_placed) in
        let above : length (m.drained c) ≤ suc r = ⊎_elim
        (λ more. absurd (none_after (from s) load (suc r) more (subst (λ y. next_in (l.drained c) y (get_or (l.drained c) (suc r) b) ≡ true) (get_or_default (l.drained c) r b s drained.1 ∙ drained.2) (next_at (l.drained c) r b (omega (arith, more, fewer ls l sound empty placed m part c))))))
        (λ past. past) (cases_lt (suc r) (length (m.drained c))) in
        let end : length (m.drained c) ≡ suc r = omega (arith, below, above) in
        let last : last_of (m.drained c) ≡ Some s = ap last_of (part.drained c ∙ ap (λ k. take k (l.drained c)) end) ∙ last_take (l.drained c) r s drained.1 ∙ ap Some drained.2 in
        ap (in_memory m c) last ∙ ap (λ v. record { source = from s; value = v }) (ap (λ y. y.value) (whole_is ls l sound empty placed m part s (part.there s s_placed)) ∙ stored.value)
