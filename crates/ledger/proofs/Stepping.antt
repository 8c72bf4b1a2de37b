-- An order gives a run, one entry after another.
use Rattle.std.proofs.Common.{◌≡◌, ℕ, ◌+◌, ◌<◌, true, cond, ltb, leb, List, [], ◌∷◌, ◌++◌, map, length, get_or, take, is_some, Some, None, sym, refl, ap, ◌∙◌, subst, ⊎_elim, arith}
use Rattle.std.specs.List.{slice_get, Contains}
use Rattle.std.proofs.lemmas.List.Elements.{Contains-append_left, Contains-push, Contains-push_cases}
use Rattle.std.proofs.lemmas.List.{length_push, take_more}
use Rattle.std.proofs.lemmas.Bool.{and_from, cases_eq, cases_lt, eq-eqb, leb-false, lt-ltb}
use Rattle.refusal.specs.declared.Refusal.TheVariants.{CellOutOfRange, BufferFull}
use Rattle.program.specs.declared.forms.Instruction.{Instruction}
use Rattle.program.specs.declared.forms.Instruction.TheVariants.{Load, Store, Fence, Compute, Assert}
use Rattle.program.specs.declared.lines.Line.{Line}
use Rattle.buffers.specs.Kinds.{direct}
use Rattle.buffers.specs.Lists.{none_of, nothing_waits, waits_to}
use Rattle.ledger.specs.Actions.{Access, Action, Name, Source, loads, name, none, stores}
use Rattle.ledger.specs.Edges.{edge, trace_of}
use Rattle.ledger.specs.Ledgers.{Entry, Ledger, action_at, no_action, operand}
use Rattle.ledger.specs.Moves.{Read, act, action_of, added, after_drain, after_move, after_moves, after_run, asked, forwarded, in_memory, issued, last_of, less_oldest, oldest, read, youngest}
use Rattle.ledger.specs.Orders.{Lacks, Ready, drained_after, entry_moves}
use Rattle.ledger.specs.Runs.{Accepted, NothingWaits}
use Rattle.ledger.specs.Tests.{Passes, form_tested, guard, lists_in, threads}
use Rattle.ledger.specs.declared.moves.Move.TheVariants.{Run, Drain}
use Rattle.ledger.proofs.Counts.{one_less}
use Rattle.ledger.proofs.Draining.{list_in, sound_drain}
use Rattle.ledger.proofs.Growing.{Exists, grown, name_is, new, new_exists, old_or_new, update_all, update_other, update_same}
use Rattle.ledger.proofs.Locals.{Right, local}
use Rattle.ledger.proofs.Passing.{DrainPasses, RunPasses, guard_passed, passes_drain, passes_run}
use Rattle.ledger.proofs.Replayed.{Part, b_next, b_rank, b_within, finds, shorter}
use Rattle.ledger.proofs.Sound.{Sound, sound_run}

-- Where nothing waits in the ledger, nothing waits in the lists that the rules see.
lists_empty : (l : Ledger) → NothingWaits l → (us : List ℕ) → nothing_waits (map (λ t. map (λ e. e.store) (l.waiting t)) us) ≡ true
lists_empty l empty [] = refl
lists_empty l empty (u ∷ us) =
    and_from (none_of (map (λ e. e.store) (l.waiting u))) (nothing_waits (map (λ t. map (λ e. e.store) (l.waiting t)) us))
    (ap (λ es. none_of (map (λ e. e.store) es)) (empty u)) (lists_empty l empty us)

-- A store that passes its tests is to one of the sixteen cells.
store_cell : (rs : ℕ → ℕ) (n : ℕ) (i : Instruction) (found : Read) (c : ℕ) → form_tested rs 0 i ≡ None → (act rs n i found).access ≡ stores c → c < 16
store_cell rs n (Load register address) found c passed is = grind arith
store_cell rs n (Store address value) found c passed is =
    let c_is : operand rs address ≡ c = cc in
    subst (λ k. k < 16) c_is (leb-false 16 (operand rs address) (guard_passed (leb 16 (operand rs address)) CellOutOfRange (guard (leb 16 0) BufferFull None) passed).0)
store_cell rs n Fence found c passed is = grind arith
store_cell rs n (Compute register operation a b) found c passed is = grind arith
store_cell rs n (Assert condition) found c passed is = grind arith

module _ (ls : List Line) (l : Ledger) (sound : Sound ls l) (empty : NothingWaits l) (placed : List Name) (m : Ledger) (part : Part ls l placed m) (b : Name) (b_there : Exists l.actions b) (b_lacking : Lacks placed b) (b_ready : Ready (trace_of l) placed b) where
  abbrev t : ℕ
  t = b.thread

  -- the action that is to be run again
  abbrev a : Action
  a = action_at l.actions b

  next_is : b.position ≡ length (m.actions t)
  next_is = b_next ls l sound empty placed m part b b_there b_lacking b_ready

  -- The thread stands where it stood.
  pub right : Right ls t (m.locals t) a
  right =
      subst (λ here. Right ls t here a)
      (sym (part.sound.locals t ∙ ap (local ls) (part.actions t ∙ ap (λ k. take k (l.actions t)) (sym next_is))))
      (sound.right t b.position b_there)

  abbrev line : Line
  line = right.line

  in_range : t < 8
  in_range = ⊎_elim (λ small. small) (λ past. absurd (let none : length (l.actions t) ≡ 0 = ap length (sound.in_range t past) in omega (arith, none, b_there))) (cases_lt t 8)

  -- Its run is accepted over direct.
  pub passed : RunPasses direct ls m t a.line
  passed = record {
    in_range = in_range;
    line = line;
    there = right.there;
    thread = right.thread;
    label = right.label;
    room = let less = one_less (λ u. length (m.actions u)) (λ u. length (l.actions u)) t in_range (shorter ls l sound empty placed m part) (omega (arith, next_is, b_there)) in omega (arith, less, sound.few);
    free = and_from (ltb t 8) (nothing_waits (lists_in m)) (lt-ltb t 8 in_range) (lists_empty m part.empty threads);
    form = subst (λ es. form_tested (m.locals t).registers (length es) line.instruction ≡ None) (sym (part.empty t)) right.passes;
  }

  -- It comes to the same action.
  reads_same : (c : ℕ) (source : Source) → a.access ≡ loads c source → read m t c ≡ record { source = source; value = a.value }
  reads_same c source load = ap (λ es. forwarded t (youngest c es) (in_memory m c (last_of (m.drained c)))) (part.empty t) ∙ finds ls l sound empty placed m part b b_there b_lacking b_ready c source load

  pub acts_same : action_of m t a.line line ≡ a
  acts_same = go line.instruction refl right.acts ∙ sym right.acts
    where
      rs : ℕ → ℕ
      rs = (m.locals t).registers

      go : (i : Instruction) → line.instruction ≡ i → a ≡ act rs a.line i right.found → act rs a.line i (read m t (asked rs i)) ≡ act rs a.line i right.found
      go (Load register address) is acts =
          let found = reads_same (operand rs address) right.found.source (ap (λ y. y.access) acts) in
          ap (act rs a.line (Load register address)) (found ∙ ap (λ v. record { source = right.found.source; value = v }) (ap (λ y. y.value) acts))
      go (Store address value) is acts = refl
      go Fence is acts = refl
      go (Compute register operation y z) is acts = refl
      go (Assert condition) is acts = refl

  abbrev placed' : List Name
  placed' = placed ++ b ∷ []

  -- the ledger after its run
  abbrev m1 : Ledger
  m1 = added m t line a

  m1_is : after_run m t a.line (slice_get ls a.line) ≡ m1
  m1_is = ap (after_run m t a.line) right.there ∙ ap (added m t line) acts_same

  sound1 : Sound ls m1
  unfolding right passed
  sound1 = subst (λ y. Sound ls (added m t line y)) acts_same (sound_run ls m part.sound direct t a.line passed)

  b_is : b ≡ new m.actions t a
  b_is = name_is b (new m.actions t a) refl next_is

  actions1 : (u : ℕ) → m1.actions u ≡ take (length (m1.actions u)) (l.actions u)
  actions1 =
      update_all m.actions t (m.actions t ++ a ∷ []) (λ u acts. acts ≡ take (length acts) (l.actions u))
      (let n : length (m.actions t ++ a ∷ []) ≡ length (m.actions t) + 1 = length_push (m.actions t) a in
      let one : take (length (m.actions t) + 1) (l.actions t) ≡ take (length (m.actions t)) (l.actions t) ++ get_or (l.actions t) (length (m.actions t)) no_action ∷ [] = take_more (l.actions t) (length (m.actions t)) no_action (omega (arith, next_is, b_there)) in
      sym (ap (λ k. take k (l.actions t)) n ∙ one ∙ ap (λ acts. acts ++ get_or (l.actions t) (length (m.actions t)) no_action ∷ []) (sym (part.actions t)) ∙ ap (λ k. m.actions t ++ get_or (l.actions t) k no_action ∷ []) (sym next_is)))
      (λ u other. part.actions u)

  is_placed1 : (y : Name) → Exists m1.actions y → Contains placed' y
  is_placed1 y there =
      ⊎_elim (λ old. Contains-append_left placed (b ∷ []) y (part.is_placed y old)) (λ is. subst (Contains placed') (b_is ∙ sym is) (Contains-push placed b)) (old_or_new m.actions t a y there)

  there1 : (y : Name) → Contains placed' y → Exists m1.actions y
  there1 y has =
      ⊎_elim (λ old. (grown m.actions t a).stays y (part.there y old)) (λ is. subst (Exists m1.actions) (sym b_is ∙ is) (new_exists m.actions t a)) (Contains-push_cases placed b y has)

  closed1 : (y z : Name) → Contains placed' z → edge (trace_of l) y z ≡ true → Contains placed' y
  closed1 y z has joined =
      ⊎_elim
      (λ old. Contains-append_left placed (b ∷ []) y (part.closed y z old joined))
      (λ is. Contains-append_left placed (b ∷ []) y (b_ready y (subst (λ k. edge (trace_of l) y k ≡ true) (sym is) joined)))
      (Contains-push_cases placed b z has)

  waiting_here : m1.waiting t ≡ issued (length (m.actions t)) a.value a.access
  waiting_here = update_same m.waiting t (m.waiting t ++ issued (length (m.actions t)) a.value a.access) ∙ ap (λ es. es ++ issued (length (m.actions t)) a.value a.access) (part.empty t)

  waiting_there : (u : ℕ) → (u ≡ t → ⊥) → m1.waiting u ≡ []
  waiting_there u other = update_other m.waiting t (m.waiting t ++ issued (length (m.actions t)) a.value a.access) u other ∙ part.empty u

  -- Where it is no store, that is all.
  pub part1 : issued (length (m.actions t)) a.value a.access ≡ [] → Part ls l placed' m1
  part1 bare = record {
    sound = sound1;
    empty = λ u. ⊎_elim (λ is. ap (λ k. m1.waiting k) is ∙ waiting_here ∙ bare) (waiting_there u) (cases_eq u t);
    actions = actions1;
    drained = part.drained;
    is_placed = is_placed1;
    there = there1;
    closed = closed1;
  }

  -- A store drains directly after its run.
  module _ (c : ℕ) (store : a.access ≡ stores c) where
    abbrev e : Entry
    e = record { position = length (m.actions t); store = record { cell = c; value = a.value } }

    one_waits : m1.waiting t ≡ e ∷ []
    one_waits = waiting_here ∙ ap (issued (length (m.actions t)) a.value) store

    found : oldest c (m1.waiting t) ≡ Some e
    found = ap (oldest c) one_waits ∙ ap (λ k. cond k (Some e) None) (eq-eqb c c refl)

    pub drain_passed : DrainPasses direct m1 t c
    drain_passed = record {
      in_range = in_range;
      cell = store_cell (m.locals t).registers a.line line.instruction right.found c right.passes (sym (ap (λ y. y.access) right.acts) ∙ store);
      free = ap (waits_to c) (list_in m1 t in_range ∙ ap (map (λ f. f.store)) one_waits) ∙ ap (λ k. is_some (cond k (Some a.value) None)) (eq-eqb c c refl);
    }

    abbrev m2 : Ledger
    m2 = after_drain m1 t c (Some e)

    pub m2_is : after_drain m1 t c (oldest c (m1.waiting t)) ≡ m2
    m2_is = ap (after_drain m1 t c) found

    drained2 : (d : ℕ) → m2.drained d ≡ take (length (m2.drained d)) (l.drained d)
    drained2 =
        update_all m.drained c (m.drained c ++ name t (length (m.actions t)) ∷ []) (λ d names. names ≡ take (length names) (l.drained d))
        (let n : length (m.drained c ++ name t (length (m.actions t)) ∷ []) ≡ length (m.drained c) + 1 = length_push (m.drained c) (name t (length (m.actions t))) in
        let one : take (length (m.drained c) + 1) (l.drained c) ≡ take (length (m.drained c)) (l.drained c) ++ get_or (l.drained c) (length (m.drained c)) b ∷ [] = take_more (l.drained c) (length (m.drained c)) b (b_within ls l sound empty placed m part b b_there b_lacking b_ready c store) in
        sym (ap (λ k. take k (l.drained c)) n ∙ one ∙ ap (λ names. names ++ get_or (l.drained c) (length (m.drained c)) b ∷ []) (sym (part.drained c)) ∙ ap (λ y. m.drained c ++ y ∷ []) (b_rank ls l sound empty placed m part b b_there b_lacking b_ready c store ∙ b_is)))
        (λ d other. part.drained d)

    pub part2 : Part ls l placed' m2
    part2 = record {
      sound = sound_drain ls m1 sound1 t c e found;
      empty = λ u. ⊎_elim
          (λ is. ap (λ k. m2.waiting k) is ∙ update_same m1.waiting t (less_oldest c (m1.waiting t)) ∙ ap (less_oldest c) one_waits ∙ ap (λ k. cond k [] (e ∷ [])) (eq-eqb c c refl))
          (λ other. update_other m1.waiting t (less_oldest c (m1.waiting t)) u other ∙ waiting_there u other)
          (cases_eq u t);
      actions = actions1;
      drained = drained2;
      is_placed = is_placed1;
      there = there1;
      closed = closed1;
    }

  -- An entry of the order, as moves, is accepted, and places one action more.
  pub entry_step : Accepted direct ls m (entry_moves (trace_of l) b) × Part ls l placed' (after_moves ls m (entry_moves (trace_of l) b))
  entry_step = go a.access refl
    where
      run : Passes direct ls m (Run t a.line)
      run = passes_run direct ls m t a.line passed

      go : (access : Access) → a.access ≡ access → Accepted direct ls m (Run t a.line ∷ drained_after t access) × Part ls l placed' (after_moves ls m (Run t a.line ∷ drained_after t access))
      go none is = ((run, tt), subst (Part ls l placed') (sym m1_is) (part1 (ap (issued (length (m.actions t)) a.value) is)))
      go (loads c source) is = ((run, tt), subst (Part ls l placed') (sym m1_is) (part1 (ap (issued (length (m.actions t)) a.value) is)))
      go (stores c) is = (
        (run, (subst (λ k. Passes direct ls k (Drain t c)) (sym m1_is) (passes_drain direct ls m1 t c (drain_passed c is)), tt)),
        subst (λ k. Part ls l placed' (after_move ls k (Drain t c))) (sym m1_is) (subst (Part ls l placed') (sym (m2_is c is)) (part2 c is)),
      )
