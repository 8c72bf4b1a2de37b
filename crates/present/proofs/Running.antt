-- A run offered to a replay that agrees with a ledger: it is tested and answered as the ledger says, and the two agree afterwards.
use Rattle.std.proofs.Common.{◌≡◌, ℕ, zero, suc, ◌<◌, ◌≤◌, Bool, true, false, cond, not, eqb, leb, List, [], ◌∷◌, ◌++◌, map, length, get_or, set, Some, None, Option, sym, refl, ap, ◌∙◌, subst, ⊎_elim, append-nil, zero-add, arith}
use mathlib.Core.Path.{fun_ext}
use Rattle.std.specs.List.{slice_get}
use Rattle.std.specs.Option.{option_map}
use Rattle.std.proofs.lemmas.List.Elements.{All-head, All-tail, All-weaker}
use Rattle.std.proofs.lemmas.List.{get_or_append_left, get_or_push, length-map, length_push, map_push}
use Rattle.std.proofs.lemmas.Bool.{cases_lt, leb-false}
use Rattle.refusal.specs.declared.Refusal.TheVariants.{ThreadOutOfRange, NoSuchInstruction, AtAnotherLabel, RunFull, ThreadNotFree, FenceBeforeDrain, CellOutOfRange, AssertFailed, BufferFull, StoreNotWaiting}
use Rattle.program.specs.declared.forms.Instruction.{Instruction}
use Rattle.program.specs.declared.forms.Instruction.TheVariants.{Load, Store, Fence, Compute, Assert}
use Rattle.program.specs.declared.lines.Line.{Line}
use Rattle.buffers.specs.Calls.{store}
use Rattle.buffers.specs.Laws.{Rules}
use Rattle.buffers.specs.Lists.{Lists, list_of, newest_to}
use Rattle.ledger.specs.Actions.{Access, Action, Name, Source, from, initial, loads, name, none, same, stores}
use Rattle.ledger.specs.Answers.{answer, run_value}
use Rattle.ledger.specs.Ledgers.{Entry, Ledger, Local, operand, update}
use Rattle.ledger.specs.Moves.{Read, act, action_of, added, after_move, after_run, asked, forwarded, in_memory, issued, last_of, ran, read, youngest}
use Rattle.ledger.specs.Orders.{Lacks}
use Rattle.ledger.specs.Tests.{form_tested, guard, how_many, line_tested, lists_in, sum_over, tested, threads}
use Rattle.ledger.specs.declared.moves.Move.TheVariants.{Run}
use Rattle.ledger.proofs.Draining.{list_in}
use Rattle.ledger.proofs.Growing.{grown, same_true, update_all}
use Rattle.ledger.proofs.Sound.{Sound, StoreTo}
use Rattle.ledger.proofs.Waits.{last_all}
use Rattle.present.specs.Agreement.{Agrees, entries, overwrote}
use Rattle.present.specs.Calls.{action_held, after_move_held, after_run_held, answer_held, form_tested_held, found_in, line_tested_held, put_in, ran_with, run_value_held, tested_held, told, unknown}
use Rattle.present.specs.Data.{Held, Noted, actions_in, how_many_in, nothing_noted, waiting_of, youngest_left}
use Rattle.present.proofs.Youngest.{entries_push, left_youngest, newest_youngest}

-- A store that the list lacks overwrote nothing.
pub overwrote_none : (s : Source) (names : List Name) (a : Name) → Lacks names a → overwrote s names a ≡ None
overwrote_none s [] a lacks = refl
overwrote_none s (x ∷ names) a lacks = go (same x a) refl (overwrote_none (from x) names a (All-tail (λ b. b ≡ a → ⊥) x names lacks))
  where
    go : (b : Bool) → same x a ≡ b → overwrote (from x) names a ≡ None → cond b (Some s) (overwrote (from x) names a) ≡ None
    go true is later = absurd (All-head (λ d. d ≡ a → ⊥) x names lacks (same_true x a is))
    go false is later = later

-- What F tells of a table, changed at one place, is the table of what it tells, changed there.
pub update_told : {X Y : Type 0} (F : X → Y) (f : ℕ → X) (g : ℕ → Y) (k : ℕ) (x : X) (y : Y) → F x ≡ y → ((n : ℕ) → F (f n) ≡ g n) → (n : ℕ) → F (update f k x n) ≡ update g k y n
update_told F f g k x y here there n = go (eqb n k)
  where
    go : (b : Bool) → F (cond b x (f n)) ≡ cond b y (g n)
    go true = here
    go false = there n

-- A table changed at one place to what is there already stays as it is.
update_nothing : {X : Type 0} (f : ℕ → X) (k : ℕ) (x : X) → x ≡ f k → update f k x ≡ f
update_nothing f k x same_there = fun_ext (update_all f k x (λ n y. y ≡ f n) same_there (λ n apart. refl))

-- the waiting stores of the eight threads, as the buffer's lists
abbrev pub lists_from : (ℕ → List Entry) → Lists
lists_from w = map (λ t. map (λ e. e.store) (w t)) threads

-- Where one thread's stores change, one list changes.
pub lists_update : (w : ℕ → List Entry) (t : ℕ) (es : List Entry) → t < 8 → lists_from (update w t es) ≡ set (lists_from w) t (map (λ e. e.store) es)
lists_update w zero es lt = refl
lists_update w (suc zero) es lt = refl
lists_update w (suc (suc zero)) es lt = refl
lists_update w (suc (suc (suc zero))) es lt = refl
lists_update w (suc (suc (suc (suc zero)))) es lt = refl
lists_update w (suc (suc (suc (suc (suc zero))))) es lt = refl
lists_update w (suc (suc (suc (suc (suc (suc zero)))))) es lt = refl
lists_update w (suc (suc (suc (suc (suc (suc (suc zero))))))) es lt = refl
lists_update w (suc (suc (suc (suc (suc (suc (suc (suc t)))))))) es lt = absurd (omega (arith, lt))

-- What the buffer tells of a store and the position that is left waiting, told of one entry, are what is forwarded.
told_forwarded : (t : ℕ) (o : Option Entry) (memory : Read) → told t (option_map (λ e. e.store.value) o) (option_map (λ e. e.position) o) memory ≡ forwarded t o memory
told_forwarded t None memory = refl
told_forwarded t (Some e) memory = refl

-- Told of one entry, they are never at odds.
known : (o : Option Entry) → unknown (option_map (λ e. e.store.value) o) (option_map (λ e. e.position) o) ≡ false
known None = refl
known (Some e) = refl

module _ (l : Ledger) (h : Held) (agrees : Agrees l h) where
  -- As many actions are kept of each thread as the ledger has.
  pub kept_length : (t : ℕ) → length (h.own.noted t) ≡ length (l.actions t)
  kept_length t = sym (length-map (h.own.noted t) (λ x. x.action)) ∙ ap length (agrees.actions t)

  -- So as many are kept of all threads.
  pub kept_many : how_many_in h.own ≡ how_many l
  kept_many = ap (λ f. sum_over f threads) (fun_ext kept_length)

  module _ (t : ℕ) (in_range : t < 8) where
    -- The buffer's list of a thread is what waits in the ledger.
    pub kept_waiting : waiting_of h t ≡ map (λ e. e.store) (l.waiting t)
    kept_waiting = ap (λ lists. list_of lists t) agrees.lists ∙ list_in l t in_range

    -- As many stores of the thread wait.
    waiting_length : length (waiting_of h t) ≡ length (l.waiting t)
    waiting_length = ap length kept_waiting ∙ length-map (l.waiting t) (λ e. e.store)

    -- The buffer tells the value of the ledger's youngest entry.
    newest_kept : (c : ℕ) → newest_to c (waiting_of h t) ≡ option_map (λ e. e.store.value) (youngest c (l.waiting t))
    newest_kept c = ap (newest_to c) kept_waiting ∙ newest_youngest c (l.waiting t)

    -- The youngest action left waiting is that of the ledger's youngest entry.
    left_kept : (c : ℕ) → youngest_left 0 c (h.own.noted t) ≡ option_map (λ e. e.position) (youngest c (l.waiting t))
    left_kept c = left_youngest 0 c (h.own.noted t) ∙ ap (λ es. option_map (λ e. e.position) (youngest c es)) (agrees.waiting t)

    -- A load finds what the ledger says.
    pub found_read : (c : ℕ) → found_in h t c ≡ read l t c
    found_read c =
        (λ i. told t (newest_kept c i) (left_kept c i) (agrees.memory c i))
        ∙ told_forwarded t (youngest c (l.waiting t)) (in_memory l c (last_of (l.drained c)))

    -- The buffer tells of a store only where one is left waiting.
    known_kept : (c : ℕ) → unknown (newest_to c (waiting_of h t)) (youngest_left 0 c (h.own.noted t)) ≡ false
    known_kept c = (λ i. unknown (newest_kept c i) (left_kept c i)) ∙ known (youngest c (l.waiting t))

    -- The action is the ledger's.
    pub action_kept : (n : ℕ) (line : Line) → action_held h t n line ≡ action_of l t n line
    action_kept n line =
        ap (λ here. act here.registers n line.instruction (found_in h t (asked here.registers line.instruction))) (agrees.locals t)
        ∙ ap (act (l.locals t).registers n line.instruction) (found_read (asked (l.locals t).registers line.instruction))

    -- Each form is tested as the ledger says.
    form_kept : (i : Instruction) → form_tested_held h t i ≡ form_tested (l.locals t).registers (length (l.waiting t)) i
    form_kept (Load register address) =
        ap (λ b. guard (leb 16 (operand (h.own.locals t).registers address)) CellOutOfRange (guard b StoreNotWaiting None)) (known_kept (operand (h.own.locals t).registers address))
        ∙ ap (λ here. guard (leb 16 (operand here.registers address)) CellOutOfRange None) (agrees.locals t)
    form_kept (Store address value) = λ i. guard (leb 16 (operand (agrees.locals t i).registers address)) CellOutOfRange (guard (leb 16 (waiting_length i)) BufferFull None)
    form_kept Fence = ap (λ k. guard (leb 1 k) FenceBeforeDrain None) waiting_length
    form_kept (Compute register operation a b) = refl
    form_kept (Assert condition) = ap (λ here. guard (eqb (operand here.registers condition) 0) AssertFailed None) (agrees.locals t)

    -- Each line is tested as the ledger says.
    line_kept : (rules : Rules) (o : Option Line) → line_tested_held rules h t o ≡ line_tested rules l t o
    line_kept rules None = refl
    line_kept rules (Some line) = λ i.
        guard (not (eqb line.thread t)) NoSuchInstruction
        (guard (not (eqb line.label (agrees.locals t i).label)) AtAnotherLabel
        (guard (leb 256 (kept_many i)) RunFull
        (guard (not (rules.steps (agrees.lists i) t)) ThreadNotFree
        (form_kept line.instruction i))))

    -- The value is the ledger's.
    value_kept : (n : ℕ) (o : Option Line) → run_value_held h t n o ≡ run_value l t n o
    value_kept n None = refl
    value_kept n (Some line) = ap (λ x. x.value) (action_kept n line)

  module _ (ls : List Line) (sound : Sound ls l) (t : ℕ) (in_range : t < 8) (line : Line) (x : Action) where
    -- the ledger with the action
    abbrev next : Ledger
    next = added l t line x

    -- the action as it is kept
    abbrev kept : Noted
    kept = record { action = x; over = None }

    -- what it leaves waiting
    abbrev issues : List Entry
    issues = issued (length (l.actions t)) x.value x.access

    -- Memory gives what it gave, since what was drained is there already.
    memory_next : (c : ℕ) → h.own.memory c ≡ in_memory next c (last_of (l.drained c))
    memory_next c = agrees.memory c ∙ go (last_of (l.drained c)) refl
      where
        go : (o : Option Name) → last_of (l.drained c) ≡ o → in_memory l c o ≡ in_memory next c o
        go None is = refl
        go (Some a) is = ap (λ (y : Action). record { source = from a; value = y.value }) (sym ((grown l.actions t x).as_was a (last_all (StoreTo l.actions c) (l.drained c) a is (sound.drained c)).exists))

    -- The actions are the ledger's with the new one.
    actions_next : (u : ℕ) → actions_in (ran_with h t line x).own u ≡ next.actions u
    actions_next =
        update_told (map (λ (y : Noted). y.action)) h.own.noted l.actions t (h.own.noted t ++ kept ∷ []) (l.actions t ++ x ∷ [])
        (map_push (λ (y : Noted). y.action) (h.own.noted t) kept ∙ ap (λ acts. acts ++ x ∷ []) (agrees.actions t)) agrees.actions

    -- The actions that are left waiting are the ledger's entries with the new one, if there is one.
    waiting_next : (u : ℕ) → entries 0 ((ran_with h t line x).own.noted u) ≡ next.waiting u
    waiting_next =
        update_told (entries 0) h.own.noted l.waiting t (h.own.noted t ++ kept ∷ []) (l.waiting t ++ issues)
        (entries_push 0 (h.own.noted t) kept
        ∙ (λ i. agrees.waiting t i ++ issued ((zero-add (length (h.own.noted t)) ∙ kept_length t) i) x.value x.access)) agrees.waiting

    -- The new action is in no cell's list.
    new_lacking : (c p : ℕ) → length (l.actions t) ≤ p → Lacks (l.drained c) (name t p)
    new_lacking c p past =
        All-weaker (StoreTo l.actions c) (λ b. b ≡ name t p → ⊥)
        (λ b s is. let within : p < length (l.actions t) = subst (λ y. y.position < length (l.actions y.thread)) is s.exists in omega (arith, within, past)) (l.drained c) (sound.drained c)

    -- the stores among the kept actions of a thread know what they overwrote
    abbrev OverRight : ℕ → List Noted → Type 0
    OverRight u xs = (p c : ℕ) → p < length xs → (get_or xs p nothing_noted).action.access ≡ stores c → (get_or xs p nothing_noted).over ≡ overwrote initial (l.drained c) (name u p)

    -- The old stores of the thread know it as before, and the new action overwrote nothing.
    over_here : OverRight t (h.own.noted t ++ kept ∷ [])
    over_here p c within access =
        ⊎_elim
        (λ below.
        let as_was : get_or (h.own.noted t ++ kept ∷ []) p nothing_noted ≡ get_or (h.own.noted t) p nothing_noted = get_or_append_left (h.own.noted t) (kept ∷ []) nothing_noted p below in
        ap (λ y. y.over) as_was ∙ agrees.over (name t p) c below (ap (λ y. y.action.access) (sym as_was) ∙ access))
        (λ past.
        let end : length (h.own.noted t) ≡ p = omega (arith, past, within, length_push (h.own.noted t) kept) in
        ap (λ y. y.over) (get_or_push (h.own.noted t) kept nothing_noted p end)
        ∙ sym (overwrote_none initial (l.drained c) (name t p) (new_lacking c p (omega (arith, end, kept_length t)))))
        (cases_lt p (length (h.own.noted t)))

    -- So do the stores of every thread.
    over_next : (u : ℕ) → OverRight u ((ran_with h t line x).own.noted u)
    over_next = update_all h.own.noted t (h.own.noted t ++ kept ∷ []) OverRight over_here (λ u apart p c. agrees.over (name u p) c)

    -- The buffer's lists are the ledger's with the new store, if there is one.
    lists_next : put_in h.lists t x.value x.access ≡ lists_in next
    lists_next = go x.access
      where
        -- Where no store is issued, the lists stay.
        nothing_issued : h.lists ≡ lists_from (update l.waiting t (l.waiting t ++ []))
        nothing_issued = agrees.lists ∙ ap lists_from (sym (update_nothing l.waiting t (l.waiting t ++ []) (append-nil (l.waiting t))))

        go : (access : Access) → put_in h.lists t x.value access ≡ lists_from (update l.waiting t (l.waiting t ++ issued (length (l.actions t)) x.value access))
        go none = nothing_issued
        go (stores c) =
            let e : Entry = record { position = length (l.actions t); store = store c x.value } in
            (λ i. set (agrees.lists i) t (kept_waiting t in_range i ++ store c x.value ∷ []))
            ∙ ap (set (lists_in l) t) (sym (map_push (λ (f : Entry). f.store) (l.waiting t) e))
            ∙ sym (lists_update l.waiting t (l.waiting t ++ e ∷ []) in_range)
        go (loads c source) = nothing_issued

    -- An action that is added to the ledger and kept by the replay leaves the two in agreement.
    pub added_agrees : Agrees next (ran_with h t line x)
    added_agrees = record {
      locals = update_told (λ (here : Local). here) h.own.locals l.locals t (ran line x.value (h.own.locals t)) (ran line x.value (l.locals t)) (ap (ran line x.value) (agrees.locals t)) agrees.locals;
      memory = memory_next;
      actions = actions_next;
      waiting = waiting_next;
      over = λ a c within access. over_next a.thread a.position c within access;
      lists = lists_next;
    }

-- A run is tested as the ledger says.
pub run_tested : (rules : Rules) (ls : List Line) (l : Ledger) (h : Held) → Agrees l h → (t n : ℕ) → tested_held rules ls h (Run t n) ≡ tested rules ls l (Run t n)
run_tested rules ls l h agrees t n = go (leb 8 t) refl
  where
    go : (b : Bool) → leb 8 t ≡ b → guard b ThreadOutOfRange (line_tested_held rules h t (slice_get ls n)) ≡ guard b ThreadOutOfRange (line_tested rules l t (slice_get ls n))
    go true is = refl
    go false is = line_kept l h agrees t (leb-false 8 t is) rules (slice_get ls n)

-- It is answered as the ledger says.
pub run_answer : (ls : List Line) (l : Ledger) → Sound ls l → (h : Held) → Agrees l h → (t n : ℕ) → t < 8 → answer_held ls h (Run t n) ≡ answer ls l (Run t n)
run_answer ls l sound h agrees t n in_range = value_kept l h agrees t in_range n (slice_get ls n)

-- The two agree afterwards.
pub run_agrees : (ls : List Line) (l : Ledger) → Sound ls l → (h : Held) → Agrees l h → (t n : ℕ) → t < 8 → Agrees (after_move ls l (Run t n)) (after_move_held ls h (Run t n))
run_agrees ls l sound h agrees t n in_range = go (slice_get ls n)
  where
    go : (o : Option Line) → Agrees (after_run l t n o) (after_run_held h t n o)
    go None = agrees
    go (Some line) = subst (λ x. Agrees (after_run l t n (Some line)) (ran_with h t line x)) (sym (action_kept l h agrees t in_range n line)) (added_agrees l h agrees ls sound t in_range line (action_of l t n line))
