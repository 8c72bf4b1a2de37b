-- A drain: a replay that agrees with a ledger refuses and answers it as the ledger does, and the two agree afterwards.
use Rattle.std.proofs.Common.{◌≡◌, ℕ, ◌<◌, Bool, true, false, not, leb, List, [], ◌∷◌, ◌++◌, map, length, get_or, set, is_some, Some, None, Option, unwrap_or, sym, refl, ap, ◌∙◌, subst, ⊎_elim, arith}
use Rattle.std.proofs.lemmas.List.{get_or-set_other, get_or-set_same, length-set}
use Rattle.std.proofs.lemmas.Bool.{cases_eq, leb-false}
use Rattle.refusal.specs.declared.Refusal.TheVariants.{ThreadOutOfRange, CellOutOfRange, DrainNotFree, StoreNotWaiting}
use Rattle.program.specs.declared.lines.Line.{Line}
use Rattle.buffers.specs.Laws.{Lawful, Rules}
use Rattle.buffers.specs.Lists.{list_of, oldest_to, waits_to, without_oldest}
use Rattle.ledger.specs.Actions.{Name, Source, from, initial, name, stores}
use Rattle.ledger.specs.Answers.{answer, drain_value}
use Rattle.ledger.specs.Ledgers.{Entry, Ledger}
use Rattle.ledger.specs.Moves.{after_drain, after_move, in_memory, last_of, less_oldest, oldest}
use Rattle.ledger.specs.Orders.{Lacks}
use Rattle.ledger.specs.Tests.{Passes, guard, lists_in, tested}
use Rattle.ledger.specs.declared.moves.Move.TheVariants.{Drain}
use Rattle.ledger.proofs.Draining.{drain_finds, list_in}
use Rattle.ledger.proofs.Growing.{name_is, update_all, update_other, update_same}
use Rattle.ledger.proofs.Passing.{drain_passes}
use Rattle.ledger.proofs.Sound.{Entered, Sound}
use Rattle.ledger.proofs.Waits.{last_push, oldest_of, oldest_there}
use Rattle.present.specs.Agreement.{Agrees, entries, overwrote}
use Rattle.present.specs.Calls.{after_drain_held, after_move_held, answer_held, overwriting, tested_held}
use Rattle.present.specs.Data.{Held, Noted, actions_in, noted_at, nothing_noted, oldest_left, waiting_of}
use Rattle.present.proofs.Running.{lists_update}
use Rattle.present.proofs.Oldest.{Found, actions_kept, found, memory_source, oldest_stored, overwrote_new, overwrote_old, without_stored}

-- The buffer's list of a thread is what waits in the ledger.
stores_waiting : (l : Ledger) (h : Held) → Agrees l h → (t : ℕ) → t < 8 → waiting_of h t ≡ map (λ e. e.store) (l.waiting t)
stores_waiting l h agrees t in_range = ap (λ lists. list_of lists t) agrees.lists ∙ list_in l t in_range

module _ (l : Ledger) (h : Held) (agrees : Agrees l h) (t c : ℕ) where
  -- The ledger's oldest waiting store is that of a kept action.
  found_held : (e : Entry) → oldest c (l.waiting t) ≡ Some e → Found 0 c (h.own.noted t) e
  found_held e is = found 0 c (h.own.noted t) e (ap (oldest c) (agrees.waiting t) ∙ is)

  -- Where a drain is free, an action is left waiting.
  left_there : (rules : Rules) → Lawful rules → t < 8 → rules.drains (lists_in l) t c ≡ true → is_some (oldest_left 0 c (h.own.noted t)) ≡ true
  left_there rules lawful in_range free =
      let f = oldest_there c (l.waiting t) (subst (λ ss. waits_to c ss ≡ true) (list_in l t in_range) (lawful.drain_waits (lists_in l) t c free)) in
      ap (λ o. is_some o) (found_held f.0 f.1).left

-- A drain is refused as the ledger refuses it.
pub drain_tested : (rules : Rules) → Lawful rules → (ls : List Line) (l : Ledger) (h : Held) → Agrees l h → (t c : ℕ) → tested_held rules ls h (Drain t c) ≡ tested rules ls l (Drain t c)
drain_tested rules lawful ls l h agrees t c =
    ap (λ lists. guard (leb 8 t) ThreadOutOfRange (guard (leb 16 c) CellOutOfRange (guard (not (rules.drains lists t c)) DrainNotFree (guard (not (is_some (oldest_left 0 c (h.own.noted t)))) StoreNotWaiting None)))) agrees.lists
    ∙ by_thread (leb 8 t) refl
  where
    by_rule : (b : Bool) → rules.drains (lists_in l) t c ≡ b → t < 8 → guard (not b) DrainNotFree (guard (not (is_some (oldest_left 0 c (h.own.noted t)))) StoreNotWaiting None) ≡ guard (not b) DrainNotFree None
    by_rule true free in_range = ap (λ b. guard (not b) StoreNotWaiting None) (left_there l h agrees t c rules lawful in_range free)
    by_rule false taken in_range = refl

    by_thread : (b : Bool) → leb 8 t ≡ b → guard b ThreadOutOfRange (guard (leb 16 c) CellOutOfRange (guard (not (rules.drains (lists_in l) t c)) DrainNotFree (guard (not (is_some (oldest_left 0 c (h.own.noted t)))) StoreNotWaiting None))) ≡ guard b ThreadOutOfRange (guard (leb 16 c) CellOutOfRange (guard (not (rules.drains (lists_in l) t c)) DrainNotFree None))
    by_thread true out = refl
    by_thread false small = ap (guard (leb 16 c) CellOutOfRange) (by_rule (rules.drains (lists_in l) t c) refl (leb-false 8 t small))

-- It is answered as the ledger answers it.
pub drain_answer : (rules : Rules) → Lawful rules → (ls : List Line) (l : Ledger) → Sound ls l → (h : Held) → Agrees l h → (t c : ℕ) → Passes rules ls l (Drain t c) → answer_held ls h (Drain t c) ≡ answer ls l (Drain t c)
drain_answer rules lawful ls l sound h agrees t c passed =
    let f = drain_finds rules ls l t c lawful passed in
    ap (λ ss. unwrap_or (oldest_to c ss) 0) (stores_waiting l h agrees t (drain_passes rules ls l t c passed).in_range)
    ∙ ap (λ o. unwrap_or o 0) (oldest_stored c (l.waiting t) f.0 f.1)
    ∙ sym (ap drain_value f.1)

module _ (ls : List Line) (l : Ledger) (sound : Sound ls l) (h : Held) (agrees : Agrees l h) (t c : ℕ) (in_range : t < 8) (e : Entry) (oldest_is : oldest c (l.waiting t) ≡ Some e) where
  abbrev next : Ledger
  next = after_drain l t c (Some e)

  abbrev next_held : Held
  next_held = after_drain_held h t c (Some e.store.value) (Some e.position)

  abbrev x : Name
  x = name t e.position

  -- what the store overwrites
  abbrev under : Source
  under = (h.own.memory c).source

  abbrev changed : List Noted
  changed = overwriting under e.position (h.own.noted t)

  -- The kept action is at the position of the entry.
  place_is : (found_held l h agrees t c e oldest_is).place ≡ e.position
  place_is = omega (arith, (found_held l h agrees t c e oldest_is).is)

  -- It is among the actions of the thread.
  x_within : e.position < length (h.own.noted t)
  x_within = subst (λ p. p < length (h.own.noted t)) place_is (found_held l h agrees t c e oldest_is).within

  -- It is a store to the cell.
  x_access : (get_or (h.own.noted t) e.position nothing_noted).action.access ≡ stores c
  x_access = subst (λ p. (get_or (h.own.noted t) p nothing_noted).action.access ≡ stores c) place_is (found_held l h agrees t c e oldest_is).access

  -- Once it is told what it overwrote, the other stores are left waiting.
  x_taken : entries 0 changed ≡ less_oldest c (entries 0 (h.own.noted t))
  x_taken = subst (λ p. entries 0 (overwriting under p (h.own.noted t)) ≡ less_oldest c (entries 0 (h.own.noted t))) place_is ((found_held l h agrees t c e oldest_is).others under)

  -- The entry is a store of the thread to the cell.
  entered : Entered l.actions t e × (e.store.cell ≡ c)
  entered = oldest_of (Entered l.actions t) c (l.waiting t) e oldest_is (sound.entries t)

  -- It was not drained before.
  x_lacking : Lacks (l.drained c) x
  x_lacking = subst (λ d. Lacks (l.drained d) x) entered.1 (oldest_of (λ f. Lacks (l.drained f.store.cell) (name t f.position)) c (l.waiting t) e oldest_is (sound.apart t)).0

  -- The list of its cell is one longer.
  drained_here : next.drained c ≡ l.drained c ++ x ∷ []
  drained_here = update_same l.drained c (l.drained c ++ x ∷ [])

  -- The others are as they were.
  drained_there : (d : ℕ) → (d ≡ c → ⊥) → next.drained d ≡ l.drained d
  drained_there d other = update_other l.drained c (l.drained c ++ x ∷ []) d other

  -- Memory gives the store at its cell, and elsewhere what it gave.
  memory_next : (d : ℕ) → next_held.own.memory d ≡ in_memory next d (last_of (next.drained d))
  memory_next =
      update_all h.own.memory c (record { source = from x; value = e.store.value }) (λ d found_there. found_there ≡ in_memory next d (last_of (next.drained d)))
      (ap (λ v. record { source = from x; value = v }) (sym entered.0.value) ∙ sym (ap (in_memory next c) (ap last_of drained_here ∙ last_push (l.drained c) x)))
      (λ d other. agrees.memory d ∙ elsewhere d other (last_of (l.drained d)) ∙ sym (ap (λ names. in_memory next d (last_of names)) (drained_there d other)))
    where
      elsewhere : (d : ℕ) → (d ≡ c → ⊥) → (o : Option Name) → in_memory l d o ≡ in_memory next d o
      elsewhere d other None = ap (λ v. record { source = initial; value = v }) (sym (update_other l.cells c e.store.value d other))
      elsewhere d other (Some a) = refl

  -- The actions are the same.
  actions_next : (u : ℕ) → actions_in next_held.own u ≡ l.actions u
  actions_next =
      update_all h.own.noted t changed (λ u xs. map (λ y. y.action) xs ≡ l.actions u)
      (actions_kept under (h.own.noted t) e.position ∙ agrees.actions t)
      (λ u other. agrees.actions u)

  -- The other stores are left waiting.
  waiting_next : (u : ℕ) → entries 0 (next_held.own.noted u) ≡ next.waiting u
  waiting_next =
      update_all h.own.noted t changed (λ u xs. entries 0 xs ≡ next.waiting u)
      (x_taken ∙ ap (less_oldest c) (agrees.waiting t) ∙ sym (update_same l.waiting t (less_oldest c (l.waiting t))))
      (λ u other. agrees.waiting u ∙ sym (update_other l.waiting t (less_oldest c (l.waiting t)) u other))

  -- The kept action of the store is told what it overwrote.
  noted_here : noted_at next_held.own x ≡ record { action = (get_or (h.own.noted t) e.position nothing_noted).action; over = Some under }
  noted_here =
      ap (λ xs. get_or xs e.position nothing_noted) (update_same h.own.noted t changed)
      ∙ get_or-set_same (h.own.noted t) e.position _ nothing_noted x_within

  -- The other kept actions are as they were.
  noted_there : (a : Name) → (a ≡ x → ⊥) → noted_at next_held.own a ≡ noted_at h.own a
  noted_there a apart =
      update_all h.own.noted t changed (λ u xs. (u ≡ a.thread) → get_or xs a.position nothing_noted ≡ get_or (h.own.noted u) a.position nothing_noted)
      (λ is. get_or-set_other (h.own.noted t) e.position a.position _ nothing_noted (λ same_place. apart (name_is a x (sym is) same_place)))
      (λ u other is. refl) a.thread refl

  -- There are as many.
  as_many : (u : ℕ) → length (next_held.own.noted u) ≡ length (h.own.noted u)
  as_many = update_all h.own.noted t changed (λ u xs. length xs ≡ length (h.own.noted u)) (length-set (h.own.noted t) e.position _) (λ u other. refl)

  -- The drained store overwrote what the list of its cell says.
  over_here : (d : ℕ) → (noted_at next_held.own x).action.access ≡ stores d → (noted_at next_held.own x).over ≡ overwrote initial (next.drained d) x
  over_here d access =
      let c_is : c ≡ d = stores_same c d (sym x_access ∙ sym (ap (λ y. y.action.access) noted_here) ∙ access) in
      ap (λ y. y.over) noted_here
      ∙ ap Some (ap (λ r. r.source) (agrees.memory c) ∙ memory_source l c (l.drained c))
      ∙ sym (ap (λ names. overwrote initial names x) drained_here ∙ overwrote_new initial (l.drained c) x x_lacking)
      ∙ ap (λ k. overwrote initial (next.drained k) x) c_is
    where
      stores_same : (m n : ℕ) → stores m ≡ stores n → m ≡ n
      stores_same m n is = cc

  -- The longer list says the same of the others.
  over_there : (a : Name) (d : ℕ) → (a ≡ x → ⊥) → overwrote initial (l.drained d) a ≡ overwrote initial (next.drained d) a
  over_there a d apart =
      update_all l.drained c (l.drained c ++ x ∷ []) (λ k names. overwrote initial (l.drained k) a ≡ overwrote initial names a)
      (sym (overwrote_old initial (l.drained c) x a (λ is. apart (sym is))))
      (λ k other. refl) d

  -- So every drained store knows what it overwrote.
  over_next : (a : Name) (d : ℕ) → a.position < length (next_held.own.noted a.thread) → (noted_at next_held.own a).action.access ≡ stores d → (noted_at next_held.own a).over ≡ overwrote initial (next.drained d) a
  over_next a d within access =
      ⊎_elim
      (λ thread. ⊎_elim (λ position. same_name (name_is a x thread position)) (λ other. other_name (λ is. other (ap (λ b. b.position) is))) (cases_eq a.position e.position))
      (λ other. other_name (λ is. other (ap (λ b. b.thread) is)))
      (cases_eq a.thread t)
    where
      same_name : a ≡ x → (noted_at next_held.own a).over ≡ overwrote initial (next.drained d) a
      same_name is = subst (λ b. (noted_at next_held.own b).action.access ≡ stores d → (noted_at next_held.own b).over ≡ overwrote initial (next.drained d) b) (sym is) (over_here d) access

      other_name : (a ≡ x → ⊥) → (noted_at next_held.own a).over ≡ overwrote initial (next.drained d) a
      other_name apart =
          ap (λ y. y.over) (noted_there a apart)
          ∙ agrees.over a d (subst (λ n. a.position < n) (as_many a.thread) within) (sym (ap (λ y. y.action.access) (noted_there a apart)) ∙ access)
          ∙ over_there a d apart

  -- The buffer holds the other stores.
  lists_next : next_held.lists ≡ lists_in next
  lists_next =
      ap (λ ss. set h.lists t (without_oldest c ss)) (stores_waiting l h agrees t in_range)
      ∙ ap (λ ss. set h.lists t ss) (without_stored c (l.waiting t))
      ∙ ap (λ lists. set lists t (map (λ f. f.store) (less_oldest c (l.waiting t)))) agrees.lists
      ∙ sym (lists_update l.waiting t (less_oldest c (l.waiting t)) in_range)

  -- The two agree after the store is drained.
  agrees_next : Agrees next next_held
  agrees_next = record {
    locals = agrees.locals;
    memory = memory_next;
    actions = actions_next;
    waiting = waiting_next;
    over = over_next;
    lists = lists_next;
  }

-- They agree after a drain that is accepted.
pub drain_agrees : (rules : Rules) → Lawful rules → (ls : List Line) (l : Ledger) → Sound ls l → (h : Held) → Agrees l h → (t c : ℕ) → Passes rules ls l (Drain t c) → Agrees (after_move ls l (Drain t c)) (after_move_held ls h (Drain t c))
drain_agrees rules lawful ls l sound h agrees t c passed =
    let f = drain_finds rules ls l t c lawful passed in
    let in_range = (drain_passes rules ls l t c passed).in_range in
    let value_is : oldest_to c (waiting_of h t) ≡ Some f.0.store.value = ap (oldest_to c) (stores_waiting l h agrees t in_range) ∙ oldest_stored c (l.waiting t) f.0 f.1 in
    subst (λ o. Agrees (after_drain l t c o) (after_move_held ls h (Drain t c))) (sym f.1)
    (subst (λ o. Agrees (after_drain l t c (Some f.0)) (after_drain_held h t c o (oldest_left 0 c (h.own.noted t)))) (sym value_is)
    (subst (λ o. Agrees (after_drain l t c (Some f.0)) (after_drain_held h t c (Some f.0.store.value) o)) (sym (found_held l h agrees t c f.0 f.1).left)
    (agrees_next ls l sound h agrees t c in_range f.0 f.1)))
