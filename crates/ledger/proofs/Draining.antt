-- A drain keeps what holds of every ledger; and so does every accepted move, over every kind that keeps the laws.
use Rattle.std.proofs.Common.{◌≡◌, ℕ, ◌<◌, true, ◌⊎◌, List, [], ◌∷◌, ◌++◌, map, get_or, Some, sym, refl, ap, ◌∙◌, zero-add, subst, inl, inr, ⊎_elim}
use Rattle.std.specs.List.{Contains, All}
use Rattle.std.proofs.lemmas.List.Elements.{All-nil, All-head, All-tail, All-push, All-weaker, Contains-append_left, Contains-push}
use Rattle.std.proofs.lemmas.List.FromFn.{get_or-map-range_with_len}
use Rattle.std.proofs.lemmas.Bool.{cases_eq}
use Rattle.program.specs.declared.lines.Line.{Line}
use Rattle.buffers.specs.Laws.{Lawful, Rules}
use Rattle.buffers.specs.Lists.{list_of, waits_to}
use Rattle.ledger.specs.Actions.{Name, name, stores}
use Rattle.ledger.specs.Ledgers.{Entry, Ledger, action_at}
use Rattle.ledger.specs.Moves.{after_drain, after_move, after_moves, after_run, last_of, less_oldest, oldest}
use Rattle.ledger.specs.Orders.{Lacks}
use Rattle.ledger.specs.Runs.{Accepted}
use Rattle.ledger.specs.Tests.{Passes, lists_in}
use Rattle.ledger.specs.declared.moves.Move.{Move}
use Rattle.ledger.specs.declared.moves.Move.TheVariants.{Run, Drain}
use Rattle.ledger.specs.Verdicts.{Different}
use Rattle.ledger.proofs.Growing.{Exists, Stored, update_all, update_other, update_same}
use Rattle.ledger.proofs.Passing.{drain_passes, run_passes}
use Rattle.ledger.proofs.Sound.{Entered, Sound, StoreTo, held, sound_run}
use Rattle.ledger.proofs.Waits.{AtPosition, all_less, at_position_less, last_push, oldest_apart, oldest_of, oldest_there, rising_less, Rising}

-- A name that the list lacks may be added.
no_twice_push : (names : List Name) (a : Name) → Different names → Lacks names a → Different (names ++ a ∷ [])
no_twice_push [] a once lacks = (All-nil (λ d. d ≡ a → ⊥), tt)
no_twice_push (b ∷ names) a once lacks = (All-push (λ d. d ≡ b → ⊥) names a once.0 (λ is. All-head (λ d. d ≡ a → ⊥) b names lacks (sym is)), no_twice_push names a once.1 (All-tail (λ d. d ≡ a → ⊥) b names lacks))

module _ (ls : List Line) (l : Ledger) (sound : Sound ls l) (t c : ℕ) (e : Entry) (found : oldest c (l.waiting t) ≡ Some e) where
  abbrev next : Ledger
  next = after_drain l t c (Some e)

  abbrev x : Name
  x = name t e.position

  taken : Entered l.actions t e × (e.store.cell ≡ c)
  taken = oldest_of (Entered l.actions t) c (l.waiting t) e found (sound.entries t)

  -- It is a store to the cell.
  x_stored : Stored l.actions x c e.store.value
  x_stored = subst (λ k. Stored l.actions x k e.store.value) taken.1 taken.0

  x_lacking : Lacks (l.drained c) x
  x_lacking = subst (λ k. Lacks (l.drained k) x) taken.1 (oldest_of (λ f. Lacks (l.drained f.store.cell) (name t f.position)) c (l.waiting t) e found (sound.apart t)).0

  drained_here : next.drained c ≡ l.drained c ++ x ∷ []
  drained_here = update_same l.drained c (l.drained c ++ x ∷ [])

  cells_next : (d : ℕ) → next.cells d ≡ held l.actions (last_of (next.drained d))
  cells_next d =
      ⊎_elim
      (λ is.
      ap (λ k. next.cells k) is ∙ update_same l.cells c e.store.value ∙ sym x_stored.value
      ∙ ap (held l.actions) (sym (ap (λ k. last_of (next.drained k)) is ∙ ap last_of drained_here ∙ last_push (l.drained c) x)))
      (λ other. update_other l.cells c e.store.value d other ∙ sound.cells d ∙ ap (λ names. held l.actions (last_of names)) (sym (update_other l.drained c (l.drained c ++ x ∷ []) d other)))
      (cases_eq d c)

  drained_next : (d : ℕ) → All (StoreTo l.actions d) (next.drained d)
  drained_next =
      update_all l.drained c (l.drained c ++ x ∷ []) (λ d. All (StoreTo l.actions d))
      (All-push (StoreTo l.actions c) (l.drained c) x (sound.drained c) (record { exists = x_stored.exists; access = x_stored.access; value = refl }))
      (λ d other. sound.drained d)

  -- A store that still waits is not the one that was taken.
  lacks_next : (u : ℕ) (f : Entry) → (name u f.position ≡ x → ⊥) → Lacks (l.drained f.store.cell) (name u f.position) → Lacks (next.drained f.store.cell) (name u f.position)
  lacks_next u f other lacks =
      update_all l.drained c (l.drained c ++ x ∷ []) (λ d names. Lacks (l.drained d) (name u f.position) → Lacks names (name u f.position))
      (λ before. All-push (λ b. b ≡ name u f.position → ⊥) (l.drained c) x before (λ is. other (sym is)))
      (λ d apart before. before) f.store.cell lacks

  apart_next : (u : ℕ) → All (λ f. Lacks (next.drained f.store.cell) (name u f.position)) (next.waiting u)
  apart_next =
      update_all l.waiting t (less_oldest c (l.waiting t)) (λ u. All (λ f. Lacks (next.drained f.store.cell) (name u f.position)))
      (λ k d within. lacks_next t (get_or (less_oldest c (l.waiting t)) k d)
      (λ is. oldest_apart c (l.waiting t) e found (sound.rising t) k d within (ap (λ a. a.position) is))
      (all_less (λ f. Lacks (l.drained f.store.cell) (name t f.position)) c (l.waiting t) (sound.apart t) k d within))
      (λ u other. All-weaker (λ f. Lacks (l.drained f.store.cell) (name u f.position)) (λ f. Lacks (next.drained f.store.cell) (name u f.position)) (λ f. lacks_next u f (λ is. other (ap (λ a. a.thread) is))) (l.waiting u) (sound.apart u))

  has_next : (d : ℕ) (a : Name) → Contains (l.drained d) a → Contains (next.drained d) a
  has_next d a =
      update_all l.drained c (l.drained c ++ x ∷ []) (λ k names. Contains (l.drained k) a → Contains names a)
      (Contains-append_left (l.drained c) (x ∷ []) a) (λ k other there. there) d

  -- The store that was taken is in its cell's list.
  x_drained : (a : Name) (d : ℕ) → a ≡ x → (action_at l.actions a).access ≡ stores d → Contains (next.drained d) a
  x_drained a d is access =
      let d_is : c ≡ d = stores_same c d (sym x_stored.access ∙ ap (λ b. (action_at l.actions b).access) (sym is) ∙ access) in
      subst (λ b. Contains (next.drained d) b) (sym is) (subst (λ k. Contains (next.drained k) x) d_is (subst (λ names. Contains names x) (sym drained_here) (Contains-push (l.drained c) x)))
    where
      stores_same : (m n : ℕ) → stores m ≡ stores n → m ≡ n
      stores_same m n is' = cc

  covered_next : (a : Name) (d : ℕ) → Exists l.actions a → (action_at l.actions a).access ≡ stores d → AtPosition a.position (next.waiting a.thread) ⊎ Contains (next.drained d) a
  covered_next a d there access = ⊎_elim waits (λ done. inr (has_next d a done)) (sound.covered a d there access)
    where
      waits : AtPosition a.position (l.waiting a.thread) → AtPosition a.position (next.waiting a.thread) ⊎ Contains (next.drained d) a
      waits at =
          ⊎_elim
          (λ is.
          ⊎_elim
          (λ out. inr (x_drained a d (λ i. record { thread = is i; position = out i }) access))
          (λ left. inl (subst (λ u. AtPosition a.position (next.waiting u)) (sym is) (subst (AtPosition a.position) (sym (update_same l.waiting t (less_oldest c (l.waiting t)))) left)))
          (at_position_less a.position c (l.waiting t) e found (subst (λ u. AtPosition a.position (l.waiting u)) is at)))
          (λ other. inl (subst (AtPosition a.position) (sym (update_other l.waiting t (less_oldest c (l.waiting t)) a.thread other)) at))
          (cases_eq a.thread t)

  -- A drain keeps all of it.
  pub sound_drain : Sound ls next
  sound_drain = record {
    locals = sound.locals;
    right = sound.right;
    cells = cells_next;
    entries = update_all l.waiting t (less_oldest c (l.waiting t)) (λ u. All (Entered l.actions u)) (all_less (Entered l.actions t) c (l.waiting t) (sound.entries t)) (λ u other. sound.entries u);
    rising = update_all l.waiting t (less_oldest c (l.waiting t)) (λ u. λ es. Rising es) (rising_less c (l.waiting t) (sound.rising t)) (λ u other. sound.rising u);
    drained = drained_next;
    apart = apart_next;
    once = update_all l.drained c (l.drained c ++ x ∷ []) (λ d. λ names. Different names) (no_twice_push (l.drained c) x (sound.once c) x_lacking) (λ d other. sound.once d);
    covered = covered_next;
    sources = sound.sources;
    few = sound.few;
    in_range = sound.in_range;
  }

-- The list that the rules see of a thread is what waits in the ledger.
pub list_in : (l : Ledger) (t : ℕ) → t < 8 → list_of (lists_in l) t ≡ map (λ e. e.store) (l.waiting t)
list_in l t in_range = get_or-map-range_with_len (λ u. map (λ e. e.store) (l.waiting u)) 0 8 t t [] in_range (zero-add t)

-- A drain that is accepted finds its store.
pub drain_finds : (rules : Rules) (ls : List Line) (l : Ledger) (t c : ℕ) → Lawful rules → Passes rules ls l (Drain t c) → (e : Entry) × (oldest c (l.waiting t) ≡ Some e)
drain_finds rules ls l t c lawful passed =
    let p = drain_passes rules ls l t c passed in
    oldest_there c (l.waiting t) (subst (λ ss. waits_to c ss ≡ true) (list_in l t p.in_range) (lawful.drain_waits (lists_in l) t c p.free))

-- Every accepted move keeps all of it.
pub sound_move : (rules : Rules) → Lawful rules → (ls : List Line) (l : Ledger) (m : Move) → Sound ls l → Passes rules ls l m → Sound ls (after_move ls l m)
sound_move rules lawful ls l (Run t n) sound passed =
    let p = run_passes rules ls l t n passed in
    subst (λ o. Sound ls (after_run l t n o)) (sym p.there) (sound_run ls l sound rules t n p)
sound_move rules lawful ls l (Drain t c) sound passed =
    let f = drain_finds rules ls l t c lawful passed in
    subst (λ o. Sound ls (after_drain l t c o)) (sym f.1) (sound_drain ls l sound t c f.0 f.1)

pub sound_moves : (rules : Rules) → Lawful rules → (ls : List Line) (ms : List Move) (l : Ledger) → Sound ls l → Accepted rules ls l ms → Sound ls (after_moves ls l ms)
sound_moves rules lawful ls [] l sound accepted = sound
sound_moves rules lawful ls (m ∷ ms) l sound accepted = sound_moves rules lawful ls ms (after_move ls l m) (sound_move rules lawful ls l m sound accepted.0) accepted.1
