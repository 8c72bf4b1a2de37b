-- What holds of every ledger that accepted moves lead to, over every kind.
use Rattle.std.proofs.Common.{◌≡◌, ℕ, ◌<◌, ◌≤◌, ◌⊎◌, List, [], ◌∷◌, ◌++◌, length, get_or, take, Some, None, Option, sym, refl, ap, ◌∙◌, subst, inl, inr, ⊎_elim, append-nil, arith}
use Rattle.std.specs.List.{slice_get, Contains, All}
use Rattle.std.proofs.lemmas.List.Elements.{All-nil, All-cons, All-append, All-weaker}
use Rattle.std.proofs.lemmas.List.{get_or_append_left, get_or_push, length_push, take-append-le, take_at}
use Rattle.std.proofs.lemmas.Bool.{cases_eq, cases_lt}
use Rattle.program.specs.declared.forms.Instruction.{Instruction}
use Rattle.program.specs.declared.forms.Instruction.TheVariants.{Load, Store, Fence, Compute, Assert}
use Rattle.program.specs.declared.lines.Line.{Line}
use Rattle.buffers.specs.Laws.{Rules}
use Rattle.ledger.specs.Actions.{Access, Action, Name, Source, from, initial, loads, name, none, stores}
use Rattle.ledger.specs.Ledgers.{Entry, Ledger, action_at, no_action, operand, start}
use Rattle.ledger.specs.Moves.{act, action_of, added, asked, forwarded, in_memory, issued, last_of, ran, read, youngest}
use Rattle.ledger.specs.Orders.{Lacks}
use Rattle.ledger.specs.Tests.{how_many}
use Rattle.ledger.specs.Verdicts.{Different}
use Rattle.ledger.proofs.Growing.{Exists, Grown, Stored, grown, more_here, new, new_exists, new_is, old_or_new, stored_grown, update_all, update_other, update_same}
use Rattle.ledger.proofs.Locals.{Right, act_line, local, local_push, moved, passes_empty}
use Rattle.ledger.proofs.Passing.{RunPasses}
use Rattle.ledger.proofs.Counts.{one_more}
use Rattle.ledger.proofs.Waits.{AtPosition, Rising, at_position_last, at_position_left, last_all, rising_push, youngest_of}

-- what a cell holds after its last drained store
abbrev pub held : (ℕ → List Action) → Option Name → ℕ
held acts None = 0
held acts (Some a) = (action_at acts a).value

-- the action is a store to the cell c
abbrev pub StoreTo : (ℕ → List Action) → ℕ → Name → Type 0
StoreTo acts c a = Stored acts a c (action_at acts a).value

-- a load of the value v from the cell c has it from where it says
abbrev pub SourceRight : (ℕ → List Action) → ℕ → ℕ → Source → Type 0
SourceRight acts c v initial = v ≡ 0
SourceRight acts c v (from s) = Stored acts s c v

-- each action of the thread is right where those before it leave the thread
abbrev pub AllRight : List Line → ℕ → List Action → Type 0
AllRight ls t acts = (p : ℕ) → p < length acts → Right ls t (local ls (take p acts)) (get_or acts p no_action)

-- the entry is a store of the thread, with its cell and its value
abbrev pub Entered : (ℕ → List Action) → ℕ → Entry → Type 0
Entered acts t e = Stored acts (name t e.position) e.store.cell e.store.value

pub record Sound (ls : List Line) (l : Ledger) : Type 0 where
  pub locals : (t : ℕ) → l.locals t ≡ local ls (l.actions t)
  pub right : (t : ℕ) → AllRight ls t (l.actions t)
  pub cells : (c : ℕ) → l.cells c ≡ held l.actions (last_of (l.drained c))
  pub entries : (t : ℕ) → All (Entered l.actions t) (l.waiting t)
  pub rising : (t : ℕ) → Rising (l.waiting t)
  pub drained : (c : ℕ) → All (StoreTo l.actions c) (l.drained c)
  pub apart : (t : ℕ) → All (λ e. Lacks (l.drained e.store.cell) (name t e.position)) (l.waiting t)
  pub once : (c : ℕ) → Different (l.drained c)
  pub covered : (a : Name) (c : ℕ) → Exists l.actions a → (action_at l.actions a).access ≡ stores c → AtPosition a.position (l.waiting a.thread) ⊎ Contains (l.drained c) a
  pub sources : (a : Name) (c : ℕ) (source : Source) → Exists l.actions a → (action_at l.actions a).access ≡ loads c source → SourceRight l.actions c (action_at l.actions a).value source
  pub few : how_many l ≤ 256
  pub in_range : (t : ℕ) → 8 ≤ t → l.actions t ≡ []

-- Nothing is there at the start.
pub sound_start : (ls : List Line) → Sound ls start
sound_start ls = record {
  locals = λ t. refl;
  right = λ t p within. absurd (omega (arith, within));
  cells = λ c. refl;
  entries = λ t. All-nil (Entered start.actions t);
  rising = λ t. tt;
  drained = λ c. All-nil (StoreTo start.actions c);
  apart = λ t. All-nil (λ e. Lacks (start.drained e.store.cell) (name t e.position));
  once = λ c. tt;
  covered = λ a c there. absurd (omega (arith, there));
  sources = λ a c source there. absurd (omega (arith, there));
  few = omega arith;
  in_range = λ t past. refl;
}

-- One right action more.
right_push : (ls : List Line) (t : ℕ) (acts : List Action) (x : Action) → AllRight ls t acts → Right ls t (local ls acts) x → AllRight ls t (acts ++ x ∷ [])
right_push ls t acts x so_far here p within =
    ⊎_elim
    (λ below.
    subst (λ l. Right ls t (local ls l) (get_or (acts ++ x ∷ []) p no_action)) (sym (take-append-le p acts (x ∷ []) (omega (arith, below))))
    (subst (Right ls t (local ls (take p acts))) (sym (get_or_append_left acts (x ∷ []) no_action p below)) (so_far p below)))
    (λ past.
    let end : length acts ≡ p = omega (arith, past, within, length_push acts x) in
    subst (λ l. Right ls t (local ls l) (get_or (acts ++ x ∷ []) p no_action)) (sym (take_at acts (x ∷ []) p end))
    (subst (Right ls t (local ls acts)) (sym (get_or_push acts x no_action p end)) here))
    (cases_lt p (length acts))

-- A source stays right.
source_grown : {acts more : ℕ → List Action} → Grown acts more → (c v : ℕ) (source : Source) → SourceRight acts c v source → SourceRight more c v source
source_grown g c v initial right = right
source_grown g c v (from s) right = stored_grown g s c v right

module _ (ls : List Line) (l : Ledger) (sound : Sound ls l) where
  -- What a load finds is right.
  pub read_right : (t c : ℕ) → SourceRight l.actions c (read l t c).value (read l t c).source
  read_right t c = go (youngest c (l.waiting t)) refl (last_of (l.drained c)) refl
    where
      go : (o : Option Entry) → youngest c (l.waiting t) ≡ o → (p : Option Name) → last_of (l.drained c) ≡ p → SourceRight l.actions c (forwarded t o (in_memory l c p)).value (forwarded t o (in_memory l c p)).source
      go (Some e) is p last = let found = youngest_of (Entered l.actions t) c (l.waiting t) e is (sound.entries t) in subst (λ k. Stored l.actions (name t e.position) k e.store.value) found.1 found.0
      go None is (Some a) last = last_all (StoreTo l.actions c) (l.drained c) a last (sound.drained c)
      go None is None last = sound.cells c ∙ ap (held l.actions) last

module _ (ls : List Line) (l : Ledger) (sound : Sound ls l) (rules : Rules) (t n : ℕ) (passed : RunPasses rules ls l t n) where
  abbrev pub line : Line
  line = passed.line

  abbrev pub x : Action
  x = action_of l t n line

  abbrev pub next : Ledger
  next = added l t line x

  x_line : x.line ≡ n
  x_line = act_line (l.locals t).registers n line.instruction (read l t (asked (l.locals t).registers line.instruction))

  x_there : slice_get ls x.line ≡ Some line
  x_there = ap (slice_get ls) x_line ∙ passed.there

  x_right : Right ls t (l.locals t) x
  x_right = record {
    line = line;
    there = x_there;
    thread = passed.thread;
    label = passed.label;
    found = read l t (asked (l.locals t).registers line.instruction);
    acts = ap (λ k. act (l.locals t).registers k line.instruction (read l t (asked (l.locals t).registers line.instruction))) (sym x_line);
    passes = passes_empty (l.locals t).registers (length (l.waiting t)) line.instruction passed.form;
  }

  g : Grown l.actions next.actions
  g = grown l.actions t x

  locals_next : (u : ℕ) → next.locals u ≡ local ls (next.actions u)
  locals_next u =
      ⊎_elim
      (λ is.
      ap (λ v. next.locals v) is ∙ update_same l.locals t (ran line x.value (l.locals t))
      ∙ ap (λ here. ran line x.value here) (sound.locals t)
      ∙ sym (ap (λ o. moved o x.value (local ls (l.actions t))) x_there)
      ∙ sym (local_push ls (l.actions t) x)
      ∙ sym (ap (local ls) (more_here l.actions t x))
      ∙ ap (λ v. local ls (next.actions v)) (sym is))
      (λ other.
      update_other l.locals t (ran line x.value (l.locals t)) u other ∙ sound.locals u
      ∙ ap (local ls) (sym (update_other l.actions t (l.actions t ++ x ∷ []) u other)))
      (cases_eq u t)

  right_next : (u : ℕ) → AllRight ls u (next.actions u)
  right_next =
      update_all l.actions t (l.actions t ++ x ∷ []) (AllRight ls)
      (right_push ls t (l.actions t) x (sound.right t) (subst (λ here. Right ls t here x) (sound.locals t) x_right))
      (λ u other. sound.right u)

  -- What a cell holds is as it was, since its drained stores are.
  held_next : (c : ℕ) (o : Option Name) → last_of (l.drained c) ≡ o → held next.actions o ≡ held l.actions o
  held_next c None last = refl
  held_next c (Some a) last = ap (λ y. y.value) (g.as_was a (last_all (StoreTo l.actions c) (l.drained c) a last (sound.drained c)).exists)

  cells_next : (c : ℕ) → next.cells c ≡ held next.actions (last_of (next.drained c))
  cells_next c = sound.cells c ∙ sym (held_next c (last_of (l.drained c)) refl)

  -- What holds of the new entry, if there is one, and of the old ones.
  issued_all : (P : Entry → Type 0) → ((e : Entry) → (c : ℕ) → x.access ≡ stores c → e ≡ record { position = length (l.actions t); store = record { cell = c; value = x.value } } → P e) → All P (issued (length (l.actions t)) x.value x.access)
  issued_all P new_entry = go x.access refl
    where
      go : (access : Access) → x.access ≡ access → All P (issued (length (l.actions t)) x.value access)
      go none is = All-nil P
      go (stores c) is = All-cons P _ [] (new_entry _ c is refl) (All-nil P)
      go (loads c source) is = All-nil P

  entries_next : (u : ℕ) → All (Entered next.actions u) (next.waiting u)
  entries_next =
      update_all l.waiting t (l.waiting t ++ issued (length (l.actions t)) x.value x.access) (λ u. All (Entered next.actions u))
      (All-append (Entered next.actions t) (l.waiting t) (issued (length (l.actions t)) x.value x.access)
      (All-weaker (Entered l.actions t) (Entered next.actions t) (λ e. stored_grown g (name t e.position) e.store.cell e.store.value) (l.waiting t) (sound.entries t))
      (issued_all (Entered next.actions t) (λ e c is e_is. subst (Entered next.actions t) (sym e_is) (record {
        exists = new_exists l.actions t x;
        access = ap (λ y. y.access) (new_is l.actions t x) ∙ is;
        value = ap (λ y. y.value) (new_is l.actions t x);
      }))))
      (λ u other. All-weaker (Entered l.actions u) (Entered next.actions u) (λ e. stored_grown g (name u e.position) e.store.cell e.store.value) (l.waiting u) (sound.entries u))

  rising_here : Rising (l.waiting t ++ issued (length (l.actions t)) x.value x.access)
  rising_here = go x.access
    where
      below : All (λ e. e.position < length (l.actions t)) (l.waiting t)
      below = All-weaker (Entered l.actions t) (λ e. e.position < length (l.actions t)) (λ e s. s.exists) (l.waiting t) (sound.entries t)

      go : (access : Access) → Rising (l.waiting t ++ issued (length (l.actions t)) x.value access)
      go none = subst Rising (sym (append-nil (l.waiting t))) (sound.rising t)
      go (stores c) = rising_push (l.waiting t) _ (sound.rising t) below
      go (loads c source) = subst Rising (sym (append-nil (l.waiting t))) (sound.rising t)

  rising_next : (u : ℕ) → Rising (next.waiting u)
  rising_next = update_all l.waiting t (l.waiting t ++ issued (length (l.actions t)) x.value x.access) (λ u. Rising) rising_here (λ u other. sound.rising u)

  drained_next : (c : ℕ) → All (StoreTo next.actions c) (next.drained c)
  drained_next c =
      All-weaker (StoreTo l.actions c) (StoreTo next.actions c)
      (λ a s. record { exists = g.stays a s.exists; access = ap (λ y. y.access) (g.as_was a s.exists) ∙ s.access; value = refl }) (l.drained c) (sound.drained c)

  -- The new action is in no cell's list.
  new_undrained : (c : ℕ) → Lacks (l.drained c) (new l.actions t x)
  new_undrained c =
      All-weaker (StoreTo l.actions c) (λ b. b ≡ new l.actions t x → ⊥)
      (λ b s is. let far : length (l.actions t) < length (l.actions t) = subst (λ y. y.position < length (l.actions y.thread)) is s.exists in omega (arith, far)) (l.drained c) (sound.drained c)

  apart_next : (u : ℕ) → All (λ e. Lacks (next.drained e.store.cell) (name u e.position)) (next.waiting u)
  apart_next =
      update_all l.waiting t (l.waiting t ++ issued (length (l.actions t)) x.value x.access) (λ u. All (λ e. Lacks (l.drained e.store.cell) (name u e.position)))
      (All-append (λ e. Lacks (l.drained e.store.cell) (name t e.position)) (l.waiting t) (issued (length (l.actions t)) x.value x.access) (sound.apart t)
      (issued_all (λ e. Lacks (l.drained e.store.cell) (name t e.position)) (λ e c is e_is. subst (λ f. Lacks (l.drained f.store.cell) (name t f.position)) (sym e_is) (new_undrained c))))
      (λ u other. sound.apart u)

  -- A store that was issued waits.
  new_waits : (c : ℕ) → x.access ≡ stores c → AtPosition (length (l.actions t)) (next.waiting t)
  new_waits c is =
      subst (AtPosition (length (l.actions t))) (sym (update_same l.waiting t (l.waiting t ++ issued (length (l.actions t)) x.value x.access)))
      (subst (λ access. AtPosition (length (l.actions t)) (l.waiting t ++ issued (length (l.actions t)) x.value access)) (sym is) (at_position_last (length (l.actions t)) (l.waiting t) _ refl))

  old_waits : (u p : ℕ) → AtPosition p (l.waiting u) → AtPosition p (next.waiting u)
  old_waits u p =
      update_all l.waiting t (l.waiting t ++ issued (length (l.actions t)) x.value x.access) (λ v es. AtPosition p (l.waiting v) → AtPosition p es)
      (at_position_left p (l.waiting t) (issued (length (l.actions t)) x.value x.access)) (λ v other there. there) u

  covered_next : (a : Name) (c : ℕ) → Exists next.actions a → (action_at next.actions a).access ≡ stores c → AtPosition a.position (next.waiting a.thread) ⊎ Contains (next.drained c) a
  covered_next a c there access =
      ⊎_elim
      (λ old. ⊎_elim (λ waits. inl (old_waits a.thread a.position waits)) (λ done. inr done) (sound.covered a c old (ap (λ y. y.access) (sym (g.as_was a old)) ∙ access)))
      (λ is. inl (subst (λ b. AtPosition b.position (next.waiting b.thread)) (sym is) (new_waits c (ap (λ y. y.access) (sym (new_is l.actions t x)) ∙ ap (λ b. (action_at next.actions b).access) (sym is) ∙ access))))
      (old_or_new l.actions t x a there)

  -- A new load has its value from where it says.
  pub new_source : (c : ℕ) (source : Source) → x.access ≡ loads c source → SourceRight l.actions c x.value source
  new_source c source is = go line.instruction is
    where
      rs : ℕ → ℕ
      rs = (l.locals t).registers

      go : (i : Instruction) → (act rs n i (read l t (asked rs i))).access ≡ loads c source → SourceRight l.actions c (act rs n i (read l t (asked rs i))).value source
      go (Load register address) e =
          let c_is : operand rs address ≡ c = cc in
          let source_is : (read l t (operand rs address)).source ≡ source = cc in
          subst (λ k. SourceRight l.actions k (read l t (operand rs address)).value source) c_is
          (subst (SourceRight l.actions (operand rs address) (read l t (operand rs address)).value) source_is (read_right ls l sound t (operand rs address)))
      go (Store address value) e = grind arith
      go Fence e = grind arith
      go (Compute register operation a b) e = grind arith
      go (Assert condition) e = grind arith

  sources_next : (a : Name) (c : ℕ) (source : Source) → Exists next.actions a → (action_at next.actions a).access ≡ loads c source → SourceRight next.actions c (action_at next.actions a).value source
  sources_next a c source there access =
      ⊎_elim
      (λ old.
      subst (λ y. SourceRight next.actions c y.value source) (sym (g.as_was a old))
      (source_grown g c (action_at l.actions a).value source (sound.sources a c source old (ap (λ y. y.access) (sym (g.as_was a old)) ∙ access))))
      (λ is.
      let here : action_at next.actions a ≡ x = ap (action_at next.actions) is ∙ new_is l.actions t x in
      subst (λ y. SourceRight next.actions c y.value source) (sym here) (source_grown g c x.value source (new_source c source (ap (λ y. y.access) (sym here) ∙ access))))
      (old_or_new l.actions t x a there)

  few_next : how_many next ≤ 256
  few_next =
      let more_one = one_more (λ u. length (l.actions u)) (λ u. length (next.actions u)) t (λ u other. ap length (update_other l.actions t (l.actions t ++ x ∷ []) u other)) (ap length (more_here l.actions t x) ∙ length_push (l.actions t) x) in
      omega (arith, more_one, passed.room)

  -- A run that is accepted keeps all of it.
  pub sound_run : Sound ls next
  sound_run = record {
    locals = locals_next;
    right = right_next;
    cells = cells_next;
    entries = entries_next;
    rising = rising_next;
    drained = drained_next;
    apart = apart_next;
    once = sound.once;
    covered = covered_next;
    sources = sources_next;
    few = few_next;
    in_range = λ u past. update_other l.actions t (l.actions t ++ x ∷ []) u (λ is. omega (arith, passed.in_range, past, is)) ∙ sound.in_range u past;
  }
