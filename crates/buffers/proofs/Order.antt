-- The stores of a thread to one cell leave in the order in which they were put: what waits and what is put later is what is
-- taken and what waits in the end, event by event.
use Rattle.std.proofs.Common.{◌≡◌, ℕ, ◌<◌, Bool, true, false, cond, ◌&&◌, eqb, List, [], ◌∷◌, ◌++◌, length, set, Some, None, Ok, Err, Option, Result, sym, refl, ap, ◌∙◌, inl, inr, append_assoc, append-nil, arith}
use Rattle.std.specs.Option.{ok_or}
use Rattle.std.proofs.lemmas.List.{get_or_past, get_or-set_other, get_or-set_same, length-set, set_past}
use Rattle.std.proofs.lemmas.Bool.{cases_lt, eqb-false, eqb-true}
use Rattle.refusal.specs.declared.Refusal.{Refusal}
use Rattle.refusal.specs.declared.Refusal.TheVariants.{DrainNotFree}
use Rattle.buffers.specs.Calls.{no_stores, put_answer, put_lists, store, take_answer, take_lists}
use Rattle.buffers.specs.Laws.{Rules}
use Rattle.buffers.specs.Lists.{Lists, list_of, oldest_to, without_oldest}
use Rattle.buffers.specs.Theorems.{Event, LeaveInOrder, after_event, after_events, answered, puts, takes, values_put, values_taken, values_to, where_taken}
use Rattle.buffers.specs.declared.store.Store.{Store}
use Rattle.buffers.proofs.Calls.{length_put, put_in_range}
use Rattle.buffers.proofs.Rows.{no_list}

-- A put at the end adds its value at the end, where it is to that cell.
values_push : (c d v : ℕ) (ss : List Store) → values_to c (ss ++ store d v ∷ []) ≡ values_to c ss ++ cond (eqb d c) (v ∷ []) []
values_push c d v [] = refl
values_push c d v (s ∷ ss) = go (eqb s.cell c) (values_push c d v ss)
  where
    go : (b : Bool) → values_to c (ss ++ store d v ∷ []) ≡ values_to c ss ++ cond (eqb d c) (v ∷ []) [] → cond b (s.value ∷ values_to c (ss ++ store d v ∷ [])) (values_to c (ss ++ store d v ∷ [])) ≡ cond b (s.value ∷ values_to c ss) (values_to c ss) ++ cond (eqb d c) (v ∷ []) []
    go true later = ap (λ vs. s.value ∷ vs) later
    go false later = later

-- A value in front, where the test holds, stands before the others.
in_front : (b : Bool) (v : ℕ) (vs : List ℕ) → cond b (v ∷ vs) vs ≡ cond b (v ∷ []) [] ++ vs
in_front true v vs = refl
in_front false v vs = refl

-- A value in front of others stays in front of what is left of them, if what leaves them is not to its cell.
kept_front : (here there : Bool) (v w : ℕ) (vs rest : List ℕ) → (here ≡ true → there ≡ true → ⊥) → vs ≡ cond there (w ∷ []) [] ++ rest → cond here (v ∷ vs) vs ≡ cond there (w ∷ []) [] ++ cond here (v ∷ rest) rest
kept_front true true v w vs rest apart e = absurd (apart refl refl)
kept_front true false v w vs rest apart e = ap (λ l. v ∷ l) e
kept_front false there v w vs rest apart e = e

-- The oldest store to the cell d brings the first of the values to d, and none of those to another cell.
values_without : (c d v : ℕ) (ss : List Store) → oldest_to d ss ≡ Some v → values_to c ss ≡ cond (eqb d c) (v ∷ []) [] ++ values_to c (without_oldest d ss)
values_without c d v [] found = cc
values_without c d v (s ∷ ss) found = go (eqb s.cell d) refl found (values_without c d v ss)
  where
    go : (b : Bool) → eqb s.cell d ≡ b → cond b (Some s.value) (oldest_to d ss) ≡ Some v → (oldest_to d ss ≡ Some v → values_to c ss ≡ cond (eqb d c) (v ∷ []) [] ++ values_to c (without_oldest d ss)) → values_to c (s ∷ ss) ≡ cond (eqb d c) (v ∷ []) [] ++ values_to c (cond b ss (s ∷ without_oldest d ss))
    go true here e later =
        let value : s.value ≡ v = cc in
        in_front (eqb s.cell c) s.value (values_to c ss)
        ∙ ap (λ k. cond (eqb k c) (s.value ∷ []) [] ++ values_to c ss) (eqb-true s.cell d here)
        ∙ ap (λ n. cond (eqb d c) (n ∷ []) [] ++ values_to c ss) value
    go false other e later =
        kept_front (eqb s.cell c) (eqb d c) s.value v (values_to c ss) (values_to c (without_oldest d ss))
        (λ here there. eqb-false s.cell d other (eqb-true s.cell c here ∙ sym (eqb-true d c there)))
        (later e)

-- A take that was answered took the oldest.
take_found : (free : Bool) (ls : Lists) (u d v : ℕ) → take_answer free ls u d ≡ Ok v → oldest_to d (list_of ls u) ≡ Some v
take_found free ls u d v taken = go free (oldest_to d (list_of ls u)) taken
  where
    go : (b : Bool) (o : Option ℕ) → cond b (ok_or o DrainNotFree) (Err DrainNotFree) ≡ Ok v → o ≡ Some v
    go true (Some w) e = let same : w ≡ v = cc in ap Some same
    go true None e = cc
    go false o e = cc

-- A take leaves the thread's own list without that store, also where there is no such thread.
list_without : (ls : Lists) (t d : ℕ) → list_of (set ls t (without_oldest d (list_of ls t))) t ≡ without_oldest d (list_of ls t)
list_without ls t d =
    elim (cases_lt t (length ls)) [
      | inl within ↦ get_or-set_same ls t (without_oldest d (list_of ls t)) [] within
      | inr past ↦
          ap (λ l. list_of l t) (set_past ls t (without_oldest d (list_of ls t)) past)
          ∙ get_or_past ls t [] past
          ∙ sym (ap (without_oldest d) (get_or_past ls t [] past))
    ]

-- A refused call adds and brings nothing.
either_way : {A : Type 0} (b : Bool) (x : A) → cond b x x ≡ x
either_way true x = refl
either_way false x = refl

-- A put adds its value to what waits for the cell, where it is of that thread, to that cell and taken.
put_step : (r : Rules) (ls : Lists) → length ls ≡ 8 → (t c u d v : ℕ) → values_to c (list_of (after_event r ls (puts u d v)) t) ≡ values_to c (list_of ls t) ++ cond (eqb u t && eqb d c) (where_taken (put_answer ls u d) v) []
put_step r ls eight t c u d v = go (put_answer ls u d) refl
  where
    at : u < 8 → (b : Bool) → eqb u t ≡ b → values_to c (list_of (set ls u (list_of ls u ++ store d v ∷ [])) t) ≡ values_to c (list_of ls t) ++ cond (b && eqb d c) (v ∷ []) []
    at within true same =
        let is = eqb-true u t same in
        ap (λ k. values_to c (list_of (set ls u (list_of ls u ++ store d v ∷ [])) k)) (sym is)
        ∙ ap (values_to c) (get_or-set_same ls u (list_of ls u ++ store d v ∷ []) [] (omega (arith, eight)))
        ∙ values_push c d v (list_of ls u)
        ∙ ap (λ k. values_to c (list_of ls k) ++ cond (eqb d c) (v ∷ []) []) is
    at within false other =
        ap (values_to c) (get_or-set_other ls u t (list_of ls u ++ store d v ∷ []) [] (λ e. eqb-false u t other (sym e)))
        ∙ sym (append-nil (values_to c (list_of ls t)))

    go : (a : Result (Unit {0}) Refusal) → put_answer ls u d ≡ a → values_to c (list_of (put_lists ls u d v a) t) ≡ values_to c (list_of ls t) ++ cond (eqb u t && eqb d c) (where_taken a v) []
    go (Ok done) e = at (put_in_range ls u d done e) (eqb u t) refl
    go (Err refusal) e = sym (ap (λ l. values_to c (list_of ls t) ++ l) (either_way (eqb u t && eqb d c) []) ∙ append-nil (values_to c (list_of ls t)))

-- A take brings the first of what waits for the cell, where it is of that thread, to that cell and answered.
take_step : (r : Rules) (ls : Lists) (t c u d : ℕ) → values_to c (list_of ls t) ≡ cond (eqb u t && eqb d c) (answered (take_answer (r.drains ls u d) ls u d)) [] ++ values_to c (list_of (after_event r ls (takes u d)) t)
take_step r ls t c u d = go (take_answer (r.drains ls u d) ls u d) refl
  where
    at : (v : ℕ) → oldest_to d (list_of ls u) ≡ Some v → (b : Bool) → eqb u t ≡ b → values_to c (list_of ls t) ≡ cond (b && eqb d c) (v ∷ []) [] ++ values_to c (list_of (set ls u (without_oldest d (list_of ls u))) t)
    at v found true same =
        let is = eqb-true u t same in
        ap (λ k. values_to c (list_of ls k)) (sym is)
        ∙ values_without c d v (list_of ls u) found
        ∙ ap (λ ss. cond (eqb d c) (v ∷ []) [] ++ values_to c ss) (sym (list_without ls u d))
        ∙ ap (λ k. cond (eqb d c) (v ∷ []) [] ++ values_to c (list_of (set ls u (without_oldest d (list_of ls u))) k)) is
    at v found false other = sym (ap (values_to c) (get_or-set_other ls u t (without_oldest d (list_of ls u)) [] (λ e. eqb-false u t other (sym e))))

    go : (a : Result ℕ Refusal) → take_answer (r.drains ls u d) ls u d ≡ a → values_to c (list_of ls t) ≡ cond (eqb u t && eqb d c) (answered a) [] ++ values_to c (list_of (take_lists ls u d a) t)
    go (Ok v) e = at v (take_found (r.drains ls u d) ls u d v e) (eqb u t) refl
    go (Err refusal) e = sym (ap (λ l. l ++ values_to c (list_of ls t)) (either_way (eqb u t && eqb d c) []))

-- A take does not change how many lists there are.
length_taken : (ls : Lists) (u d : ℕ) (a : Result ℕ Refusal) → length (take_lists ls u d a) ≡ length ls
length_taken ls u d (Ok v) = length-set ls u (without_oldest d (list_of ls u))
length_taken ls u d (Err refusal) = refl

-- What waits for a cell, and then what is put for it, is what is taken from it, and then what waits in the end.
in_order : (r : Rules) (ls : Lists) → length ls ≡ 8 → (t c : ℕ) (es : List Event) → values_to c (list_of ls t) ++ values_put r ls t c es ≡ values_taken r ls t c es ++ values_to c (list_of (after_events r ls es) t)
in_order r ls eight t c [] = append-nil (values_to c (list_of ls t))
in_order r ls eight t c (puts u d v ∷ es) =
    let next = after_event r ls (puts u d v) in
    sym (append_assoc (values_to c (list_of ls t)) (cond (eqb u t && eqb d c) (where_taken (put_answer ls u d) v) []) (values_put r next t c es))
    ∙ ap (λ l. l ++ values_put r next t c es) (sym (put_step r ls eight t c u d v))
    ∙ in_order r next (length_put ls u d v (put_answer ls u d) ∙ eight) t c es
in_order r ls eight t c (takes u d ∷ es) =
    let next = after_event r ls (takes u d) in
    let first = cond (eqb u t && eqb d c) (answered (take_answer (r.drains ls u d) ls u d)) [] in
    ap (λ l. l ++ values_put r next t c es) (take_step r ls t c u d)
    ∙ append_assoc first (values_to c (list_of next t)) (values_put r next t c es)
    ∙ ap (λ l. first ++ l) (in_order r next (length_taken ls u d (take_answer (r.drains ls u d) ls u d) ∙ eight) t c es)
    ∙ sym (append_assoc first (values_taken r next t c es) (values_to c (list_of (after_events r next es) t)))

-- From the start, where nothing waits, what was put is what was taken and then what still waits.
pub leave_in_order : LeaveInOrder
leave_in_order r es t c = sym (ap (λ ss. values_to c ss ++ values_put r no_stores t c es) (no_list t)) ∙ in_order r no_stores refl t c es
