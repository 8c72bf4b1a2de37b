-- Actions that grow: a new action at the end of a thread's list leaves the others what they were.
use Rattle.std.proofs.Common.{◌≡◌, ℕ, ◌+◌, ◌<◌, true, eqb, ◌⊎◌, List, [], ◌∷◌, ◌++◌, length, get_or, sym, refl, ap, ◌∙◌, subst, inl, inr, ⊎_elim, arith}
use Rattle.std.proofs.lemmas.List.{get_or_append_left, get_or_push, length_push}
use Rattle.std.proofs.lemmas.Bool.{and_from, and_parts, cases_eq, cases_lt, cond-false, cond-true, eq-eqb, eqb-true, ne_eqb}
use Rattle.ledger.specs.Actions.{Action, Name, Source, loads, name, same, stores}
use Rattle.ledger.specs.Ledgers.{action_at, no_action, update}

module _ {X : Type 0} (f : ℕ → X) (k : ℕ) (x : X) where
  pub update_same : update f k x k ≡ x
  update_same = cond-true (eqb k k) x (f k) (eq-eqb k k refl)

  pub update_other : (n : ℕ) → (n ≡ k → ⊥) → update f k x n ≡ f n
  update_other n apart = cond-false (eqb n k) x (f n) (ne_eqb n k apart)

  -- What holds at k of x, and elsewhere of f, holds of the updated function everywhere.
  pub update_all : (P : ℕ → X → Type 0) → P k x → ((n : ℕ) → (n ≡ k → ⊥) → P n (f n)) → (n : ℕ) → P n (update f k x n)
  update_all P here there n =
      ⊎_elim
      (λ is. subst (λ m. P m (update f k x m)) (sym is) (subst (P k) (sym update_same) here))
      (λ apart. subst (P n) (sym (update_other n apart)) (there n apart))
      (cases_eq n k)

-- Two names with the same parts are one.
pub name_is : (a b : Name) → a.thread ≡ b.thread → a.position ≡ b.position → a ≡ b
name_is a b thread position = λ i. record { thread = thread i; position = position i }

pub same_true : (a b : Name) → same a b ≡ true → a ≡ b
same_true a b e =
    let both = and_parts (eqb a.thread b.thread) (eqb a.position b.position) e in
    name_is a b (eqb-true a.thread b.thread both.0) (eqb-true a.position b.position both.1)

pub same_self : (a b : Name) → a ≡ b → same a b ≡ true
same_self a b e = and_from (eqb a.thread b.thread) (eqb a.position b.position) (eq-eqb a.thread b.thread (ap (λ x. x.thread) e)) (eq-eqb a.position b.position (ap (λ x. x.position) e))

-- No store is a load.
pub no_store_loads : (c d : ℕ) (source : Source) → stores c ≡ loads d source → ⊥
no_store_loads c d source is = grind arith

-- there is an action of that name
abbrev pub Exists : (ℕ → List Action) → Name → Type 0
Exists acts a = a.position < length (acts a.thread)

-- it is a store to the cell c of the value v
pub record Stored (acts : ℕ → List Action) (a : Name) (c v : ℕ) : Type 0 where
  pub exists : Exists acts a
  pub access : (action_at acts a).access ≡ stores c
  pub value : (action_at acts a).value ≡ v

-- what exists stays, as it was
pub record Grown (acts more : ℕ → List Action) : Type 0 where
  pub stays : (a : Name) → Exists acts a → Exists more a
  pub as_was : (a : Name) → Exists acts a → action_at more a ≡ action_at acts a

pub stored_grown : {acts more : ℕ → List Action} → Grown acts more → (a : Name) (c v : ℕ) → Stored acts a c v → Stored more a c v
stored_grown grown a c v s = record {
  exists = grown.stays a s.exists;
  access = ap (λ x. x.access) (grown.as_was a s.exists) ∙ s.access;
  value = ap (λ x. x.value) (grown.as_was a s.exists) ∙ s.value;
}

module _ (acts : ℕ → List Action) (t : ℕ) (x : Action) where
  abbrev pub more : ℕ → List Action
  more = update acts t (acts t ++ x ∷ [])

  abbrev pub new : Name
  new = name t (length (acts t))

  pub more_here : more t ≡ acts t ++ x ∷ []
  more_here = update_same acts t (acts t ++ x ∷ [])

  pub more_there : (u : ℕ) → (u ≡ t → ⊥) → more u ≡ acts u
  more_there u apart = update_other acts t (acts t ++ x ∷ []) u apart

  pub new_exists : Exists more new
  new_exists = let n : length (more t) ≡ length (acts t) + 1 = ap length more_here ∙ length_push (acts t) x in omega (arith, n)

  pub new_is : action_at more new ≡ x
  new_is = ap (λ l. get_or l (length (acts t)) no_action) more_here ∙ get_or_push (acts t) x no_action (length (acts t)) refl

  -- The old actions are as they were.
  pub grown : Grown acts more
  grown = record {
    stays = λ a there. ⊎_elim
        (λ is. let n : length (more a.thread) ≡ length (acts a.thread) + 1 = ap (λ u. length (more u)) is ∙ ap length more_here ∙ length_push (acts t) x ∙ ap (λ u. length (acts u) + 1) (sym is) in omega (arith, n, there))
        (λ apart. subst (λ l. a.position < length l) (sym (more_there a.thread apart)) there)
        (cases_eq a.thread t);
    as_was = λ a there. ⊎_elim
        (λ is.
        ap (λ u. get_or (more u) a.position no_action) is ∙ ap (λ l. get_or l a.position no_action) more_here
        ∙ get_or_append_left (acts t) (x ∷ []) no_action a.position (subst (λ u. a.position < length (acts u)) is there)
        ∙ ap (λ u. get_or (acts u) a.position no_action) (sym is))
        (λ apart. ap (λ l. get_or l a.position no_action) (more_there a.thread apart))
        (cases_eq a.thread t);
  }

  -- Nothing else is new.
  pub old_or_new : (a : Name) → Exists more a → Exists acts a ⊎ (a ≡ new)
  old_or_new a there = ⊎_elim
      (λ is.
      let n : length (more a.thread) ≡ length (acts t) + 1 = ap (λ u. length (more u)) is ∙ ap length more_here ∙ length_push (acts t) x in
      ⊎_elim
      (λ before. inl (subst (λ u. a.position < length (acts u)) (sym is) before))
      (λ last. inr (name_is a new is (omega (arith, there, n, last))))
      (cases_lt a.position (length (acts t))))
      (λ apart. inl (subst (λ l. a.position < length l) (more_there a.thread apart) there))
      (cases_eq a.thread t)
