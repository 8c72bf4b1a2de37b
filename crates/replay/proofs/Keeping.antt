-- A thread's kept actions: which is the oldest and which the youngest store that they leave waiting, and what one of them overwrote.
use Rattle.std.proofs.Common.{◌≡◌, ℕ, zero, suc, ◌+◌, ◌<◌, Bool, true, false, cond, List, [], ◌∷◌, map, length, get_or, set, Some, None, Option, sym, refl, ap, ◌∙◌, suc-le-suc, arith}
use Rattle.std.proofs.lemmas.List.{get_or-map, map-set}
use Rattle.buffers.specs.Lists.{else_this}
use Rattle.present.specs.Calls.{overwriting}
use Rattle.present.specs.Data.{left_waiting, nothing_noted, oldest_left, youngest_left}
use Rattle.replay.specs.Names.{source_of}
use Rattle.replay.specs.Views.{noted_of}
use Rattle.replay.specs.declared.actions.Action.{Action}
use Rattle.replay.specs.declared.names.Name.{Name}

-- what is known of the first place at which a test passes, if it passes anywhere
abbrev pub IsFirst : (Action → Bool) → List Action → Option ℕ → Type 0
IsFirst p xs None = (k : ℕ) (d : Action) → k < length xs → p (get_or xs k d) ≡ false
IsFirst p xs (Some i) = (i < length xs) × (((d : Action) → p (get_or xs i d) ≡ true) × ((k : ℕ) (d : Action) → k < i → p (get_or xs k d) ≡ false))

-- Where no test passes, none is the oldest.
pub oldest_none : (c i : ℕ) (xs : List Action) → IsFirst (λ x. left_waiting c (noted_of x)) xs None → oldest_left i c (map noted_of xs) ≡ None
oldest_none c i [] none = refl
oldest_none c i (x ∷ xs) none =
    ap (λ b. cond b (Some i) (oldest_left (i + 1) c (map noted_of xs))) (none 0 x (omega arith))
    ∙ oldest_none c (i + 1) xs (λ k d within. none (suc k) d (suc-le-suc within))

-- The position of the oldest is where the test passes first.
oldest_at : (c i p : ℕ) (xs : List Action) → IsFirst (λ x. left_waiting c (noted_of x)) xs (Some p) → oldest_left i c (map noted_of xs) ≡ Some (i + p)
oldest_at c i p [] first = absurd (omega (arith, first.0))
oldest_at c i zero (x ∷ xs) first =
    ap (λ b. cond b (Some i) (oldest_left (i + 1) c (map noted_of xs))) (first.1.0 x) ∙ ap Some (let e : i ≡ i + 0 = omega arith in e)
oldest_at c i (suc p) (x ∷ xs) first =
    ap (λ b. cond b (Some i) (oldest_left (i + 1) c (map noted_of xs))) (first.1.1 0 x (omega arith))
    ∙ oldest_at c (i + 1) p xs (omega (arith, first.0), (λ d. first.1.0 d, λ k d before. first.1.1 (suc k) d (suc-le-suc before)))
    ∙ ap Some (let e : i + 1 + p ≡ i + suc p = omega arith in e)

pub oldest_is : (c : ℕ) (xs : List Action) (o : Option ℕ) → IsFirst (λ x. left_waiting c (noted_of x)) xs o → o ≡ oldest_left 0 c (map noted_of xs)
oldest_is c xs None first = sym (oldest_none c 0 xs first)
oldest_is c xs (Some p) first = sym (oldest_at c 0 p xs first ∙ ap Some (let e : 0 + p ≡ p = omega arith in e))

-- what is known of the last place at which a test passes, if it passes anywhere
abbrev pub IsLast : (Action → Bool) → List Action → Option ℕ → Type 0
IsLast p xs None = (k : ℕ) (d : Action) → k < length xs → p (get_or xs k d) ≡ false
IsLast p xs (Some i) = (i < length xs) × (((d : Action) → p (get_or xs i d) ≡ true) × ((k : ℕ) (d : Action) → i < k → k < length xs → p (get_or xs k d) ≡ false))

-- Where no test passes, none is the youngest.
youngest_none : (c i : ℕ) (xs : List Action) → IsLast (λ x. left_waiting c (noted_of x)) xs None → youngest_left i c (map noted_of xs) ≡ None
youngest_none c i [] none = refl
youngest_none c i (x ∷ xs) none =
    ap (λ o. else_this o (cond (left_waiting c (noted_of x)) (Some i) None)) (youngest_none c (i + 1) xs (λ k d within. none (suc k) d (suc-le-suc within)))
    ∙ ap (λ b. cond b (Some i) None) (none 0 x (omega arith))

-- The position of the youngest is where the test passes last.
youngest_at : (c i p : ℕ) (xs : List Action) → IsLast (λ x. left_waiting c (noted_of x)) xs (Some p) → youngest_left i c (map noted_of xs) ≡ Some (i + p)
youngest_at c i p [] last = absurd (omega (arith, last.0))
youngest_at c i zero (x ∷ xs) last =
    ap (λ o. else_this o (cond (left_waiting c (noted_of x)) (Some i) None)) (youngest_none c (i + 1) xs (λ k d within. last.1.1 (suc k) d (omega arith) (suc-le-suc within)))
    ∙ ap (λ b. cond b (Some i) None) (last.1.0 x)
    ∙ ap Some (let e : i ≡ i + 0 = omega arith in e)
youngest_at c i (suc p) (x ∷ xs) last =
    ap (λ o. else_this o (cond (left_waiting c (noted_of x)) (Some i) None))
    (youngest_at c (i + 1) p xs (omega (arith, last.0), (λ d. last.1.0 d, λ k d above within. last.1.1 (suc k) d (suc-le-suc above) (suc-le-suc within))))
    ∙ ap Some (let e : i + 1 + p ≡ i + suc p = omega arith in e)

pub youngest_is : (c : ℕ) (xs : List Action) (o : Option ℕ) → IsLast (λ x. left_waiting c (noted_of x)) xs o → o ≡ youngest_left 0 c (map noted_of xs)
youngest_is c xs None last = sym (youngest_none c 0 xs last)
youngest_is c xs (Some p) last = sym (youngest_at c 0 p xs last ∙ ap Some (let e : 0 + p ≡ p = omega arith in e))

-- An action that is given what it overwrote, among the others.
pub overwritten : (xs : List Action) (p : ℕ) (x : Action) (s : Option Name) → p < length xs → x ≡ get_or xs p x → map noted_of (set xs p (record { line = x.line; value = x.value; access = x.access; over = Some s })) ≡ overwriting (source_of s) p (map noted_of xs)
overwritten xs p x s within is =
    map-set noted_of xs p (record { line = x.line; value = x.value; access = x.access; over = Some s })
    ∙ ap (λ n. set (map noted_of xs) p (record { action = n.action; over = Some (source_of s) })) (ap noted_of is ∙ sym (get_or-map noted_of xs p x nothing_noted within))
