-- What stands in an array that a closure made place by place.
use Rattle.std.proofs.Common.{◌≡◌, ℕ, zero, suc, ◌+◌, ◌<◌, ◌≤◌, List, get_or, sym, subst, ⊎_elim, arith}
use denote.Param.Members.{Mut}
use Rattle.std.specs.Fn.{Called}
use Rattle.std.specs.Array.{IsFromFnResult, IsFromFnResultFrom}
use Rattle.std.proofs.lemmas.Bool.{cases_lt}

-- Each element has what every call of the closure gives, if no call changes the closure.
made_from : {F B : Type 0} (g : Mut F (ℕ × Unit {0}) B) (f : F) (ys : List B) (Right : ℕ → B → Type 0) (d : B) → ((i : ℕ) (y : B) (q : F) → Called g f (i, tt) y q → (q ≡ f) × Right i y) → (i n k : ℕ) → IsFromFnResultFrom g f ys i n → i ≤ k → k < i + n → Right k (get_or ys k d)
made_from g f ys Right d calls i zero k made low high = absurd (omega arith)
made_from g f ys Right d calls i (suc n) k made low high =
    let call = calls i made.1 made.0 made.3 in
    ⊎_elim
    (λ past. made_from g f ys Right d calls (i + 1) n k (subst (λ p. IsFromFnResultFrom g p ys (i + 1) n) call.0 made.4) (omega arith) (omega arith))
    (λ reached. let here : i ≡ k = omega arith in subst (λ j. Right j (get_or ys j d)) here (subst (Right i) (sym (made.2.1 d)) call.1))
    (cases_lt i k)

pub made_at : {F B : Type 0} {g : Mut F (ℕ × Unit {0}) B} {f : F} {ys : List B} {n : ℕ} → IsFromFnResult g f ys n → (Right : ℕ → B → Type 0) (d : B) → ((i : ℕ) (y : B) (q : F) → Called g f (i, tt) y q → (q ≡ f) × Right i y) → (k : ℕ) → k < n → Right k (get_or ys k d)
made_at {g = g} {f = f} {ys = ys} {n = n} made Right d calls k below = made_from g f ys Right d calls 0 n k made.each (omega arith) (omega arith)
