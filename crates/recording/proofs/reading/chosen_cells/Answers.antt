use Rattle.std.proofs.Common.{◌≡◌, ℕ, zero, suc, ◌+◌, ◌<◌, ◌≤◌, false, List, get_or, ◌∙◌, subst, ⊎_elim, arith, rules}
use denote.Param.Members.{Mut}
use Rattle.std.specs.Fn.{Called}
use Rattle.std.specs.Array.{IsFromFnResultFrom}
use Rattle.std.proofs.lemmas.Bool.{cases_lt}
use Rattle.std.proofs.lemmas.List.FromFn.{fill_by_all}
use Rattle.replay.specs.Views.{has_bit}
use Rattle.recording.proofs.reading.chosen_cells.Goals as goal

-- Each element has what every call of the closure gives, if no call changes the closure.
made_from : {F B : Type 0} (g : Mut F (ℕ × Unit {0}) B) (f : F) (ys : List B) (h : ℕ → B) (d : B) → ((i : ℕ) (y : B) (q : F) → Called g f (i, tt) y q → (q ≡ f) × (y ≡ h i)) → (i n k : ℕ) → IsFromFnResultFrom g f ys i n → i ≤ k → k < i + n → get_or ys k d ≡ h k
made_from g f ys h d calls i zero k made low high = absurd (omega arith)
made_from g f ys h d calls i (suc n) k made low high =
    let call = calls i made.1 made.0 made.3 in
    ⊎_elim
    (λ past. made_from g f ys h d calls (i + 1) n k (subst (λ p. IsFromFnResultFrom g p ys (i + 1) n) call.0 made.4) (omega arith) (omega arith))
    (λ reached. let here : i ≡ k = omega arith in subst (λ j. get_or ys j d ≡ h j) here (made.2.1 d ∙ call.1))
    (cases_lt i k)

pub returns : goal.returns
returns c =
    fill_by_all (λ j. has_bit j c.args.mask) c.from_fn.result 16 false c.from_fn.ensures.items.long
    (λ k below. made_from _ _ c.from_fn.result (λ j. has_bit j c.args.mask) false (λ i y q called. search rules) 0 16 k c.from_fn.ensures.items.each (omega arith) (omega arith))
