-- The ones of a number, counted place by place.
use Rattle.std.proofs.Common.{◌≡◌, ℕ, zero, suc, ◌+◌, ◌/◌, ◌%◌, ◌^◌, ◌<◌, cond, eqb, List, [], ◌∷◌, sym, refl, ap, ◌∙◌, subst, div-one, arith}
use lib.Count.{ones, ones_step}
use Rattle.std.proofs.lemmas.Nat.{mod_below, shr_below, shr-shr}
use Rattle.ledger.specs.Tests.{sum_over, threads}
use Rattle.replay.specs.Views.{has_bit}

-- A digit is one if it is that, else nothing.
digit_value : (b : ℕ) → b < 2 → b ≡ cond (eqb b 1) 1 0
digit_value zero below = refl
digit_value (suc zero) below = refl
digit_value (suc (suc b)) below = absurd (omega (arith, below))

-- The numbers from k on, m of them.
abbrev counting : ℕ → ℕ → List ℕ
counting k zero = []
counting k (suc m) = k ∷ counting (suc k) m

-- The ones from a place on are the one at that place, and those from the next place on.
ones_from : (n k : ℕ) → ones (n / 2 ^ k) ≡ cond (has_bit k n) 1 0 + ones (n / 2 ^ suc k)
ones_from n k =
    let half : n / 2 ^ k / 2 ^ 1 ≡ n / 2 ^ suc k = shr-shr n k 1 ∙ ap (λ j. n / 2 ^ j) (let e : k + 1 ≡ suc k = omega arith in e) in
    ones_step (n / 2 ^ k)
    ∙ ap (λ h. n / 2 ^ k % 2 + ones h) half
    ∙ ap (λ b. b + ones (n / 2 ^ suc k)) (digit_value (n / 2 ^ k % 2) (mod_below (n / 2 ^ k) 2 (omega arith)))

-- Nothing has no ones.
none_in_zero : ones 0 ≡ 0
unfolding ones
none_in_zero = refl

-- The ones of a number below a power are at the places below that power's.
pub ones_placed : (n m k : ℕ) → n < 2 ^ (m + k) → ones (n / 2 ^ k) ≡ sum_over (λ t. cond (has_bit t n) 1 0) (counting k m)
ones_placed n zero k below =
    let shifted : n / 2 ^ k < 2 ^ 0 = shr_below n 0 k below in
    let nothing : n / 2 ^ k ≡ 0 = omega (arith, shifted) in
    ap ones nothing ∙ none_in_zero
ones_placed n (suc m) k below =
    ones_from n k
    ∙ ap (λ x. cond (has_bit k n) 1 0 + x) (ones_placed n m (suc k) (subst (λ j. n < 2 ^ j) (let e : suc m + k ≡ m + suc k = omega arith in e) below))

-- The ones of a number of eight places, thread by thread.
pub ones_of_eight : (n : ℕ) → n < 256 → ones n ≡ sum_over (λ t. cond (has_bit t n) 1 0) threads
ones_of_eight n below = ap ones (sym (div-one n)) ∙ ones_placed n 8 0 below
