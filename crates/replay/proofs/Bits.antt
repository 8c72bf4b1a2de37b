-- The bits of a mask: what a one that is written at a place changes.
use Rattle.std.proofs.Common.{◌≡◌, ℕ, zero, suc, ◌+◌, ◌-◌, ◌*◌, ◌/◌, ◌%◌, ◌^◌, ◌<◌, Bool, true, false, ◌||◌, eqb, sym, refl, ap, ◌∙◌, subst, ⊎_elim, one-mul, arith}
use native.Mathlib.Nat.{div-eq_of_lt, mul-mod_left, zero-div}
use mathlib.Core.Path.{fun_ext}
use lib.Bits.{bit_or, or_mod, or_shr, or_zero_r}
use Rattle.std.proofs.lemmas.Nat.{mod_below, one_shl, pow-add, pow_below, shl-shr}
use Rattle.std.proofs.lemmas.Bool.{cases_order, or_right}
use Rattle.ledger.specs.Ledgers.{update}
use Rattle.ledger.proofs.Growing.{update_all}
use Rattle.replay.specs.Views.{has_bit}

-- Zero has a one nowhere.
pub no_bit : (u : ℕ) → has_bit u 0 ≡ false
no_bit u = ap (λ (n : ℕ). eqb (n % 2) 1) (zero-div (2 ^ u))

-- A power of two has a one at its place.
power_here : (t : ℕ) → 2 ^ t / 2 ^ t % 2 ≡ 1
power_here t = ap (λ (n : ℕ). n % 2) (ap (λ (n : ℕ). n / 2 ^ t) (sym (one-mul (2 ^ t))) ∙ shl-shr 1 t)

-- It has none below.
power_below : (k u : ℕ) → 2 ^ (k + 1 + u) / 2 ^ u % 2 ≡ 0
power_below k u =
    ap (λ (n : ℕ). n % 2) (ap (λ (n : ℕ). n / 2 ^ u) (pow-add 2 (k + 1) u) ∙ shl-shr (2 ^ (k + 1)) u)
    ∙ ap (λ (n : ℕ). n % 2) (pow-add 2 k 1)
    ∙ mul-mod_left (2 ^ k) 2

-- It has none at another place.
power_other : (t u : ℕ) → (u ≡ t → ⊥) → 2 ^ t / 2 ^ u % 2 ≡ 0
power_other t u apart =
    ⊎_elim
    (λ is. absurd (apart is))
    (λ either. ⊎_elim
    (λ (below : u < t). let is : t - (u + 1) + 1 + u ≡ t = omega arith in subst (λ (n : ℕ). 2 ^ n / 2 ^ u % 2 ≡ 0) is (power_below (t - (u + 1)) u))
    (λ (above : t < u). ap (λ (n : ℕ). n % 2) (div-eq_of_lt (pow_below t u above)))
    either)
    (cases_order u t)

-- A bit joined with a one is a one.
one_joined : (a : ℕ) → a < 2 → bit_or a 1 ≡ 1
one_joined zero small = refl
one_joined (suc zero) small = refl
one_joined (suc (suc a)) small = absurd (omega (arith, small))

-- The bits of two numbers are joined place by place.
bit_joined : (m n u : ℕ) → bit_or m n / 2 ^ u % 2 ≡ bit_or (m / 2 ^ u % 2) (n / 2 ^ u % 2)
bit_joined m n u = ap (λ (k : ℕ). k % 2) (or_shr m n u) ∙ or_mod (m / 2 ^ u) (n / 2 ^ u) 1

-- With a one written at its place below 8, a mask has a one there and is as before elsewhere.
pub bit_written : (m t : ℕ) → t < 8 → (λ u. has_bit u (bit_or m (1 * 2 ^ t % 256))) ≡ update (λ u. has_bit u m) t (has_bit t m || true)
bit_written m t below =
    fun_ext (update_all (λ u. has_bit u m) t (has_bit t m || true) (λ u b. has_bit u (bit_or m (1 * 2 ^ t % 256)) ≡ b) here there)
  where
    power : (u : ℕ) → has_bit u (bit_or m (1 * 2 ^ t % 256)) ≡ eqb (bit_or (m / 2 ^ u % 2) (2 ^ t / 2 ^ u % 2)) 1
    power u = ap (λ (n : ℕ). has_bit u (bit_or m n)) (one_shl t 8 below) ∙ ap (λ (n : ℕ). eqb n 1) (bit_joined m (2 ^ t) u)

    here : has_bit t (bit_or m (1 * 2 ^ t % 256)) ≡ (has_bit t m || true)
    here =
        power t
        ∙ ap (λ (n : ℕ). eqb (bit_or (m / 2 ^ t % 2) n) 1) (power_here t)
        ∙ ap (λ (n : ℕ). eqb n 1) (one_joined (m / 2 ^ t % 2) (mod_below (m / 2 ^ t) 2 (omega arith)))
        ∙ sym (or_right (has_bit t m) true refl)

    there : (u : ℕ) → (u ≡ t → ⊥) → has_bit u (bit_or m (1 * 2 ^ t % 256)) ≡ has_bit u m
    there u apart =
        power u
        ∙ ap (λ (n : ℕ). eqb (bit_or (m / 2 ^ u % 2) n) 1) (power_other t u apart)
        ∙ ap (λ (n : ℕ). eqb n 1) (or_zero_r (m / 2 ^ u % 2))

-- A test joined with false is as it was.
or_false : (b : Bool) → b ≡ (b || false)
or_false true = refl
or_false false = refl

-- A function that is given its own value somewhere, joined with false, is as before.
pub none_written : (f : ℕ → Bool) (t : ℕ) → f ≡ update f t (f t || false)
none_written f t = fun_ext (update_all f t (f t || false) (λ u b. f u ≡ b) (or_false (f t)) (λ u apart. refl))
