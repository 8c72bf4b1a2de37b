-- The number of actions, thread by thread.
use Rattle.std.proofs.Common.{◌≡◌, ℕ, zero, suc, ◌+◌, ◌<◌, ◌≤◌, Bool, true, ◌&&◌, ltb, ◌⊎◌, List, [], ◌∷◌, get_or, sym, refl, ap, ◌∙◌, zero-add, le_of_suc-le-suc, subst, inl, inr, ⊎_elim, arith}
use Rattle.std.specs.List.{Contains}
use Rattle.std.proofs.lemmas.List.FromFn.{get_or-range_with_len}
use Rattle.std.proofs.lemmas.List.Recursion.{is_sum_by}
use Rattle.std.proofs.lemmas.List.Sums.{get_or-le-sum_by}
use Rattle.std.proofs.lemmas.Bool.{and_parts, cases_eq, ltb-true}
use Rattle.ledger.specs.Tests.{sum_over, threads}

-- every number is above h
abbrev above : ℕ → List ℕ → Bool
above h [] = true
above h (u ∷ us) = ltb h u && above h us

abbrev rising : List ℕ → Bool
rising [] = true
rising (u ∷ us) = above u us && rising us

-- Where two functions agree above t, so do their sums over numbers above t.
sum_above : (f g : ℕ → ℕ) (t : ℕ) → ((u : ℕ) → (u ≡ t → ⊥) → g u ≡ f u) → (us : List ℕ) → above t us ≡ true → sum_over g us ≡ sum_over f us
sum_above f g t agree [] up = refl
sum_above f g t agree (u ∷ us) up =
    let both = and_parts (ltb t u) (above t us) up in
    let lt = ltb-true t u both.0 in
    let here : g u ≡ f u = agree u (λ e. omega (arith, lt, e)) in
    let rest : sum_over g us ≡ sum_over f us = sum_above f g t agree us both.1 in
    omega (arith, here, rest)

-- One more at one place is at most one more in the sum.
sum_one : (f g : ℕ → ℕ) (t : ℕ) → ((u : ℕ) → (u ≡ t → ⊥) → g u ≡ f u) → g t ≡ f t + 1 → (us : List ℕ) → rising us ≡ true → sum_over g us ≤ sum_over f us + 1
sum_one f g t agree one [] up = omega arith
sum_one f g t agree one (u ∷ us) up =
    let both = and_parts (above u us) (rising us) up in
    ⊎_elim
    (λ is.
    let rest : sum_over g us ≡ sum_over f us = sum_above f g t agree us (subst (λ k. above k us ≡ true) is both.0) in
    let here : g u ≡ f u + 1 = subst (λ k. g k ≡ f k + 1) (sym is) one in
    omega (arith, rest, here))
    (λ other.
    let rest : sum_over g us ≤ sum_over f us + 1 = sum_one f g t agree one us both.1 in
    let here : g u ≡ f u = agree u other in
    omega (arith, rest, here))
    (cases_eq u t)

pub one_more : (f g : ℕ → ℕ) (t : ℕ) → ((u : ℕ) → (u ≡ t → ⊥) → g u ≡ f u) → g t ≡ f t + 1 → sum_over g threads ≤ sum_over f threads + 1
one_more f g t agree one = sum_one f g t agree one threads refl

-- What a list contains is its first or stands behind it.
pub contains_cases : {X : Type 0} (b : X) (bs : List X) (a : X) → Contains (b ∷ bs) a → (b ≡ a) ⊎ Contains bs a
contains_cases b bs a (zero, within, is) = inl is
contains_cases b bs a (suc k, within, is) = inr (k, le_of_suc-le-suc within, is)

-- Less at one place and no more elsewhere is less in the sum.
sum_no_more : (f g : ℕ → ℕ) → ((u : ℕ) → f u ≤ g u) → (us : List ℕ) → sum_over f us ≤ sum_over g us
sum_no_more f g no_more [] = omega arith
sum_no_more f g no_more (u ∷ us) = let rest : sum_over f us ≤ sum_over g us = sum_no_more f g no_more us in omega (arith, rest, no_more u)

sum_less : (f g : ℕ → ℕ) (t : ℕ) → ((u : ℕ) → f u ≤ g u) → f t < g t → (us : List ℕ) → Contains us t → sum_over f us < sum_over g us
sum_less f g t no_more less [] there = absurd (omega (arith, there.1))
sum_less f g t no_more less (u ∷ us) there =
    ⊎_elim
    (λ is. let here : f u < g u = subst (λ k. f k < g k) (sym is) less in let rest : sum_over f us ≤ sum_over g us = sum_no_more f g no_more us in omega (arith, here, rest))
    (λ later. let rest : sum_over f us < sum_over g us = sum_less f g t no_more less us later in omega (arith, rest, no_more u))
    (contains_cases u us t there)

-- Each of the eight threads is among them.
pub a_thread : (t : ℕ) → t < 8 → Contains threads t
a_thread t in_range = (t, in_range, get_or-range_with_len 0 8 t t in_range ∙ zero-add t)

-- What one thread has is no more than what all have.
pub one_of_all : (f : ℕ → ℕ) (t : ℕ) → t < 8 → f t ≤ sum_over f threads
one_of_all f t in_range =
    let all = is_sum_by (sum_over f) f refl (λ u us. refl) threads in
    let at : f (get_or threads t 0) ≡ f t = ap f (get_or-range_with_len 0 8 t 0 in_range ∙ zero-add t) in
    let one = get_or-le-sum_by f threads t 0 in_range in
    omega (arith, all, at, one)

pub one_less : (f g : ℕ → ℕ) (t : ℕ) → t < 8 → ((u : ℕ) → f u ≤ g u) → f t < g t → sum_over f threads < sum_over g threads
one_less f g t in_range no_more less = sum_less f g t no_more less threads (a_thread t in_range)
