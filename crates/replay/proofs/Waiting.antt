-- Whether anything waits, list by list.
use Rattle.std.proofs.Common.{◌≡◌, ℕ, zero, suc, ◌<◌, Bool, true, false, not, MatchBool, [], ◌∷◌, length, sym, refl, ap, ◌∙◌, subst, zero-add, arith}
use Rattle.std.specs.List.{AllWithin, HoldsAt, range_with_len}
use Rattle.std.proofs.lemmas.List.FromFn.{get_or-range_with_len}
use Rattle.buffers.specs.Lists.{Lists, list_of, nothing_waits}

-- A list that is not empty says that something waits.
pub some_waits : (ls : Lists) (t : ℕ) → 0 < length (list_of ls t) → nothing_waits ls ≡ false
some_waits [] t some = absurd (omega (arith, some))
some_waits ([] ∷ ls) zero some = absurd (omega (arith, some))
some_waits ((s ∷ ss) ∷ ls) zero some = refl
some_waits ([] ∷ ls) (suc t) some = some_waits ls t some
some_waits ((s ∷ ss) ∷ ls) (suc t) some = refl

-- Where every list is empty, nothing does.
pub none_waits : (ls : Lists) → ((t : ℕ) → t < length ls → length (list_of ls t) ≡ 0) → nothing_waits ls ≡ true
none_waits [] empty = refl
none_waits ([] ∷ ls) empty = none_waits ls (λ t within. empty (suc t) (omega (arith, within)))
none_waits ((s ∷ ss) ∷ ls) empty = absurd (omega (arith, empty 0 (omega arith)))

-- What was found of eight lists, one by one, says whether anything waits.
pub whether_waits : (ls : Lists) (b : Bool) → length ls ≡ 8 → MatchBool b ((k : ℕ) × (k < 8) × HoldsAt (λ t. 0 < length (list_of ls t)) (range_with_len 0 8) k) (AllWithin (λ t. length (list_of ls t) ≡ 0) (range_with_len 0 8) 0 8) → b ≡ not (nothing_waits ls)
whether_waits ls true eight found = sym (ap not (some_waits ls _ (found.2 0)))
whether_waits ls false eight found =
    sym (ap not (none_waits ls (λ t within.
    let below : t < 8 = omega (arith, within, eight) in
    subst (λ u. length (list_of ls u) ≡ 0) (get_or-range_with_len 0 8 t 0 below ∙ zero-add t) (found t 0 (omega arith) below))))
