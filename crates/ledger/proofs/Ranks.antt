-- Ranks in a list of names: who stands next, who stands last, and that no name has two.
use Rattle.std.proofs.Common.{◌≡◌, ℕ, zero, suc, ◌+◌, ◌<◌, true, ◌&&◌, List, [], ◌∷◌, length, get_or, take, Some, sym, refl, ap, le_of_suc-le-suc, not-suc-le-zero, arith}
use Rattle.std.specs.List.{Contains}
use Rattle.std.proofs.lemmas.List.Elements.{All-contains, All-get_or}
use Rattle.std.proofs.lemmas.Bool.{and_from, or_left, or_right}
use Rattle.ledger.specs.Actions.{Name, same}
use Rattle.ledger.specs.Edges.{first_in, next_in}
use Rattle.ledger.specs.Moves.{last_of}
use Rattle.ledger.specs.Orders.{Lacks}
use Rattle.ledger.specs.Verdicts.{Different}
use Rattle.ledger.proofs.Growing.{same_self}

-- Neighbours in a list stand next to each other.
pub next_at : (names : List Name) (q : ℕ) (d : Name) → q + 1 < length names → next_in names (get_or names q d) (get_or names (suc q) d) ≡ true
next_at [] q d within = absurd (omega (arith, within))
next_at (a ∷ []) q d within = absurd (omega (arith, within))
next_at (a ∷ b ∷ names) zero d within = or_left (same a a && same b b) (next_in (b ∷ names) a b) (and_from (same a a) (same b b) (same_self a a refl) (same_self b b refl))
next_at (a ∷ b ∷ names) (suc q) d within = or_right (same a (get_or (b ∷ names) q d) && same b (get_or (b ∷ names) (suc q) d)) (next_in (b ∷ names) (get_or (b ∷ names) q d) (get_or (b ∷ names) (suc q) d)) (next_at (b ∷ names) q d (omega (arith, within)))

pub first_at : (names : List Name) (d : Name) → 0 < length names → first_in names (get_or names 0 d) ≡ true
first_at [] d within = absurd (omega (arith, within))
first_at (a ∷ names) d within = same_self a a refl

-- The last of a front.
pub last_take : (names : List Name) (q : ℕ) (d : Name) → q < length names → last_of (take (suc q) names) ≡ Some (get_or names q d)
last_take [] q d within = absurd (not-suc-le-zero within)
last_take (a ∷ names) zero d within = refl
last_take (a ∷ []) (suc q) d within = absurd (not-suc-le-zero (le_of_suc-le-suc within))
last_take (a ∷ b ∷ names) (suc q) d within = last_take (b ∷ names) q d (le_of_suc-le-suc within)

-- No name has two ranks.
pub one_rank : (names : List Name) → Different names → (i j : ℕ) (d : Name) → i < length names → j < length names → get_or names i d ≡ get_or names j d → i ≡ j
one_rank [] once i j d i_in j_in is = absurd (not-suc-le-zero i_in)
one_rank (a ∷ names) once zero zero d i_in j_in is = refl
one_rank (a ∷ names) once zero (suc j) d i_in j_in is = absurd (All-get_or (λ b. b ≡ a → ⊥) names j d (le_of_suc-le-suc j_in) once.0 (sym is))
one_rank (a ∷ names) once (suc i) zero d i_in j_in is = absurd (All-get_or (λ b. b ≡ a → ⊥) names i d (le_of_suc-le-suc i_in) once.0 is)
one_rank (a ∷ names) once (suc i) (suc j) d i_in j_in is = ap suc (one_rank names once.1 i j d (le_of_suc-le-suc i_in) (le_of_suc-le-suc j_in) is)

-- What a list lacks it does not have.
pub lacks_has : (names : List Name) (a : Name) → Lacks names a → Contains names a → ⊥
lacks_has names a lacks has = All-contains (λ b. b ≡ a → ⊥) names a lacks has refl
