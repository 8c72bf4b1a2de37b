-- How many of the nodes are not marked: all of them at first, one fewer after each mark, and none when every node is marked.
use Rattle.std.proofs.Common.{◌≡◌, ℕ, zero, suc, ◌+◌, ◌<◌, ◌≤◌, Bool, true, false, cond, not, List, length, get_or, take, set, replicate, count_by, refl, ap, ◌∙◌, arith}
use lib.Seq.{take-set-lt}
use Rattle.std.proofs.lemmas.List.{length-take-le, get_or-take, take-replicate}
use Rattle.std.proofs.lemmas.List.Elements.{All-from_get_or}
use Rattle.std.proofs.lemmas.List.Sums.{get_or-le-sum_by, sum_by-set, sum_by-cons, sum_by-le}
use Rattle.graph.specs.Placing.{missing}

-- what a node's mark adds to the number of nodes that are not marked
abbrev lacks : Bool → ℕ
lacks b = cond (not b) 1 0

-- A list without a mark lacks all.
count_none : (n : ℕ) → count_by not (replicate n false) ≡ n
count_none zero = refl
count_none (suc n) = omega (arith, sum_by-cons lacks false (replicate n false), count_none n)

-- At first every node is missing.
pub missing_all : (n m : ℕ) → n ≤ m → missing n (replicate m false) ≡ n
missing_all n m few = ap (count_by not) (take-replicate n m false few) ∙ count_none n

-- A node that is not marked counts for one.
lacks_one : (n : ℕ) (marks : List Bool) (v : ℕ) → v < n → get_or marks v false ≡ false → lacks (get_or (take n marks) v false) ≡ 1
lacks_one n marks v l e = ap lacks (get_or-take n marks v false l ∙ e)

-- A node that is not marked is missing.
pub missing_some : (n : ℕ) (marks : List Bool) (v : ℕ) → n ≤ length marks → v < n → get_or marks v false ≡ false → 0 < missing n marks
missing_some n marks v few l e =
    let within = length-take-le n marks few in
    omega (arith, lacks_one n marks v l e, get_or-le-sum_by lacks (take n marks) v false (omega arith))

-- One more mark leaves one fewer missing.
pub missing_mark : (n : ℕ) (marks : List Bool) (v : ℕ) → n ≤ length marks → v < n → get_or marks v false ≡ false
    → missing n (set marks v true) + 1 ≡ missing n marks
missing_mark n marks v few l e =
    let within = length-take-le n marks few in
    let same : missing n (set marks v true) ≡ count_by not (set (take n marks) v true) = ap (count_by not) (take-set-lt n marks v true l) in
    omega (arith, same, lacks_one n marks v l e, sum_by-set lacks (take n marks) v true false (omega arith))

-- Where every node is marked, none is missing.
pub missing_none : (n : ℕ) (marks : List Bool) → n ≤ length marks → ((v : ℕ) → v < n → get_or marks v false ≡ true) → missing n marks ≡ 0
missing_none n marks few all =
    let within = length-take-le n marks few in
    let none = All-from_get_or (λ b. lacks b ≤ 0) (take n marks) false
    (λ v l. omega (arith, ap lacks (get_or-take n marks v false (omega arith) ∙ all v (omega arith)))) in
    omega (arith, sum_by-le lacks 0 (take n marks) none)
