-- What the attack pairs of a program are, over its list of lines.
-- has test ls n       there is a line of the number n, and its instruction passes the test
-- follows ls m n      the lines m and n are of one thread, and n stands at the next label of m
-- Path ls m n         a chain of lines leads from m to n, each following the one before, with no fence between the two ends
-- Attack ls s l       s is a store and l a load, and a path leads from s to l
-- Before p q          the pair p comes first: by the store's number, then by the load's
-- AttackPairs ls ps   ps are all the attack pairs, nothing else, each before the next
-- OneList             there is only one such list
-- Listed              what listing them answers, and what the list handed in holds afterwards
use Rattle.std.specs.Prelude.{◌≡◌, ℕ, ◌<◌, Bool, true, false, cond, ◌&&◌, ◌⊎◌, List, [], ◌∷◌, ◌++◌, length, drop, Some, None, Ok, Err, Option, Result, ◌==◌, nat_le}
use Rattle.std.specs.List.{slice_get, All, Contains}
use Rattle.refusal.specs.declared.Refusal.{Refusal}
use Rattle.refusal.specs.declared.Refusal.TheVariants.{TooShort}
use Rattle.program.specs.declared.forms.Instruction.{Instruction}
use Rattle.program.specs.declared.forms.Instruction.TheVariants.{Load, Store, Fence, Compute, Assert}
use Rattle.program.specs.declared.lines.Line.{Line}
use Rattle.attacks.specs.declared.pair.Pair.{Pair}

abbrev pub is_store : Instruction → Bool
is_store (Load register address) = false
is_store (Store address value) = true
is_store Fence = false
is_store (Compute register operation a b) = false
is_store (Assert condition) = false

abbrev pub is_load : Instruction → Bool
is_load (Load register address) = true
is_load (Store address value) = false
is_load Fence = false
is_load (Compute register operation a b) = false
is_load (Assert condition) = false

abbrev pub is_fence : Instruction → Bool
is_fence (Load register address) = false
is_fence (Store address value) = false
is_fence Fence = true
is_fence (Compute register operation a b) = false
is_fence (Assert condition) = false

abbrev pub passes : (Instruction → Bool) → Option Line → Bool
passes test None = false
passes test (Some l) = test l.instruction

abbrev pub has : (Instruction → Bool) → List Line → ℕ → Bool
has test ls n = passes test (slice_get ls n)

abbrev pub behind : Option Line → Option Line → Bool
behind None y = false
behind (Some x) None = false
behind (Some x) (Some y) = x.thread == y.thread && x.next == y.label

abbrev pub follows : List Line → ℕ → ℕ → Bool
follows ls m n = behind (slice_get ls m) (slice_get ls n)

pub data Path (ls : List Line) : ℕ → ℕ → Type 0 where
  step : {m n : ℕ} → follows ls m n ≡ true → Path ls m n
  through : {m k n : ℕ} → Path ls m k → has is_fence ls k ≡ false → follows ls k n ≡ true → Path ls m n

pub record Attack (ls : List Line) (s l : ℕ) : Type 0 where
  pub store : has is_store ls s ≡ true
  pub load : has is_load ls l ≡ true
  pub path : Path ls s l

abbrev pub Before : Pair → Pair → Type 0
Before p q = (p.store < q.store) ⊎ ((p.store ≡ q.store) × (p.load < q.load))

abbrev pub Ascending : List Pair → Type 0
Ascending [] = Unit {0}
Ascending (p ∷ ps) = All (Before p) ps × Ascending ps

pub record AttackPairs (ls : List Line) (ps : List Pair) : Type 0 where
  pub sound : All (λ p. Attack ls p.store p.load) ps
  pub complete : (p : Pair) → Attack ls p.store p.load → Contains ps p
  pub ascending : Ascending ps

-- A list with a place for every pair takes them at its front, and its later places are as before. One with fewer is
-- refused and is as before.
pub record Listed (ls : List Line) (before : List Pair) (answer : Result ℕ Refusal) (after : List Pair) : Type 0 where
  pub pairs : List Pair
  pub all : AttackPairs ls pairs
  pub value : answer ≡ cond (nat_le (length pairs) (length before)) (Ok (length pairs)) (Err TooShort)
  pub list : after ≡ cond (nat_le (length pairs) (length before)) (pairs ++ drop (length pairs) before) before

-- There is only one such list, so what is written is determined.
abbrev pub OneList : Type 0
OneList = (ls : List Line) (ps qs : List Pair) → AttackPairs ls ps → AttackPairs ls qs → ps ≡ qs
