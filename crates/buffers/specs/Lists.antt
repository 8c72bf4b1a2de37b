-- The waiting stores of all threads.
-- Lists                 a list of waiting stores for each thread, oldest first
-- list_of ls t          the stores of the thread t; none for a thread that is not there
-- oldest_to c ss        the value of the oldest store to the cell c, if there is one
-- newest_to c ss        the value of the youngest
-- without_oldest c ss   ss less its oldest store to the cell c
-- waits_to c ss         a store to the cell c waits
-- nothing_waits ls      no store of any thread waits
-- Good ls               eight lists, at most 16 stores in each, every cell below 16 and every value of 32 bits
use Rattle.std.specs.Prelude.{◌≡◌, ℕ, ◌^◌, ◌≤◌, Bool, true, false, cond, ◌&&◌, List, [], ◌∷◌, length, is_some, Some, None, Option, ◌==◌, nat_lt, slice_index_or}
use Rattle.buffers.specs.declared.store.Store.{Store}

abbrev pub Lists : Type 0
Lists = List (List Store)

abbrev pub list_of : Lists → ℕ → List Store
list_of ls t = slice_index_or ls t []

abbrev pub oldest_to : ℕ → List Store → Option ℕ
oldest_to c [] = None
oldest_to c (s ∷ ss) = cond (s.cell == c) (Some s.value) (oldest_to c ss)

-- the first, or the second where there is no first
abbrev pub else_this : Option ℕ → Option ℕ → Option ℕ
else_this None o = o
else_this (Some v) o = Some v

abbrev pub newest_to : ℕ → List Store → Option ℕ
newest_to c [] = None
newest_to c (s ∷ ss) = else_this (newest_to c ss) (cond (s.cell == c) (Some s.value) None)

abbrev pub without_oldest : ℕ → List Store → List Store
without_oldest c [] = []
without_oldest c (s ∷ ss) = cond (s.cell == c) ss (s ∷ without_oldest c ss)

abbrev pub waits_to : ℕ → List Store → Bool
waits_to c ss = is_some (oldest_to c ss)

abbrev pub none_of : List Store → Bool
none_of [] = true
none_of (s ∷ ss) = false

abbrev pub nothing_waits : Lists → Bool
nothing_waits [] = true
nothing_waits (ss ∷ ls) = none_of ss && nothing_waits ls

abbrev pub stores_in_range : List Store → Bool
stores_in_range [] = true
stores_in_range (s ∷ ss) = (nat_lt s.cell 16 && nat_lt s.value (2 ^ 32)) && stores_in_range ss

pub record Good (ls : Lists) : Type 0 where
  pub eight : length ls ≡ 8
  pub few : (t : ℕ) → length (list_of ls t) ≤ 16
  pub ranged : (t : ℕ) → stores_in_range (list_of ls t) ≡ true
