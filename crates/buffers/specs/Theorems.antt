-- What follows from the meaning of a store buffer.
-- Event                 a put or a take, as it is offered
-- after_event(s)        what waits after it, or after a list of them, under the rules r
-- values_to c ss        the values of the stores to the cell c, oldest first
-- values_put            the values that the thread t put for the cell c, in the order put; refused puts put nothing
-- values_taken          the values that were taken from them, in the order taken
-- LeaveInOrder          over every kind, the stores of a thread to one cell leave in the order in which they were put
-- TakesOldest           over every kind, a free drain takes the thread's oldest store to its cell, and leaves the others as they were
-- OnlyOldestLeaves      over queue, that store is the thread's oldest of all
-- NothingChosen         strong cells with nothing chosen have the rules of the kind below
use Rattle.std.specs.Prelude.{◌≡◌, ℕ, true, false, cond, ◌&&◌, List, [], ◌∷◌, ◌++◌, replicate, Ok, Err, Result, ◌==◌}
use Rattle.refusal.specs.declared.Refusal.{Refusal}
use Rattle.buffers.specs.Calls.{no_stores, put_answer, put_lists, take_answer, take_lists}
use Rattle.buffers.specs.Kinds.{queue, strong}
use Rattle.buffers.specs.Laws.{Lawful, Rules}
use Rattle.buffers.specs.Lists.{Lists, list_of, waits_to, without_oldest}
use Rattle.buffers.specs.declared.store.Store.{Store}

pub data Event : Type 0 where
  puts : (thread cell value : ℕ) → Event
  takes : (thread cell : ℕ) → Event

abbrev pub after_event : Rules → Lists → Event → Lists
after_event r ls (puts t c v) = put_lists ls t c v (put_answer ls t c)
after_event r ls (takes t c) = take_lists ls t c (take_answer (r.drains ls t c) ls t c)

abbrev pub after_events : Rules → Lists → List Event → Lists
after_events r ls [] = ls
after_events r ls (e ∷ es) = after_events r (after_event r ls e) es

abbrev pub values_to : ℕ → List Store → List ℕ
values_to c [] = []
values_to c (s ∷ ss) = cond (s.cell == c) (s.value ∷ values_to c ss) (values_to c ss)

-- v, where a put of it was taken
abbrev pub where_taken : Result (Unit {0}) Refusal → ℕ → List ℕ
where_taken (Ok done) v = v ∷ []
where_taken (Err refusal) v = []

-- the value that a take answered
abbrev pub answered : Result ℕ Refusal → List ℕ
answered (Ok v) = v ∷ []
answered (Err refusal) = []

abbrev pub values_put : Rules → Lists → ℕ → ℕ → List Event → List ℕ
values_put r ls t c [] = []
values_put r ls t c (puts u d v ∷ es) = cond (u == t && d == c) (where_taken (put_answer ls u d) v) [] ++ values_put r (after_event r ls (puts u d v)) t c es
values_put r ls t c (takes u d ∷ es) = values_put r (after_event r ls (takes u d)) t c es

abbrev pub values_taken : Rules → Lists → ℕ → ℕ → List Event → List ℕ
values_taken r ls t c [] = []
values_taken r ls t c (puts u d v ∷ es) = values_taken r (after_event r ls (puts u d v)) t c es
values_taken r ls t c (takes u d ∷ es) = cond (u == t && d == c) (answered (take_answer (r.drains ls u d) ls u d)) [] ++ values_taken r (after_event r ls (takes u d)) t c es

-- what was put is what was taken and then what still waits
abbrev pub LeaveInOrder : Type 0
LeaveInOrder = (r : Rules) (es : List Event) (t c : ℕ) → values_put r no_stores t c es ≡ values_taken r no_stores t c es ++ values_to c (list_of (after_events r no_stores es) t)

pub record OldestTaken (ls : Lists) (t c : ℕ) : Type 0 where
  pub before : List Store
  pub oldest : Store
  pub after : List Store
  pub waiting : list_of ls t ≡ before ++ oldest ∷ after
  pub to_cell : oldest.cell ≡ c
  pub none_older : waits_to c before ≡ false
  pub value : take_answer true ls t c ≡ Ok oldest.value
  pub left : without_oldest c (list_of ls t) ≡ before ++ after

abbrev pub TakesOldest : Type 0
TakesOldest = (r : Rules) → Lawful r → (ls : Lists) (t c : ℕ) → r.drains ls t c ≡ true → OldestTaken ls t c

abbrev pub OnlyOldestLeaves : Type 0
OnlyOldestLeaves = (ls : Lists) (t c : ℕ) → queue.drains ls t c ≡ true → (taken : OldestTaken ls t c) × (taken.before ≡ [])

abbrev pub NothingChosen : Type 0
NothingChosen = (r : Rules) (ls : Lists) (t : ℕ) → ((strong (replicate 16 false) r).steps ls t ≡ r.steps ls t) × ((c : ℕ) → (strong (replicate 16 false) r).drains ls t c ≡ r.drains ls t c)
