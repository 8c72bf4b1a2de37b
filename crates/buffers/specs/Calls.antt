-- What the calls of a store buffer answer, and what waits after them.
-- put_answer, put_lists      a store is put at the end of the thread's list
-- take_answer, take_lists    the thread's oldest store to a cell is taken out
-- no_stores                  what waits once all is cleared
use Rattle.std.specs.Prelude.{ℕ, Bool, cond, [], ◌∷◌, ◌++◌, length, replicate, Ok, Err, Result, nat_le, slice_set}
use Rattle.std.specs.Option.{ok_or}
use Rattle.refusal.specs.declared.Refusal.{Refusal}
use Rattle.refusal.specs.declared.Refusal.TheVariants.{ThreadOutOfRange, CellOutOfRange, BufferFull, DrainNotFree}
use Rattle.buffers.specs.declared.store.Store.{Store}
use Rattle.buffers.specs.Lists.{Lists, list_of, oldest_to, without_oldest}

abbrev pub store : ℕ → ℕ → Store
store c v = record { cell = c; value = v }

abbrev pub put_answer : Lists → ℕ → ℕ → Result (Unit {0}) Refusal
put_answer ls t c = cond (nat_le 8 t) (Err ThreadOutOfRange) (cond (nat_le 16 c) (Err CellOutOfRange) (cond (nat_le 16 (length (list_of ls t))) (Err BufferFull) (Ok tt)))

-- where the call was refused, as before
abbrev pub put_lists : Lists → ℕ → ℕ → ℕ → Result (Unit {0}) Refusal → Lists
put_lists ls t c v (Ok done) = slice_set ls t (list_of ls t ++ store c v ∷ [])
put_lists ls t c v (Err refusal) = ls

abbrev pub take_answer : Bool → Lists → ℕ → ℕ → Result ℕ Refusal
take_answer free ls t c = cond free (ok_or (oldest_to c (list_of ls t)) DrainNotFree) (Err DrainNotFree)

abbrev pub take_lists : Lists → ℕ → ℕ → Result ℕ Refusal → Lists
take_lists ls t c (Ok value) = slice_set ls t (without_oldest c (list_of ls t))
take_lists ls t c (Err refusal) = ls

abbrev pub no_stores : Lists
no_stores = replicate 8 []
