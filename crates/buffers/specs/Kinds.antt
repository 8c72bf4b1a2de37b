-- The rules of the kinds.
-- direct       a thread may step once nothing waits in any thread; any waiting store may drain
-- queue        any thread may step; the thread's oldest store may drain
-- per_cell     any thread may step; the oldest store to any cell may drain
-- strong cs r  as r, but that a thread may not step while a store of its own waits for one of the cells cs
use Rattle.std.specs.Prelude.{ℕ, Bool, false, not, ◌&&◌, ◌||◌, List, [], ◌∷◌, ◌==◌, nat_lt, slice_index_or}
use Rattle.buffers.specs.declared.store.Store.{Store}
use Rattle.buffers.specs.Laws.{Rules}
use Rattle.buffers.specs.Lists.{list_of, nothing_waits, waits_to}

abbrev pub a_thread : ℕ → Bool
a_thread t = nat_lt t 8

-- the oldest store is to the cell c
abbrev pub oldest_is_to : ℕ → List Store → Bool
oldest_is_to c [] = false
oldest_is_to c (s ∷ ss) = s.cell == c

-- a store to one of the chosen cells is among these
abbrev pub has_chosen : List Bool → List Store → Bool
has_chosen chosen [] = false
has_chosen chosen (s ∷ ss) = slice_index_or chosen s.cell false || has_chosen chosen ss

abbrev pub direct : Rules
direct = record {
  steps = λ ls t. a_thread t && nothing_waits ls;
  drains = λ ls t c. waits_to c (list_of ls t);
}

abbrev pub queue : Rules
queue = record {
  steps = λ ls t. a_thread t;
  drains = λ ls t c. oldest_is_to c (list_of ls t);
}

abbrev pub per_cell : Rules
per_cell = record {
  steps = λ ls t. a_thread t;
  drains = λ ls t c. waits_to c (list_of ls t);
}

abbrev pub strong : List Bool → Rules → Rules
strong chosen below = record {
  steps = λ ls t. below.steps ls t && not (has_chosen chosen (list_of ls t));
  drains = below.drains;
}
