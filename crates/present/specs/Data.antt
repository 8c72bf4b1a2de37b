-- What a replay holds, as definitions: no code speaks here.
-- Noted             an action as it is kept, and, of a store that was drained, what it overwrote in memory
-- Present           where each thread stands, what memory gives for each cell, each thread's actions, and which threads delayed
-- Held              that, and what waits in the store buffer
-- fresh             what a replay holds once it is made, or starts over; nothing waits then
-- actions_in        the actions of a thread
-- how_many_in       the number of actions of all threads
-- left_waiting c x  the kept action is a store to the cell c, and was not drained: the actions leave it waiting
-- oldest_left       the position of the oldest such action of a thread, positions counted from i
-- youngest_left     of the youngest
use Rattle.std.specs.Prelude.{ℕ, ◌+◌, Bool, false, cond, not, ◌&&◌, List, [], ◌∷◌, map, length, is_some, Some, None, Option, ◌==◌, slice_index_or}
use Rattle.buffers.specs.Calls.{no_stores}
use Rattle.buffers.specs.Lists.{Lists, else_this, list_of}
use Rattle.buffers.specs.declared.store.Store.{Store}
use Rattle.ledger.specs.Actions.{Access, Action, Name, Source, initial, loads, none, stores}
use Rattle.ledger.specs.Ledgers.{Local, no_action, start_local}
use Rattle.ledger.specs.Moves.{Read}
use Rattle.ledger.specs.Tests.{sum_over, threads}

pub record Noted : Type 0 where
  pub action : Action
  pub over : Option Source

pub record Present : Type 0 where
  pub locals : ℕ → Local
  pub memory : ℕ → Read
  pub noted : ℕ → List Noted
  pub delayed : ℕ → Bool

pub record Held : Type 0 where
  pub own : Present
  pub lists : Lists

-- the stores of the thread that wait in the buffer
abbrev pub waiting_of : Held → ℕ → List Store
waiting_of h t = list_of h.lists t

-- a cell as it is at the start
abbrev pub untouched : Read
untouched = record { source = initial; value = 0 }

abbrev pub fresh : Present
fresh = record {
  locals = λ t. start_local;
  memory = λ c. untouched;
  noted = λ t. [];
  delayed = λ t. false;
}

abbrev pub fresh_held : Held
fresh_held = record { own = fresh; lists = no_stores }

-- what stands in a list of kept actions past its end
abbrev pub nothing_noted : Noted
nothing_noted = record { action = no_action; over = None }

-- the kept action of that name
abbrev pub noted_at : Present → Name → Noted
noted_at p a = slice_index_or (p.noted a.thread) a.position nothing_noted

abbrev pub actions_in : Present → ℕ → List Action
actions_in p t = map (λ x. x.action) (p.noted t)

abbrev pub how_many_in : Present → ℕ
how_many_in p = sum_over (λ t. length (p.noted t)) threads

abbrev pub stores_to : ℕ → Access → Bool
stores_to c none = false
stores_to c (stores d) = d == c
stores_to c (loads d source) = false

abbrev pub left_waiting : ℕ → Noted → Bool
left_waiting c x = not (is_some x.over) && stores_to c x.action.access

abbrev pub oldest_left : ℕ → ℕ → List Noted → Option ℕ
oldest_left i c [] = None
oldest_left i c (x ∷ xs) = cond (left_waiting c x) (Some i) (oldest_left (i + 1) c xs)

abbrev pub youngest_left : ℕ → ℕ → List Noted → Option ℕ
youngest_left i c [] = None
youngest_left i c (x ∷ xs) = else_this (youngest_left (i + 1) c xs) (cond (left_waiting c x) (Some i) None)
