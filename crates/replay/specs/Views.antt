-- What the replay's data say, as definitions that know no code.
-- noted_of      a kept action
-- read_of       what memory gives for a cell
-- local_of      where a thread stands, and its registers
-- noted_in      a thread's kept actions
-- has_bit       the number has a one at that place, counted from 0 at the lowest
-- present_of    the whole of a replay's own data
-- held          that, with the lists of its buffer
use Rattle.std.specs.Prelude.{ℕ, ◌/◌, ◌%◌, ◌^◌, Bool, List, [], map, vec_items, ◌==◌, slice_index, slice_index_or}
use Rattle.std.specs.Option.{option_map}
use Rattle.buffers.specs.Lists.{Lists}
use Rattle.ledger.specs.Actions.{Access as Access', loads, none, stores}
use Rattle.ledger.specs.Ledgers.{Local, start_local}
use Rattle.ledger.specs.Moves.{Read}
use Rattle.present.specs.Data.{Held, Noted, Present, untouched}
use Rattle.replay.specs.Names.{source_of}
use Rattle.replay.specs.declared.actions.Access.{Access}
use Rattle.replay.specs.declared.actions.Access.TheVariants.{Nothing, Stores, Loads}
use Rattle.replay.specs.declared.actions.Action.{Action}
use Rattle.replay.specs.declared.actions.Cell.{Cell}
use Rattle.replay.specs.declared.state.State.{State}
use Rattle.replay.specs.declared.thread.Thread.{Thread}

abbrev pub access_of : Access → Access'
access_of Nothing = none
access_of (Stores cell) = stores cell
access_of (Loads cell source) = loads cell (source_of source)

abbrev pub noted_of : Action → Noted
noted_of a = record { action = record { line = a.line; value = a.value; access = access_of a.access }; over = option_map source_of a.over }

abbrev pub read_of : Cell → Read
read_of c = record { source = source_of c.last; value = c.value }

abbrev pub local_of : Thread → Local
local_of t = record { label = t.label; registers = λ r. slice_index t.registers r }

abbrev pub noted_in : Thread → List Noted
noted_in t = map noted_of (vec_items t.actions)

abbrev pub has_bit : ℕ → ℕ → Bool
has_bit k n = n / 2 ^ k % 2 == 1

abbrev pub present_of : State → Present
present_of s = record {
  locals = λ t. slice_index_or (map local_of s.threads) t start_local;
  memory = λ c. slice_index_or (map read_of s.cells) c untouched;
  noted = λ t. slice_index_or (map noted_in s.threads) t [];
  delayed = λ t. has_bit t s.delayed;
}

abbrev pub held : Lists → State → Held
held lists s = record { own = present_of s; lists = lists }
