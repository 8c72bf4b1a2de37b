-- Runs, and which of them are sequentially consistent.
-- Accepted rules ls l ms   each of the moves passes the tests in its turn, from the ledger l on
-- NothingWaits l           no store of any thread waits
-- SequentialRun ls ms      a sequentially consistent run of the program: each move is accepted from the start under direct's
--                          rules, and nothing waits after the last
use Rattle.std.specs.Prelude.{◌≡◌, ℕ, List, [], ◌∷◌}
use Rattle.program.specs.declared.lines.Line.{Line}
use Rattle.buffers.specs.Kinds.{direct}
use Rattle.buffers.specs.Laws.{Rules}
use Rattle.ledger.specs.Ledgers.{Ledger, start}
use Rattle.ledger.specs.Moves.{after_move, ledger_of}
use Rattle.ledger.specs.Tests.{Passes}
use Rattle.ledger.specs.declared.moves.Move.{Move}

abbrev pub Accepted : Rules → List Line → Ledger → List Move → Type 0
Accepted rules ls l [] = Unit {0}
Accepted rules ls l (m ∷ ms) = Passes rules ls l m × Accepted rules ls (after_move ls l m) ms

abbrev pub NothingWaits : Ledger → Type 0
NothingWaits l = (t : ℕ) → l.waiting t ≡ []

pub record SequentialRun (ls : List Line) (ms : List Move) : Type 0 where
  pub accepted : Accepted direct ls start ms
  pub drained : NothingWaits (ledger_of ls ms)
