-- What is proved of the moves of a recording.
-- AcceptedMoves     where a recording is read to its end, each of its moves passes the ledger's tests in its turn, from the start on, under
--                   the rules of the store buffer that its setup names
use Rattle.std.specs.Prelude.{◌≡◌, ℕ, List}
use Rattle.program.specs.declared.lines.Line.{Line}
use Rattle.ledger.specs.Ledgers.{start}
use Rattle.ledger.specs.Runs.{Accepted}
use Rattle.ledger.specs.declared.moves.Move.{Move}
use Rattle.recording.specs.Meaning.{reading, rules_of, whole}
use Rattle.recording.specs.declared.records.Setup.{Setup}

abbrev pub AcceptedMoves : Type 0
AcceptedMoves = (bs : List ℕ) (s : Setup) (ls : List Line) (ms : List Move) (n : ℕ) → reading bs ≡ whole s ls ms n → Accepted (rules_of s) ls start ms
