-- How a move is written out, as bytes.
-- move_text m    a word for the move, then its thread and its instruction or cell, one space between parts
use Rattle.std.specs.Prelude.{ℕ, List, ◌++◌, codes, decimal}
use Rattle.ledger.specs.declared.moves.Move.{Move}
use Rattle.ledger.specs.declared.moves.Move.TheVariants.{Run, Drain}

abbrev pub move_text : Move → List ℕ
move_text (Run t n) = codes "run " ++ (decimal t ++ (codes " " ++ decimal n))
move_text (Drain t c) = codes "drain " ++ (decimal t ++ (codes " " ++ decimal c))
