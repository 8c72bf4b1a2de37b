-- lines_of p        the lines of the program p, in the order in which they were added
-- Added             what adding a line answers, and the lines afterwards
use Rattle.std.specs.Prelude.{◌≡◌, ℕ, cond, List, [], ◌∷◌, ◌++◌, length, Ok, Err, vec_items, Result, nat_le}
use Rattle.refusal.specs.declared.Refusal.{Refusal}
use Rattle.refusal.specs.declared.Refusal.TheVariants.{ProgramFull, FieldOutOfRange}
use Rattle.program.specs.declared.lines.Line.{Line}
use Rattle.program.specs.declared.table.Program.{Program}
use Rattle.program.specs.Ranges.{in_range}

abbrev pub lines_of : Program → List Line
lines_of p = vec_items p.lines

-- A full program refuses every line, any other the lines with a field out of range; a refusal leaves the lines as
-- they were. A line that is taken comes last, and its number is how many there were before it.
abbrev pub answer_to_adding : List Line → Line → Result ℕ Refusal
answer_to_adding ls l = cond (nat_le 128 (length ls)) (Err ProgramFull) (cond (in_range l) (Ok (length ls)) (Err FieldOutOfRange))

abbrev pub lines_after : List Line → Line → Result ℕ Refusal → List Line
lines_after ls l (Ok n) = ls ++ l ∷ []
lines_after ls l (Err e) = ls

pub record Added (before : List Line) (l : Line) (answer : Result ℕ Refusal) (after : List Line) : Type 0 where
  pub value : answer ≡ answer_to_adding before l
  pub lines : after ≡ lines_after before l answer
