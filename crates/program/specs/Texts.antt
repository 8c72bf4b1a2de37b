-- How a program is written out, as bytes.
-- line_text         thread, label and next label, then the instruction
-- instruction_text  a word for the form, then what it works on, one space between parts
-- operand_text      a register is the letter r and its number, a constant its number
-- operation_text    a word for each operation
-- unknown_text      that a number names no operation
use Rattle.std.specs.Prelude.{ℕ, List, ◌++◌, codes, decimal}
use Rattle.program.specs.declared.operations.Operation.{Operation}
use Rattle.program.specs.declared.operations.Operation.TheVariants.{Sum, Difference, And, ExclusiveOr, Equal, Less}
use Rattle.program.specs.declared.operations.UnknownOperation.{UnknownOperation}
use Rattle.program.specs.declared.forms.Operand.{Operand}
use Rattle.program.specs.declared.forms.Operand.TheVariants.{Register, Constant}
use Rattle.program.specs.declared.forms.Instruction.{Instruction}
use Rattle.program.specs.declared.forms.Instruction.TheVariants.{Load, Store, Fence, Compute, Assert}
use Rattle.program.specs.declared.lines.Line.{Line}

abbrev pub operation_text : Operation → List ℕ
operation_text Sum = codes "add"
operation_text Difference = codes "sub"
operation_text And = codes "and"
operation_text ExclusiveOr = codes "xor"
operation_text Equal = codes "eq"
operation_text Less = codes "less"

abbrev pub operand_text : Operand → List ℕ
operand_text (Register r) = codes "r" ++ decimal r
operand_text (Constant c) = decimal c

abbrev pub instruction_text : Instruction → List ℕ
instruction_text (Load register address) = codes "load r" ++ (decimal register ++ (codes " " ++ operand_text address))
instruction_text (Store address value) = codes "store " ++ (operand_text address ++ (codes " " ++ operand_text value))
instruction_text Fence = codes "fence"
instruction_text (Compute register operation a b) = codes "set r" ++ (decimal register ++ (codes " " ++ (operation_text operation ++ (codes " " ++ (operand_text a ++ (codes " " ++ operand_text b))))))
instruction_text (Assert condition) = codes "assert " ++ operand_text condition

abbrev pub line_text : Line → List ℕ
line_text l = decimal l.thread ++ (codes " " ++ (decimal l.label ++ (codes " " ++ (decimal l.next ++ (codes " " ++ instruction_text l.instruction)))))

abbrev pub unknown_text : UnknownOperation → List ℕ
unknown_text u = codes "no operation has the number " ++ decimal u.number
