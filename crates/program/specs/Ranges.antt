-- in_range l        every field of the line l is in its range
use Rattle.std.specs.Prelude.{ℕ, Bool, true, ◌&&◌, nat_lt}
use Rattle.program.specs.declared.forms.Operand.{Operand}
use Rattle.program.specs.declared.forms.Operand.TheVariants.{Register, Constant}
use Rattle.program.specs.declared.forms.Instruction.{Instruction}
use Rattle.program.specs.declared.forms.Instruction.TheVariants.{Load, Store, Fence, Compute, Assert}
use Rattle.program.specs.declared.lines.Line.{Line}

-- a thread, and a register of a thread, are one of eight
abbrev pub one_of_eight : ℕ → Bool
one_of_eight n = nat_lt n 8

-- a label is one of 64
abbrev pub is_label : ℕ → Bool
is_label n = nat_lt n 64

-- a constant may be any number of 32 bits
abbrev pub operand_in_range : Operand → Bool
operand_in_range (Register r) = one_of_eight r
operand_in_range (Constant c) = true

abbrev pub instruction_in_range : Instruction → Bool
instruction_in_range (Load register address) = one_of_eight register && operand_in_range address
instruction_in_range (Store address value) = operand_in_range address && operand_in_range value
instruction_in_range Fence = true
instruction_in_range (Compute register operation a b) = one_of_eight register && (operand_in_range a && operand_in_range b)
instruction_in_range (Assert condition) = operand_in_range condition

abbrev pub in_range : Line → Bool
in_range l = one_of_eight l.thread && (is_label l.label && (is_label l.next && instruction_in_range l.instruction))
