-- What a recording means.
-- operand_at        an operand by its tag: one of eight registers, or a constant
-- line_at           the line that an instruction's fields say, if its form, operation and tags are known and every field that the form
--                   does not use is 0
-- move_of           the move that a record offers, if it offers one
-- records           the records of a recording, one after another; where one is at fault, its refusal ends them
-- Phase             how far a recording has come: nothing yet; the setup and some lines; those and some moves
-- stepped           the phase after one record more, or the refusal: its place, then what the program or the replay says to it
-- Reading           the first fault, with the number of its record and the byte where that starts; or setup, lines and moves, and how many
--                   records there were
-- reading           what the recording of these bytes means
-- rules_of          the rules of the store buffer that a setup names
use Rattle.std.specs.Prelude.{ℕ, zero, suc, ◌+◌, Bool, cond, ◌&&◌, List, [], ◌∷◌, ◌++◌, map, length, drop, Some, None, Ok, Err, Option, Result, ◌==◌, nat_le, nat_lt}
use Rattle.refusal.specs.declared.Refusal.{Refusal}
use Rattle.refusal.specs.declared.Refusal.TheVariants.{ProgramFull, FieldOutOfRange, RecordOutOfPlace}
use Rattle.program.specs.Operations.{numbered}
use Rattle.program.specs.Ranges.{in_range}
use Rattle.program.specs.declared.forms.Instruction.{Instruction}
use Rattle.program.specs.declared.forms.Instruction.TheVariants.{Load, Store, Fence, Compute, Assert}
use Rattle.program.specs.declared.forms.Operand.{Operand}
use Rattle.program.specs.declared.forms.Operand.TheVariants.{Register, Constant}
use Rattle.program.specs.declared.lines.Line.{Line}
use Rattle.program.specs.declared.operations.Operation.{Operation}
use Rattle.buffers.specs.Kinds.{direct, per_cell, queue, strong}
use Rattle.buffers.specs.Laws.{Rules}
use Rattle.ledger.specs.Moves.{ledger_of}
use Rattle.ledger.specs.Tests.{tested}
use Rattle.ledger.specs.declared.moves.Move.{Move}
use Rattle.ledger.specs.declared.moves.Move.TheVariants.{Run as Runs, Drain as Drains}
use Rattle.replay.specs.Views.{has_bit}
use Rattle.recording.specs.Layout.{first_record, size}
use Rattle.recording.specs.declared.records.Fields.{Fields}
use Rattle.recording.specs.declared.records.Kind.{Kind}
use Rattle.recording.specs.declared.records.Kind.TheVariants.{Direct, Queue, PerCell}
use Rattle.recording.specs.declared.records.Record.{Record}
use Rattle.recording.specs.declared.records.Record.TheVariants.{Setup, Instruction as Added, Run, Drain}
use Rattle.recording.specs.declared.records.Setup.{Setup as Setup'}

abbrev pub operand_at : ℕ → ℕ → Option Operand
operand_at zero v = cond (nat_lt v 8) (Some (Register v)) None
operand_at (suc zero) v = Some (Constant v)
operand_at (suc (suc tag)) v = None

abbrev pub operation_at : ℕ → Option Operation
operation_at n = numbered n

-- the field is not used, and is 0
abbrev pub unused : ℕ → Bool
unused n = n == 0

-- by the operands that the form uses
abbrev pub with_one : Option Operand → (Operand → Instruction) → Option Instruction
with_one None form = None
with_one (Some a) form = Some (form a)

abbrev pub with_two : Option Operand → Option Operand → (Operand → Operand → Instruction) → Option Instruction
with_two None b form = None
with_two (Some a) None form = None
with_two (Some a) (Some b) form = Some (form a b)

abbrev pub computed : Option Operation → Fields → Option Instruction
computed None f = None
computed (Some o) f = with_two (operand_at f.tag_a f.a) (operand_at f.tag_b f.b) (Compute f.register o)

abbrev pub no_b : Fields → Bool
no_b f = unused f.tag_b && unused f.b

abbrev pub instruction_at : ℕ → Fields → Option Instruction
instruction_at zero f = cond (unused f.operation && no_b f) (with_one (operand_at f.tag_a f.a) (Load f.register)) None
instruction_at (suc zero) f =
    cond (unused f.register && unused f.operation) (with_two (operand_at f.tag_a f.a) (operand_at f.tag_b f.b) Store) None
instruction_at (suc (suc zero)) f =
    cond (unused f.register && (unused f.operation && (unused f.tag_a && (unused f.a && no_b f)))) (Some Fence) None
instruction_at (suc (suc (suc zero))) f = computed (operation_at f.operation) f
instruction_at (suc (suc (suc (suc zero)))) f =
    cond (unused f.register && (unused f.operation && no_b f)) (with_one (operand_at f.tag_a f.a) Assert) None
instruction_at (suc (suc (suc (suc (suc n))))) f = None

abbrev pub lined : Fields → Option Instruction → Option Line
lined f None = None
lined f (Some i) = Some (record { thread = f.thread; label = f.label; next = f.next; instruction = i })

abbrev pub line_at : Fields → Option Line
line_at f = lined f (instruction_at f.form f)

-- as adding a line: full, then a field out of range
abbrev pub line_tested : List Line → Option Line → Result (List Line) Refusal
line_tested ls None = cond (nat_le 128 (length ls)) (Err ProgramFull) (Err FieldOutOfRange)
line_tested ls (Some l) = cond (nat_le 128 (length ls)) (Err ProgramFull) (cond (in_range l) (Ok (ls ++ l ∷ [])) (Err FieldOutOfRange))

-- the first record of a recording, and what follows it; n is at least as many as there are records
abbrev pub records_in : ℕ → List ℕ → List (Result Record Refusal)
records_in zero bs = []
records_in (suc n) [] = []
records_in (suc n) (b ∷ bs) =
    elim (first_record (b ∷ bs)) [
      | Err refusal ↦ Err refusal ∷ []
      | Ok r ↦ Ok r ∷ records_in n (drop (size r) (b ∷ bs))
    ]

abbrev pub records : List ℕ → List (Result Record Refusal)
records bs = records_in (length bs) bs

-- the sixteen cells, each strong or not
abbrev pub cells : List ℕ
cells = 0 ∷ 1 ∷ 2 ∷ 3 ∷ 4 ∷ 5 ∷ 6 ∷ 7 ∷ 8 ∷ 9 ∷ 10 ∷ 11 ∷ 12 ∷ 13 ∷ 14 ∷ 15 ∷ []

abbrev pub chosen_by : ℕ → List Bool
chosen_by mask = map (λ c. has_bit c mask) cells

abbrev pub kind_rules : Kind → Rules
kind_rules Direct = direct
kind_rules Queue = queue
kind_rules PerCell = per_cell

abbrev pub rules_of : Setup' → Rules
rules_of s = strong (chosen_by s.strong) (kind_rules s.kind)

abbrev pub move_of : Record → Option Move
move_of (Setup s) = None
move_of (Added f) = None
move_of (Run t n) = Some (Runs t n)
move_of (Drain t c) = Some (Drains t c)

pub data Phase : Type 0 where
  begun : Phase
  adding : Setup' → List Line → Phase
  moving : Setup' → List Line → List Move → Phase

abbrev pub added : Setup' → Result (List Line) Refusal → Result Phase Refusal
added s (Err r) = Err r
added s (Ok ls) = Ok (adding s ls)

abbrev pub moved_by : Setup' → List Line → List Move → Move → Option Refusal → Result Phase Refusal
moved_by s ls ms m None = Ok (moving s ls (ms ++ m ∷ []))
moved_by s ls ms m (Some r) = Err r

abbrev pub moved : Setup' → List Line → List Move → Move → Result Phase Refusal
moved s ls ms m = moved_by s ls ms m (tested (rules_of s) ls (ledger_of ls ms) m)

abbrev pub stepped : Phase → Record → Result Phase Refusal
stepped begun (Setup s) = Ok (adding s [])
stepped begun (Added f) = Err RecordOutOfPlace
stepped begun (Run t n) = Err RecordOutOfPlace
stepped begun (Drain t c) = Err RecordOutOfPlace
stepped (adding s ls) (Setup again) = Err RecordOutOfPlace
stepped (adding s ls) (Added f) = added s (line_tested ls (line_at f))
stepped (adding s ls) (Run t n) = moved s ls [] (Runs t n)
stepped (adding s ls) (Drain t c) = moved s ls [] (Drains t c)
stepped (moving s ls ms) (Setup again) = Err RecordOutOfPlace
stepped (moving s ls ms) (Added f) = Err RecordOutOfPlace
stepped (moving s ls ms) (Run t n) = moved s ls ms (Runs t n)
stepped (moving s ls ms) (Drain t c) = moved s ls ms (Drains t c)

pub data Reading : Type 0 where
  fault : Refusal → (record_number byte_number : ℕ) → Reading
  whole : Setup' → List Line → List Move → (how_many : ℕ) → Reading

abbrev pub ended : Phase → ℕ → Reading
ended begun n = fault RecordOutOfPlace 0 0
ended (adding s ls) n = whole s ls [] n
ended (moving s ls ms) n = whole s ls ms n

-- from a phase on, n records and b bytes into the recording
abbrev pub read_from : Phase → ℕ → ℕ → List (Result Record Refusal) → Reading
read_from phase n b [] = ended phase n
read_from phase n b (Err r ∷ rs) = fault r n b
read_from phase n b (Ok r ∷ rs) = elim (stepped phase r) [ Err refusal ↦ fault refusal n b | Ok next ↦ read_from next (n + 1) (b + size r) rs ]

abbrev pub reading : List ℕ → Reading
reading bs = read_from begun 0 0 (records bs)
