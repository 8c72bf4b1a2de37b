-- The tests of an offered move, in their order, over the ledger and a kind's rules.
-- guard b r rest     refused by r where b holds, else as the rest says
-- lists_in l         the waiting stores of the eight threads, as a kind's rules take them
-- how_many l         the number of actions
-- tested             the refusal of a move, if it is refused
-- Passes             it is not
use Rattle.std.specs.Prelude.{◌≡◌, ℕ, ◌+◌, Bool, true, false, not, List, [], ◌∷◌, map, length, Some, None, Option, ◌==◌, nat_le}
use Rattle.std.specs.List.{slice_get}
use Rattle.refusal.specs.declared.Refusal.{Refusal}
use Rattle.refusal.specs.declared.Refusal.TheVariants.{ThreadOutOfRange, NoSuchInstruction, AtAnotherLabel, RunFull, ThreadNotFree, FenceBeforeDrain, CellOutOfRange, AssertFailed, BufferFull, DrainNotFree}
use Rattle.program.specs.declared.forms.Instruction.{Instruction}
use Rattle.program.specs.declared.forms.Instruction.TheVariants.{Load, Store, Fence, Compute, Assert}
use Rattle.program.specs.declared.lines.Line.{Line}
use Rattle.buffers.specs.Laws.{Rules}
use Rattle.buffers.specs.Lists.{Lists}
use Rattle.ledger.specs.Ledgers.{Ledger, operand}
use Rattle.ledger.specs.declared.moves.Move.{Move}
use Rattle.ledger.specs.declared.moves.Move.TheVariants.{Run, Drain}

abbrev pub guard : Bool → Refusal → Option Refusal → Option Refusal
guard true r rest = Some r
guard false r rest = rest

abbrev pub threads : List ℕ
threads = 0 ∷ 1 ∷ 2 ∷ 3 ∷ 4 ∷ 5 ∷ 6 ∷ 7 ∷ []

abbrev pub lists_in : Ledger → Lists
lists_in l = map (λ t. map (λ e. e.store) (l.waiting t)) threads

abbrev pub sum_over : (ℕ → ℕ) → List ℕ → ℕ
sum_over f [] = 0
sum_over f (t ∷ ts) = f t + sum_over f ts

abbrev pub how_many : Ledger → ℕ
how_many l = sum_over (λ t. length (l.actions t)) threads

-- the tests of each form, over the registers and the number of stores of the thread that wait
abbrev pub form_tested : (ℕ → ℕ) → ℕ → Instruction → Option Refusal
form_tested rs waiting (Load register address) = guard (nat_le 16 (operand rs address)) CellOutOfRange None
form_tested rs waiting (Store address value) = guard (nat_le 16 (operand rs address)) CellOutOfRange (guard (nat_le 16 waiting) BufferFull None)
form_tested rs waiting Fence = guard (nat_le 1 waiting) FenceBeforeDrain None
form_tested rs waiting (Compute register operation a b) = None
form_tested rs waiting (Assert condition) = guard (operand rs condition == 0) AssertFailed None

-- the tests of a run from the fourth refusal on: that there is such an instruction, and that it is the thread's
abbrev pub line_tested : Rules → Ledger → ℕ → Option Line → Option Refusal
line_tested rules l t None = Some NoSuchInstruction
line_tested rules l t (Some line) =
    guard (not (line.thread == t)) NoSuchInstruction
    (guard (not (line.label == (l.locals t).label)) AtAnotherLabel
    (guard (nat_le 256 (how_many l)) RunFull
    (guard (not (rules.steps (lists_in l) t)) ThreadNotFree
    (form_tested (l.locals t).registers (length (l.waiting t)) line.instruction))))

abbrev pub tested : Rules → List Line → Ledger → Move → Option Refusal
tested rules ls l (Run t n) = guard (nat_le 8 t) ThreadOutOfRange (line_tested rules l t (slice_get ls n))
tested rules ls l (Drain t c) = guard (nat_le 8 t) ThreadOutOfRange (guard (nat_le 16 c) CellOutOfRange (guard (not (rules.drains (lists_in l) t c)) DrainNotFree None))

abbrev pub Passes : Rules → List Line → Ledger → Move → Type 0
Passes rules ls l m = tested rules ls l m ≡ None
