-- Where a thread stands, and its registers, by its actions alone.
use Rattle.std.proofs.Common.{◌≡◌, ℕ, Bool, true, false, leb, List, [], ◌∷◌, ◌++◌, Some, None, Option, refl}
use Rattle.std.specs.List.{slice_get}
use Rattle.refusal.specs.declared.Refusal.TheVariants.{CellOutOfRange, BufferFull}
use Rattle.program.specs.declared.forms.Instruction.{Instruction}
use Rattle.program.specs.declared.forms.Instruction.TheVariants.{Load, Store, Fence, Compute, Assert}
use Rattle.program.specs.declared.lines.Line.{Line}
use Rattle.ledger.specs.Actions.{Action}
use Rattle.ledger.specs.Ledgers.{Local, operand, start_local}
use Rattle.ledger.specs.Moves.{Read, act, ran}
use Rattle.ledger.specs.Tests.{form_tested, guard}

-- where the thread stands after one action more
abbrev pub moved : Option Line → ℕ → Local → Local
moved None v here = here
moved (Some line) v here = ran line v here

module _ (ls : List Line) where
  abbrev pub local_from : Local → List Action → Local
  local_from here [] = here
  local_from here (a ∷ acts) = local_from (moved (slice_get ls a.line) a.value here) acts

  -- where it stands after these actions
  abbrev pub local : List Action → Local
  local acts = local_from start_local acts

  local_from_push : (here : Local) (acts : List Action) (a : Action) → local_from here (acts ++ a ∷ []) ≡ moved (slice_get ls a.line) a.value (local_from here acts)
  local_from_push here [] a = refl
  local_from_push here (b ∷ acts) a = local_from_push (moved (slice_get ls b.line) b.value here) acts a

  pub local_push : (acts : List Action) (a : Action) → local (acts ++ a ∷ []) ≡ moved (slice_get ls a.line) a.value (local acts)
  local_push acts a = local_from_push start_local acts a

  -- The action a is what its line does in the thread t, where the thread stands as given. What a load finds is left open.
  pub record Right (t : ℕ) (here : Local) (a : Action) : Type 0 where
    pub line : Line
    pub there : slice_get ls a.line ≡ Some line
    pub thread : line.thread ≡ t
    pub label : line.label ≡ here.label
    pub found : Read
    pub acts : a ≡ act here.registers a.line line.instruction found
    pub passes : form_tested here.registers 0 line.instruction ≡ None

-- The number of an action's line.
pub act_line : (rs : ℕ → ℕ) (n : ℕ) (i : Instruction) (found : Read) → (act rs n i found).line ≡ n
act_line rs n (Load register address) found = refl
act_line rs n (Store address value) found = refl
act_line rs n Fence found = refl
act_line rs n (Compute register operation a b) found = refl
act_line rs n (Assert condition) found = refl

-- A form that passes its tests while stores wait passes them where none waits.
pub passes_empty : (rs : ℕ → ℕ) (w : ℕ) (i : Instruction) → form_tested rs w i ≡ None → form_tested rs 0 i ≡ None
passes_empty rs w (Load register address) passed = passed
passes_empty rs w (Store address value) passed = go (leb 16 (operand rs address)) passed
  where
    go : (b : Bool) → guard b CellOutOfRange (guard (leb 16 w) BufferFull None) ≡ None → guard b CellOutOfRange None ≡ None
    go true e = e
    go false e = refl
passes_empty rs w Fence passed = refl
passes_empty rs w (Compute register operation a b) passed = refl
passes_empty rs w (Assert condition) passed = passed
