-- What offering a move answers and leaves, over what the replay holds now.
-- Offered        the answer to a move, and what the replay holds after it
-- Acted          the action of an instruction, or why it is refused, and what the replay holds then. Only private calls speak of it
-- ActedAlone     the same for the forms that leave the buffer alone
use Rattle.std.specs.Prelude.{◌≡◌, ℕ, List, Some, None, Ok, Err, Result}
use Rattle.refusal.specs.declared.Refusal.{Refusal}
use Rattle.program.specs.declared.forms.Instruction.{Instruction}
use Rattle.program.specs.declared.lines.Line.{Line}
use Rattle.buffers.specs.Laws.{Rules}
use Rattle.ledger.specs.Actions.{Action as Action'}
use Rattle.ledger.specs.Moves.{act, asked}
use Rattle.ledger.specs.declared.moves.Move.{Move}
use Rattle.present.specs.Calls.{after_offer_held, form_tested_held, found_in, outcome_held, put_in}
use Rattle.present.specs.Data.{Held}
use Rattle.replay.specs.Views.{noted_of}
use Rattle.replay.specs.declared.actions.Action.{Action}

pub record Offered (rules : Rules) (ls : List Line) (before : Held) (m : Move) (answer : Result ℕ Refusal) (after : Held) : Type 0 where
  pub value : answer ≡ outcome_held rules ls before m
  pub held : after ≡ after_offer_held rules ls before m

-- the action of the instruction
abbrev pub acting : Held → ℕ → ℕ → Instruction → Action'
acting h t n i = let rs = (h.own.locals t).registers in act rs n i (found_in h t (asked rs i))

abbrev pub ActedAlone : Held → ℕ → ℕ → Instruction → Result Action Refusal → Type 0
ActedAlone h t n i (Ok a) = (form_tested_held h t i ≡ None) × (noted_of a ≡ record { action = acting h t n i; over = None })
ActedAlone h t n i (Err r) = form_tested_held h t i ≡ Some r

abbrev pub put_by : Held → ℕ → Action' → Held
put_by h t a = record { own = h.own; lists = put_in h.lists t a.value a.access }

abbrev pub held_after : Held → ℕ → ℕ → Instruction → Result Action Refusal → Held
held_after h t n i (Ok a) = put_by h t (acting h t n i)
held_after h t n i (Err r) = h

pub record Acted (before : Held) (t n : ℕ) (i : Instruction) (answer : Result Action Refusal) (after : Held) : Type 0 where
  pub alone : ActedAlone before t n i answer
  pub held : after ≡ held_after before t n i answer
