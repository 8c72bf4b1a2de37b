-- Where a replay stands, and where its calls leave it. No call changes the rules of the buffer or the lines of the program.
-- Standing       the rules of the buffer, the lines of the program, and what is held
-- standing       where a replay stands
-- Fresh          a replay of these lines under these rules at its start
-- Moved          what offering a move answers, and where it leaves the replay
-- ActedOn        what acting on an instruction answers, and where it leaves the replay. Only private calls speak of it
-- AnsweredOn     the same of any call of a list. Only private calls speak of it
use Rattle.std.specs.Prelude.{◌≡◌, ℕ, List, Result}
use Rattle.refusal.specs.declared.Refusal.{Refusal}
use Rattle.program.specs.Programs.{lines_of}
use Rattle.program.specs.declared.forms.Instruction.{Instruction}
use Rattle.program.specs.declared.lines.Line.{Line}
use Rattle.buffers.specs.Laws.{Rules}
use Rattle.buffers.specs.declared.meaning.StoreBuffer.{Ghosts}
use Rattle.ledger.specs.declared.moves.Move.{Move}
use Rattle.present.specs.Data.{Held, fresh_held}
use Rattle.replay.specs.Offers.{Acted, Offered}
use Rattle.replay.specs.Performed.{Answered}
use Rattle.replay.specs.Views.{held}
use Rattle.replay.specs.declared.actions.Action.{Action}
use Rattle.replay.specs.declared.calls.Answer.{Answer}
use Rattle.replay.specs.declared.calls.Call.{Call}
use Rattle.replay.specs.declared.replaying.Replay.{Replay}

pub record Standing : Type 0 where
  pub rules : Rules
  pub lines : List Line
  pub held : Held

-- by what its kind of buffer means
abbrev pub standing : {B : Type 0} → Ghosts B → Replay B → Standing
standing kind r = record { rules = kind.rules r.buffer; lines = lines_of r.program; held = held (kind.lists r.buffer) r.state }

pub record Fresh (kind : Rules) (ls : List Line) (s : Standing) : Type 0 where
  pub held : s.held ≡ fresh_held
  pub rules : s.rules ≡ kind
  pub program : s.lines ≡ ls

pub record Moved (before : Standing) (m : Move) (told : Result ℕ Refusal) (after : Standing) : Type 0 where
  pub answer : Offered before.rules before.lines before.held m told after.held
  pub rules : after.rules ≡ before.rules
  pub program : after.lines ≡ before.lines

pub record ActedOn (before : Standing) (t n : ℕ) (i : Instruction) (told : Result Action Refusal) (after : Standing) : Type 0 where
  pub action : Acted before.held t n i told after.held
  pub rules : after.rules ≡ before.rules
  pub program : after.lines ≡ before.lines

pub record AnsweredOn (before : Standing) (c : Call) (a : Answer) (after : Standing) : Type 0 where
  pub answer : Answered before.rules before.lines before.held c a after.held
  pub rules : after.rules ≡ before.rules
  pub program : after.lines ≡ before.lines
