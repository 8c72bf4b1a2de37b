-- What the replay's own data answer and become, call by call. Only private calls speak of it.
-- IsThread      what is kept of a thread is what the data have at that number
-- next_line     the line that a thread is to run, or why it may not, as far as its own data say
-- Turned        the turn of a thread that is to run a line, or why it may not
-- noted_ran     the data once an action is kept, and whether its thread delayed a store by it
use Rattle.std.specs.Prelude.{◌≡◌, ℕ, Bool, cond, not, ◌||◌, List, [], ◌∷◌, ◌++◌, Some, None, Ok, Err, Option, Result, ◌==◌, nat_le}
use Rattle.std.specs.List.{slice_get}
use Rattle.refusal.specs.declared.Refusal.{Refusal}
use Rattle.refusal.specs.declared.Refusal.TheVariants.{ThreadOutOfRange, NoSuchInstruction, AtAnotherLabel, RunFull}
use Rattle.program.specs.declared.lines.Line.{Line}
use Rattle.ledger.specs.Ledgers.{update}
use Rattle.ledger.specs.Moves.{ran}
use Rattle.present.specs.Data.{Noted, Present, how_many_in}
use Rattle.replay.specs.Views.{local_of, noted_in}
use Rattle.replay.specs.declared.thread.Thread.{Thread}
use Rattle.replay.specs.declared.turn.Turn.{Turn}

pub record IsThread (own : Present) (t : ℕ) (thread : Thread) : Type 0 where
  pub local : local_of thread ≡ own.locals t
  pub noted : noted_in thread ≡ own.noted t

abbrev pub line_at : Present → ℕ → Option Line → Result Line Refusal
line_at own t None = Err NoSuchInstruction
line_at own t (Some line) =
    cond (not (line.thread == t)) (Err NoSuchInstruction)
    (cond (not (line.label == (own.locals t).label)) (Err AtAnotherLabel)
    (cond (nat_le 256 (how_many_in own)) (Err RunFull) (Ok line)))

abbrev pub next_line : Present → List Line → ℕ → ℕ → Result Line Refusal
next_line own ls t n = cond (nat_le 8 t) (Err ThreadOutOfRange) (line_at own t (slice_get ls n))

pub record TurnOf (own : Present) (ls : List Line) (t n : ℕ) (turn : Turn) : Type 0 where
  pub line : next_line own ls turn.thread turn.number ≡ Ok turn.line
  pub thread : turn.thread ≡ t
  pub number : turn.number ≡ n

abbrev pub Turned : Present → List Line → ℕ → ℕ → Result Turn Refusal → Type 0
Turned own ls t n (Ok turn) = TurnOf own ls t n turn
Turned own ls t n (Err r) = next_line own ls t n ≡ Err r

abbrev pub noted_ran : Present → ℕ → Line → Noted → Bool → Present
noted_ran own t line x delays = record {
  locals = update own.locals t (ran line x.action.value (own.locals t));
  memory = own.memory;
  noted = update own.noted t (own.noted t ++ x ∷ []);
  delayed = update own.delayed t (own.delayed t || delays);
}
