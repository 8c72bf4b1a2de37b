-- What the reading call answers.
-- faulty         the fault of a recording that is judged into a list of so many places: its first fault as it is read, or why the judgement of
--                its moves is refused, then with the count of records and the length
-- TrulyRead      a verdict with these names is true of the recording: judging its moves is not refused, and the verdict is true of them, in
--                the ledger's terms, for the recording's program
-- ReadAs         what the call answers and leaves in the list: a true verdict, with its names at the front and the rest as before; the
--                fault, and the list as before; or want of memory, and the list as before
use Rattle.std.specs.Prelude.{◌≡◌, ℕ, ◌≤◌, List, map, length, take, drop, Some, None, Ok, Err, Option, Result}
use Rattle.std.specs.Option.{option_map}
use Rattle.refusal.specs.declared.Refusal.{Refusal}
use Rattle.ledger.specs.Actions.{Name as Name'}
use Rattle.ledger.specs.Judgements.{judge_tested}
use Rattle.ledger.specs.Moves.{ledger_of}
use Rattle.replay.specs.Names.{name_of}
use Rattle.replay.specs.Truth.{TrueVerdict}
use Rattle.replay.specs.declared.names.Name.{Name}
use Rattle.replay.specs.declared.verdicts.Verdict.{Verdict}
use Rattle.recording.specs.Meaning.{Reading, fault, whole}
use Rattle.recording.specs.declared.faults.Failure.{Failure}
use Rattle.recording.specs.declared.faults.Failure.TheVariants.{At, Memory}
use Rattle.recording.specs.declared.faults.Fault.{Fault}

abbrev pub fault_at : Refusal → ℕ → ℕ → Fault
fault_at r n b = record { refusal = r; place = record { index = n; byte = b } }

abbrev pub faulty : Reading → (bytes places : ℕ) → Option Fault
faulty (fault r n b) bytes places = Some (fault_at r n b)
faulty (whole s ls ms n) bytes places = option_map (λ r. fault_at r n bytes) (judge_tested (ledger_of ls ms) places)

abbrev pub TrulyRead : Reading → (places : ℕ) → Verdict → List Name' → Type 0
TrulyRead (fault r n b) places v names = ⊥
TrulyRead (whole s ls ms n) places v names = (judge_tested (ledger_of ls ms) places ≡ None) × TrueVerdict ls ms v names

pub record WrittenAs (read : Reading) (before : List Name) (v : Verdict) (after : List Name) : Type 0 where
  pub true_of : TrulyRead read (length before) v (map name_of (take v.entries after))
  pub within : v.entries ≤ length after
  pub later : drop v.entries after ≡ drop v.entries before

abbrev pub ReadAs : Reading → (bytes : ℕ) → List Name → Result Verdict Failure → List Name → Type 0
ReadAs read bytes before (Ok v) after = WrittenAs read before v after
ReadAs read bytes before (Err (At f)) after = (faulty read bytes (length before) ≡ Some f) × (after ≡ before)
ReadAs read bytes before (Err Memory) after = after ≡ before
