-- How a recording is read, record by record. Only private calls speak of it.
-- past_of        the place behind a record
-- placed_at      what was answered of the record at a place, where a refusal is told with the place
-- Peeked         the record at a place, if there is one
-- AtFault        a reading is at that fault
-- Starts         the recording begins with that setup, and its meaning goes on at that place
-- LineAdded      what adding the line of a record's fields answers and leaves
-- Adds           the instructions from a place on were added, the meaning goes on with moves behind them; or one is at fault
use Rattle.std.specs.Prelude.{◌≡◌, ℕ, ◌+◌, ◌≤◌, List, [], ◌∷◌, length, drop, Some, None, Ok, Err, Option, Result}
use Rattle.refusal.specs.declared.Refusal.{Refusal}
use Rattle.program.specs.declared.lines.Line.{Line}
use Rattle.ledger.specs.declared.moves.Move.{Move}
use Rattle.recording.specs.Layout.{first_record, size}
use Rattle.recording.specs.Meaning.{Reading, adding, fault, line_at, line_tested, moving, read_from, reading, records}
use Rattle.recording.specs.Verdicts.{fault_at}
use Rattle.recording.specs.declared.faults.Failure.{Failure}
use Rattle.recording.specs.declared.faults.Failure.TheVariants.{At, Memory}
use Rattle.recording.specs.declared.faults.Place.{Place}
use Rattle.recording.specs.declared.records.Fields.{Fields}
use Rattle.recording.specs.declared.records.Record.{Record}
use Rattle.recording.specs.declared.records.Setup.{Setup as Setup'}

abbrev pub past_of : Place → Record → Place
past_of p r = record { index = p.index + 1; byte = p.byte + size r }

abbrev pub placed_at : {T : Type 0} → Place → Result T Refusal → Result T Failure
placed_at p (Ok x) = Ok x
placed_at p (Err r) = Err (At (fault_at r p.index p.byte))

abbrev pub Peeked : List ℕ → Place → Result (Option Record) Failure → Type 0
Peeked bs p (Ok None) = drop p.byte bs ≡ []
Peeked bs p (Ok (Some r)) = (first_record (drop p.byte bs) ≡ Ok r) × (p.byte + size r ≤ length bs)
Peeked bs p (Err Memory) = ⊥
Peeked bs p (Err (At f)) = (r : Refusal) × (f ≡ fault_at r p.index p.byte) × (records (drop p.byte bs) ≡ Err r ∷ [])

abbrev pub AtFault : Reading → Failure → Type 0
AtFault read (At f) = read ≡ fault f.refusal f.place.index f.place.byte
AtFault read Memory = ⊥

abbrev pub LineAdded : List Line → Fields → Result (Unit {0}) Refusal → List Line → Type 0
LineAdded before f (Ok done) after = line_tested before (line_at f) ≡ Ok after
LineAdded before f (Err r) after = (line_tested before (line_at f) ≡ Err r) × (after ≡ before)

-- the reading from a place on, with these lines added so far
abbrev pub adding_from : List ℕ → Place → List Line → Setup' → Reading
adding_from bs p ls s = read_from (adding s ls) p.index p.byte (records (drop p.byte bs))

abbrev pub moving_from : List ℕ → Place → List Line → List Move → Setup' → Reading
moving_from bs p ls ms s = read_from (moving s ls ms) p.index p.byte (records (drop p.byte bs))

abbrev pub Starts : List ℕ → Place → Setup' → Type 0
Starts bs p s = reading bs ≡ adding_from bs p [] s

abbrev pub Adds : List ℕ → Place → List Line → Result (Unit {0}) Failure → Place → List Line → Type 0
Adds bs start before (Ok done) end after = (s : Setup') → adding_from bs start before s ≡ moving_from bs end after [] s
Adds bs start before (Err e) end after = (s : Setup') → AtFault (adding_from bs start before s) e
