-- The printed verdict, as bytes. One space stands between parts, and byte 10 ends each line.
-- verdict_text      the word, the number of entries and the number of delaying threads; then a line for each entry, its thread and position
-- fault_words       `refused`, the number, the layer, the record and the byte
-- fault_text        these as a line
-- failure_words     those of the fault, or that there was no memory
-- Says              the text of what the reading call answers, with a list of 256 places, of the recording of these bytes
-- TextOf            such a text, which fits a page of 2,048 bytes
-- Printed           what the printing call answers and leaves on the page: a page below 2,048 bytes gives 15 and is as before; otherwise
--                   the text stands at the front, the answer is its length, and the page's later bytes are as before; want of memory
--                   leaves the page as before
use Rattle.std.specs.Prelude.{◌≡◌, ℕ, ◌<◌, ◌≤◌, ◌⊎◌, List, ◌++◌, map, length, drop, Some, Ok, Err, codes, decimal, Result}
use Rattle.std.specs.List.{flat_map}
use Rattle.refusal.specs.Texts.{refusal_text}
use Rattle.replay.specs.Names.{name_of}
use Rattle.replay.specs.Texts.{name_text, verdict_text as words_of}
use Rattle.replay.specs.declared.names.Name.{Name}
use Rattle.replay.specs.declared.verdicts.Verdict.{Verdict}
use Rattle.recording.specs.Meaning.{reading}
use Rattle.recording.specs.Verdicts.{TrulyRead, faulty}
use Rattle.recording.specs.declared.faults.Failure.{Failure}
use Rattle.recording.specs.declared.faults.Failure.TheVariants.{At, Memory}
use Rattle.recording.specs.declared.faults.Fault.{Fault}
use Rattle.recording.specs.declared.printing.Unprinted.{Unprinted}
use Rattle.recording.specs.declared.printing.Unprinted.TheVariants.{PageTooShort, NoMemory}

-- a line for each name
abbrev pub name_lines : List Name → List ℕ
name_lines names = flat_map (λ a. name_text a ++ codes "\n") names

-- the verdict's own line
abbrev pub first_line : Verdict → List ℕ
first_line v = words_of v ++ codes "\n"

abbrev pub verdict_text : Verdict → List Name → List ℕ
verdict_text v names = first_line v ++ name_lines names

abbrev pub fault_words : Fault → List ℕ
fault_words f = codes "refused " ++ (refusal_text f.refusal ++ (codes " " ++ (decimal f.place.index ++ (codes " " ++ decimal f.place.byte))))

abbrev pub fault_text : Fault → List ℕ
fault_text f = fault_words f ++ codes "\n"

abbrev pub failure_words : Failure → List ℕ
failure_words (At f) = fault_words f
failure_words Memory = codes "no memory"

pub record SaysVerdict (bs text : List ℕ) : Type 0 where
  pub verdict : Verdict
  pub names : List Name
  pub true_of : TrulyRead (reading bs) 256 verdict (map name_of names)
  pub is : text ≡ verdict_text verdict names

pub record SaysFault (bs text : List ℕ) : Type 0 where
  pub at : Fault
  pub found : faulty (reading bs) (length bs) 256 ≡ Some at
  pub is : text ≡ fault_text at

abbrev pub Says : List ℕ → List ℕ → Type 0
Says bs text = SaysVerdict bs text ⊎ SaysFault bs text

pub record TextOf (bs text : List ℕ) : Type 0 where
  pub says : Says bs text
  pub bound : length text ≤ 2048

pub record PrintedText (bs before : List ℕ) (n : ℕ) (after : List ℕ) : Type 0 where
  pub wide : 2048 ≤ length before
  pub text : List ℕ
  pub says : Says bs text
  pub value : n ≡ length text
  pub page : after ≡ text ++ drop (length text) before

abbrev pub Printed : List ℕ → List ℕ → Result ℕ Unprinted → List ℕ → Type 0
Printed bs before (Ok n) after = PrintedText bs before n after
Printed bs before (Err PageTooShort) after = (length before < 2048) × (after ≡ before)
Printed bs before (Err NoMemory) after = (2048 ≤ length before) × (after ≡ before)
