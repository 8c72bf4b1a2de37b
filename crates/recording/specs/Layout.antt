-- How records are laid out as bytes, and which record a recording begins with.
-- word, long        two and four bytes as a number, the lowest first
-- size              the whole length of a record
-- bytes_of          its bytes: length and kind in two bytes each, then its fields
-- first_record      the record that these bytes begin with, or why there is none. In order: four bytes are there; they are the
--                   length and the kind of a record; the rest of it is there; the fields of a setup are in range
use Rattle.std.specs.Prelude.{ℕ, zero, suc, ◌+◌, ◌*◌, ◌/◌, ◌%◌, cond, ◌&&◌, List, [], ◌∷◌, ◌++◌, length, drop, Some, None, Ok, Err, Option, Result, ◌==◌, nat_le, slice_index}
use Rattle.refusal.specs.declared.Refusal.{Refusal}
use Rattle.refusal.specs.declared.Refusal.TheVariants.{RecordCutShort, RecordUnknown}
use Rattle.recording.specs.declared.records.Fields.{Fields}
use Rattle.recording.specs.declared.records.Kind.{Kind}
use Rattle.recording.specs.declared.records.Kind.TheVariants.{Direct, Queue, PerCell}
use Rattle.recording.specs.declared.records.Record.{Record}
use Rattle.recording.specs.declared.records.Record.TheVariants.{Setup, Instruction, Run, Drain}

abbrev pub word : ℕ → ℕ → ℕ
word low high = low + 256 * high

abbrev pub long : ℕ → ℕ → ℕ → ℕ → ℕ
long b₀ b₁ b₂ b₃ = word b₀ b₁ + 65536 * word b₂ b₃

-- the two bytes of a number, and its four
abbrev pub two_bytes : ℕ → List ℕ
two_bytes n = n % 256 ∷ n / 256 % 256 ∷ []

abbrev pub four_bytes : ℕ → List ℕ
four_bytes n = n % 256 ∷ n / 256 % 256 ∷ n / 65536 % 256 ∷ n / 16777216 % 256 ∷ []

abbrev pub size : Record → ℕ
size (Setup s) = 8
size (Instruction f) = 20
size (Run t n) = 6
size (Drain t c) = 6

abbrev pub kind_number : Record → ℕ
kind_number (Setup s) = 1
kind_number (Instruction f) = 2
kind_number (Run t n) = 3
kind_number (Drain t c) = 4

abbrev pub kind_byte : Kind → ℕ
kind_byte Direct = 0
kind_byte Queue = 1
kind_byte PerCell = 2

abbrev pub field_bytes : Fields → List ℕ
field_bytes f =
    f.thread ∷ f.label ∷ f.next ∷ f.form ∷ f.register ∷ f.operation ∷ f.tag_a ∷ f.tag_b ∷ []
    ++ (four_bytes f.a ++ four_bytes f.b)

abbrev pub body_bytes : Record → List ℕ
body_bytes (Setup s) = kind_byte s.kind ∷ 0 ∷ two_bytes s.strong
body_bytes (Instruction f) = field_bytes f
body_bytes (Run t n) = t ∷ n ∷ []
body_bytes (Drain t c) = t ∷ c ∷ []

abbrev pub bytes_of : Record → List ℕ
bytes_of r = two_bytes (size r) ++ (two_bytes (kind_number r) ++ body_bytes r)

-- the shapes that a length and a kind can announce
pub data Shape : Type 0 where
  setup : Shape
  instruction : Shape
  run : Shape
  drain : Shape

abbrev pub shape_of : ℕ → ℕ → Option Shape
shape_of l k =
    cond (l == 8 && k == 1) (Some setup)
    (cond (l == 20 && k == 2) (Some instruction)
    (cond (l == 6 && k == 3) (Some run)
    (cond (l == 6 && k == 4) (Some drain) None)))

abbrev pub body_size : Shape → ℕ
body_size setup = 4
body_size instruction = 16
body_size run = 2
body_size drain = 2

abbrev pub byte : List ℕ → ℕ → ℕ
byte bs k = slice_index bs k

abbrev pub kind_at : ℕ → Option Kind
kind_at zero = Some Direct
kind_at (suc zero) = Some Queue
kind_at (suc (suc zero)) = Some PerCell
kind_at (suc (suc (suc n))) = None

abbrev pub setup_with : Option Kind → ℕ → Result Record Refusal
setup_with None strong = Err RecordUnknown
setup_with (Some k) strong = Ok (Setup (record { kind = k; strong = strong }))

abbrev pub fields_at : List ℕ → Fields
fields_at bs = record {
  thread = byte bs 0;
  label = byte bs 1;
  next = byte bs 2;
  form = byte bs 3;
  register = byte bs 4;
  operation = byte bs 5;
  tag_a = byte bs 6;
  tag_b = byte bs 7;
  a = long (byte bs 8) (byte bs 9) (byte bs 10) (byte bs 11);
  b = long (byte bs 12) (byte bs 13) (byte bs 14) (byte bs 15);
}

-- the fields of a record of that shape
abbrev pub body_at : Shape → List ℕ → Result Record Refusal
body_at setup bs = cond (byte bs 1 == 0) (setup_with (kind_at (byte bs 0)) (word (byte bs 2) (byte bs 3))) (Err RecordUnknown)
body_at instruction bs = Ok (Instruction (fields_at bs))
body_at run bs = Ok (Run (byte bs 0) (byte bs 1))
body_at drain bs = Ok (Drain (byte bs 0) (byte bs 1))

abbrev pub shaped : Option Shape → List ℕ → Result Record Refusal
shaped None bs = Err RecordUnknown
shaped (Some s) bs = cond (nat_le (body_size s) (length bs)) (body_at s bs) (Err RecordCutShort)

abbrev pub first_record : List ℕ → Result Record Refusal
first_record bs =
    cond (nat_le 4 (length bs)) (shaped (shape_of (word (byte bs 0) (byte bs 1)) (word (byte bs 2) (byte bs 3))) (drop 4 bs)) (Err RecordCutShort)
