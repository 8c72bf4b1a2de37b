-- That the layout is read back: what a record is written as is read as that record, and nothing else is.
-- Fits              each field of a record fits its bytes
-- ReadsBack         from the bytes of a record, with anything behind them, that record is read
-- ReadIsLayout      bytes from which a record is read begin with the bytes of that record
use Rattle.std.specs.Prelude.{◌≡◌, ℕ, ◌^◌, ◌<◌, List, ◌++◌, drop, Ok}
use Rattle.std.specs.List.{All}
use Rattle.recording.specs.Layout.{bytes_of, first_record, size}
use Rattle.recording.specs.declared.records.Fields.{Fields}
use Rattle.recording.specs.declared.records.Record.{Record}
use Rattle.recording.specs.declared.records.Record.TheVariants.{Setup, Instruction, Run, Drain}

pub record FieldsFit (f : Fields) : Type 0 where
  pub thread_fits : f.thread < 256
  pub label_fits : f.label < 256
  pub next_fits : f.next < 256
  pub form_fits : f.form < 256
  pub register_fits : f.register < 256
  pub operation_fits : f.operation < 256
  pub tag_a_fits : f.tag_a < 256
  pub tag_b_fits : f.tag_b < 256
  pub a_fits : f.a < 2 ^ 32
  pub b_fits : f.b < 2 ^ 32

abbrev pub Fits : Record → Type 0
Fits (Setup s) = s.strong < 65536
Fits (Instruction f) = FieldsFit f
Fits (Run t n) = (t < 256) × (n < 256)
Fits (Drain t c) = (t < 256) × (c < 256)

abbrev pub ReadsBack : Type 0
ReadsBack = (r : Record) (rest : List ℕ) → Fits r → first_record (bytes_of r ++ rest) ≡ Ok r

abbrev pub ReadIsLayout : Type 0
ReadIsLayout = (bs : List ℕ) (r : Record) → All (λ b. b < 256) bs → first_record bs ≡ Ok r → bs ≡ bytes_of r ++ drop (size r) bs

pub record Readback : Type 0 where
  pub reads_back : ReadsBack
  pub read_is_layout : ReadIsLayout
