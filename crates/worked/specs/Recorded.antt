-- Worked recordings: what their bytes mean, and what is printed of them.
-- plain            a store buffer without strong cells
-- stores, loads    the instruction records of Dekker's program: thread t stores 1 to the cell c at label 0, and loads the cell c into
--                  register 0 at label 1
-- dekker_queue     the recording of Dekker's program over queue, both loads before the drains
-- dekker_direct    the recording of Dekker's program over direct, a load right after the store
use Rattle.std.specs.Prelude.{◌≡◌, ℕ, List, [], ◌∷◌, ◌++◌, length, codes}
use Rattle.std.specs.List.{flat_map}
use Rattle.refusal.specs.declared.Refusal.TheVariants.{ThreadNotFree}
use Rattle.ledger.specs.Worked.{dekker, late}
use Rattle.recording.specs.Layout.{bytes_of}
use Rattle.recording.specs.Meaning.{fault, reading, whole}
use Rattle.recording.specs.Texts.{Says}
use Rattle.recording.specs.declared.records.Kind.{Kind}
use Rattle.recording.specs.declared.records.Kind.TheVariants.{Direct, Queue}
use Rattle.recording.specs.declared.records.Record.{Record}
use Rattle.recording.specs.declared.records.Record.TheVariants.{Setup, Instruction, Run, Drain}
use Rattle.recording.specs.declared.records.Setup.{Setup as Setup'}

abbrev pub plain : Kind → Setup'
plain k = record { kind = k; strong = 0 }

abbrev pub stores : ℕ → ℕ → Record
stores t c = Instruction (record { thread = t; label = 0; next = 1; form = 1; register = 0; operation = 0; tag_a = 1; tag_b = 1; a = c; b = 1 })

abbrev pub loads : ℕ → ℕ → Record
loads t c = Instruction (record { thread = t; label = 1; next = 2; form = 0; register = 0; operation = 0; tag_a = 1; tag_b = 0; a = c; b = 0 })

abbrev pub dekker_records : List Record
dekker_records = stores 0 0 ∷ loads 0 1 ∷ stores 1 1 ∷ loads 1 0 ∷ []

abbrev pub dekker_queue : List ℕ
dekker_queue = flat_map bytes_of ((Setup (plain Queue) ∷ dekker_records) ++ (Run 0 0 ∷ Run 0 1 ∷ Run 1 2 ∷ Run 1 3 ∷ Drain 0 0 ∷ Drain 1 1 ∷ []))

abbrev pub dekker_direct : List ℕ
dekker_direct = flat_map bytes_of ((Setup (plain Direct) ∷ dekker_records) ++ (Run 0 0 ∷ Run 0 1 ∷ []))

pub record Recorded : Type 0 where
  -- eleven records in 124 bytes, which mean Dekker's program and its late run
  pub queue_length : length dekker_queue ≡ 124
  pub queue_meaning : reading dekker_queue ≡ whole (plain Queue) dekker late 11
  -- and nothing else can be printed of them
  pub queue_printed : (text : List ℕ) → Says dekker_queue text → text ≡ codes "violation 4 2\n0 0\n0 1\n1 0\n1 1\n"
  -- over direct the load is refused: record 6, which starts at byte 94
  pub direct_meaning : reading dekker_direct ≡ fault ThreadNotFree 6 94
  pub direct_printed : (text : List ℕ) → Says dekker_direct text → text ≡ codes "refused 7 buffer 6 94\n"
