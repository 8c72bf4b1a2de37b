-- number_of   the number by which a refusal is reported
-- layer_of    the layer of the product that refuses
use Rattle.std.specs.Prelude.{ℕ}
use Rattle.refusal.specs.declared.Refusal.{Refusal}
use Rattle.refusal.specs.declared.Refusal.TheVariants.{ProgramFull, FieldOutOfRange, ThreadOutOfRange, NoSuchInstruction, AtAnotherLabel, RunFull, ThreadNotFree, FenceBeforeDrain, CellOutOfRange, AssertFailed, BufferFull, DrainNotFree, StoreNotWaiting, StoreWaits, TooShort, RecordCutShort, RecordUnknown, RecordOutOfPlace}
use Rattle.refusal.specs.declared.Layer.{Layer}
use Rattle.refusal.specs.declared.Layer.TheVariants.{Program, Buffer, Replay, Recording}

abbrev pub number_of : Refusal → ℕ
number_of ProgramFull = 1
number_of FieldOutOfRange = 2
number_of ThreadOutOfRange = 3
number_of NoSuchInstruction = 4
number_of AtAnotherLabel = 5
number_of RunFull = 6
number_of ThreadNotFree = 7
number_of FenceBeforeDrain = 8
number_of CellOutOfRange = 9
number_of AssertFailed = 10
number_of BufferFull = 11
number_of DrainNotFree = 12
number_of StoreNotWaiting = 13
number_of StoreWaits = 14
number_of TooShort = 15
number_of RecordCutShort = 16
number_of RecordUnknown = 17
number_of RecordOutOfPlace = 18

abbrev pub layer_of : Refusal → Layer
layer_of ProgramFull = Program
layer_of FieldOutOfRange = Program
layer_of ThreadOutOfRange = Replay
layer_of NoSuchInstruction = Replay
layer_of AtAnotherLabel = Replay
layer_of RunFull = Replay
layer_of ThreadNotFree = Buffer
layer_of FenceBeforeDrain = Replay
layer_of CellOutOfRange = Replay
layer_of AssertFailed = Replay
layer_of BufferFull = Buffer
layer_of DrainNotFree = Buffer
layer_of StoreNotWaiting = Replay
layer_of StoreWaits = Replay
layer_of TooShort = Replay
layer_of RecordCutShort = Recording
layer_of RecordUnknown = Recording
layer_of RecordOutOfPlace = Recording
