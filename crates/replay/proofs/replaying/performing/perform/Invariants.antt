use Rattle.std.proofs.Common.{◌≡◌, vec_items}
use Rattle.program.specs.Programs.{lines_of}
use Rattle.replay.specs.Views.{held}
use Rattle.replay.proofs.Performing.{Going}
use Rattle.replay.proofs.replaying.performing.perform.Given as goal

abbrev pub invariant-loop-call : goal.invariant-loop-call
invariant-loop-call g l =
    Going (g.B.StoreBuffer.rules l.initial.replay.buffer) (lines_of l.initial.replay.program) l.calls l.call-index (vec_items l.answers) (held (g.B.StoreBuffer.lists l.replay.buffer) l.replay.state)
    × ((g.B.StoreBuffer.rules l.replay.buffer ≡ g.B.StoreBuffer.rules l.initial.replay.buffer)
    × (lines_of l.replay.program ≡ lines_of l.initial.replay.program))
