use Rattle.std.proofs.Common.{◌≡◌, ◌-◌, length}
use Rattle.program.specs.Programs.{lines_of}
use Rattle.replay.specs.Views.{held}
use Rattle.recording.proofs.Moving.{Going}
use Rattle.recording.proofs.reader.Reader.judge_moves.Given as goal

abbrev pub invariant-loop-replay : goal.invariant-loop-replay
invariant-loop-replay g l =
    (l.self.recording.now ≡ l.initial.self.recording.now)
    × Going (g.B.StoreBuffer.rules l.initial.replay.buffer) (lines_of l.initial.replay.program) l.initial.self.recording.now l.initial.self.place l.self.place (held (g.B.StoreBuffer.lists l.replay.buffer) l.replay.state)
    × (g.B.StoreBuffer.rules l.replay.buffer ≡ g.B.StoreBuffer.rules l.initial.replay.buffer)
    × (lines_of l.replay.program ≡ lines_of l.initial.replay.program)

abbrev pub decreases-loop-replay : goal.decreases-loop-replay
decreases-loop-replay g l = length l.initial.self.recording.now - l.self.place.byte
