use Rattle.std.proofs.Common.{◌≡◌, ◌-◌, length}
use Rattle.program.specs.Programs.{lines_of}
use Rattle.recording.proofs.Adding.{AddingOn}
use Rattle.recording.proofs.reader.Reader.add_instructions.Given as goal

abbrev pub invariant-loop-found : goal.invariant-loop-found
invariant-loop-found l =
    (l.self.recording.now ≡ l.initial.self.recording.now)
    × AddingOn l.initial.self.recording.now l.initial.self.place (lines_of l.initial.program) l.self.place (lines_of l.program)

abbrev pub decreases-loop-found : goal.decreases-loop-found
decreases-loop-found l = length l.initial.self.recording.now - l.self.place.byte
