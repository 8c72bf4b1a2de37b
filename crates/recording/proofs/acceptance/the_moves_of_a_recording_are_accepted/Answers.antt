use Rattle.recording.proofs.Accepting.{accepted_moves}
use Rattle.recording.proofs.acceptance.the_moves_of_a_recording_are_accepted.Goals as goal

pub returns : goal.returns
returns c = accepted_moves
