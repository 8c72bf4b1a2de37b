use Rattle.recording.proofs.Layouts.{readback}
use Rattle.recording.proofs.theorems.the_layout_is_read_back.Goals as goal

pub returns : goal.returns
returns c = readback
