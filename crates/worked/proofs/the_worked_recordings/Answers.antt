use Rattle.worked.proofs.Recordings.{recorded}
use Rattle.worked.proofs.the_worked_recordings.Goals as goal

pub returns : goal.returns
returns c = recorded
