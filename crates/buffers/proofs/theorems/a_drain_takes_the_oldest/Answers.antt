use Rattle.buffers.proofs.Oldest.{takes_oldest}
use Rattle.buffers.proofs.theorems.a_drain_takes_the_oldest.Goals as goal

pub returns : goal.returns
returns c = takes_oldest
