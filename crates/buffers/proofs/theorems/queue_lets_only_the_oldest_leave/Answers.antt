use Rattle.buffers.proofs.Oldest.{only_oldest_leaves}
use Rattle.buffers.proofs.theorems.queue_lets_only_the_oldest_leave.Goals as goal

pub returns : goal.returns
returns c = only_oldest_leaves
