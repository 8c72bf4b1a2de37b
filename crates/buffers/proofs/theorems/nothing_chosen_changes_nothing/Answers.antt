use Rattle.buffers.proofs.Oldest.{nothing_chosen}
use Rattle.buffers.proofs.theorems.nothing_chosen_changes_nothing.Goals as goal

pub returns : goal.returns
returns c = nothing_chosen
