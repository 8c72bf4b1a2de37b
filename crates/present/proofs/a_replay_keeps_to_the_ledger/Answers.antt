use Rattle.present.proofs.Offering.{theorems}
use Rattle.present.proofs.a_replay_keeps_to_the_ledger.Goals as goal

pub returns : goal.returns
returns c = theorems
