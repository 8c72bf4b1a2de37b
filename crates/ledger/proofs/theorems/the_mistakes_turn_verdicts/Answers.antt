use Rattle.ledger.proofs.Table.{mistakes}
use Rattle.ledger.proofs.theorems.the_mistakes_turn_verdicts.Goals as goal

pub returns : goal.returns
returns c = mistakes
