use Rattle.ledger.proofs.Ordered.{order_gives_run}
use Rattle.ledger.proofs.theorems.an_order_gives_a_run.Goals as goal

pub returns : goal.returns
returns c = order_gives_run
