use Rattle.ledger.proofs.Table.{worked_runs}
use Rattle.ledger.proofs.theorems.the_worked_runs.Goals as goal

pub returns : goal.returns
returns c = worked_runs
