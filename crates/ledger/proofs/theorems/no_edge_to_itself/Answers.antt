use Rattle.ledger.proofs.Exact.{no_edge_to_itself}
use Rattle.ledger.proofs.theorems.no_edge_to_itself.Goals as goal

pub returns : goal.returns
returns c = no_edge_to_itself
