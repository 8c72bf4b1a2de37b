use Rattle.ledger.proofs.Exact.{run_exactly_without_ring}
use Rattle.ledger.proofs.theorems.a_run_exactly_without_a_ring.Goals as goal

pub returns : goal.returns
returns c = run_exactly_without_ring
