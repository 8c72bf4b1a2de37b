use Rattle.ledger.proofs.Forward.{run_gives_no_ring}
use Rattle.ledger.proofs.theorems.a_run_gives_no_ring.Goals as goal

pub returns : goal.returns
returns c = run_gives_no_ring
