use Rattle.ledger.proofs.Judging.{judged}
use Rattle.ledger.proofs.theorems.a_search_judges_truly.Goals as goal

pub returns : goal.returns
returns c = judged
