use Rattle.attacks.proofs.Single.{one_list}
use Rattle.attacks.proofs.the_pairs_are_one_list.Goals as goal

pub returns : goal.returns
returns c = one_list
