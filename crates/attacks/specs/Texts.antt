-- pair_text p    how a pair is written out: the store's number, a space, the load's number
use Rattle.std.specs.Prelude.{ℕ, List, ◌++◌, codes, decimal}
use Rattle.attacks.specs.declared.pair.Pair.{Pair}

abbrev pub pair_text : Pair → List ℕ
pair_text p = decimal p.store ++ (codes " " ++ decimal p.load)
