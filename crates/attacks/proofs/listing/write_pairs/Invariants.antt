use Rattle.std.proofs.Common.{length}
use Rattle.attacks.specs.Tables.{table_pairs}
use Rattle.attacks.proofs.Writing.{Written}
use Rattle.attacks.proofs.listing.write_pairs.Given as goal

abbrev pub invariant-loop-at : goal.invariant-loop-at
invariant-loop-at l = Written (table_pairs l.table) l.initial.list (length l.yielded) l.list
