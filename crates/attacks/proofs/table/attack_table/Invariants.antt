use Rattle.program.specs.Programs.{lines_of}
use Rattle.attacks.proofs.Chained.{Filled}
use Rattle.attacks.proofs.table.attack_table.Given as goal

abbrev pub invariant-loop-store : goal.invariant-loop-store
invariant-loop-store l = Filled (lines_of l.program) l.table l.store
