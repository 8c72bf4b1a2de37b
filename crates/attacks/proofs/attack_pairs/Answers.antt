use Rattle.std.proofs.Common.{arith}
use Rattle.std.proofs.lemmas.Bool.Decides.{nat_tests}
use Rattle.program.specs.Programs.{lines_of}
use Rattle.attacks.specs.Tables.{table_pairs}
use Rattle.attacks.proofs.Complete.{table_attacks}
use Rattle.attacks.proofs.attack_pairs.Goals as goal

pub returns-then-count-list : goal.returns-then-count-list
returns-then-count-list c = record {
  pairs = table_pairs c.attack_table-table.result;
  all = table_attacks (lines_of c.args.program.now) c.attack_table-table.result c.attack_table-table.ensures;
  value = grind (arith, nat_tests);
  list = grind (arith, nat_tests);
}

pub returns : goal.returns
returns c = record {
  pairs = table_pairs c.attack_table-table.result;
  all = table_attacks (lines_of c.args.program.now) c.attack_table-table.result c.attack_table-table.ensures;
  value = grind (arith, nat_tests);
  list = grind (arith, nat_tests);
}
