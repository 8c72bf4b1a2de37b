use Rattle.worked.proofs.Rows.{table}
use Rattle.worked.proofs.the_table_of_worked_runs.Goals as goal

pub returns : goal.returns
returns c = table
