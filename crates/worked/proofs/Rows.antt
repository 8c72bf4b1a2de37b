-- The rows of the table, computed.
use Rattle.std.proofs.Common.{refl}
use Rattle.ledger.proofs.Table.{worked_runs}
use Rattle.worked.specs.Table.{Table}
use Rattle.worked.proofs.Fresh.{fresh}
use Rattle.worked.proofs.Pairs.{of_dekker, of_fenced}

-- The trace of half_late is prompt's, so the verdict on prompt is its verdict too.
pub table : Table
table = record {
  runs = worked_runs;
  late_delays = refl;
  prompt_delays = refl;
  half_late_delays = refl;
  swapped_delays = refl;
  early_delays = refl;
  four_names = refl;
  half_late_verdict = worked_runs.prompt_verdict;
  fresh_judged = refl;
  fresh_verdict = fresh;
  fresh_delays = refl;
  waiting_refused = λ places. refl;
  waiting_number = refl;
  short_refused = refl;
  short_number = refl;
  long_judged = refl;
  dekker_pairs = of_dekker;
  fenced_pairs = of_fenced;
}
