-- The verdict on a replay that nothing was offered to.
use Rattle.std.proofs.Common.{[], refl, arith}
use Rattle.std.proofs.lemmas.Bool.{ltb-true}
use Rattle.ledger.specs.Edges.{trace_of}
use Rattle.ledger.specs.Ledgers.{start}
use Rattle.ledger.specs.Verdicts.{ListsRun}
use Rattle.ledger.specs.Worked.{dekker}

-- There is no action, so the empty list has them all.
pub fresh : ListsRun dekker (trace_of start) []
fresh = record {
  order = record { ordered = tt; all = λ a action. absurd (omega (arith, ltb-true a.position 0 action)) };
  lowest = tt;
  run = record { run = record { accepted = tt; drained = λ t. refl }; trace = record { actions = λ t. refl; drained = λ c. refl } };
}
