use Rattle.std.proofs.Common.{arith}
use Rattle.graph.proofs.Turning.{writing_none, writing_more}
use Rattle.graph.proofs.ordering.Stuck.write_back.Goals as goal

pub loop-place-init : goal.loop-place-init
loop-place-init c = writing_none _ _ _ _ c.requires.turn.unplaced

pub blocker-node-requires : goal.blocker-node-requires
blocker-node-requires c = c.loop-place.invariant.unplaced

pub loop-place-preserved : goal.loop-place-preserved
loop-place-preserved c =
    rw c.blocker-node.ensures.value
    (writing_more _ _ _ _ _ _ _ c.args.self.now.closed c.loop-place.invariant c.loop-place-test.true c.loop-place.auto.place
    (omega (arith, c.loop-place.auto.list, c.requires.room)))

pub returns : goal.returns
returns c = record {
  written = λ k l. c.loop-place.invariant.written k (omega arith) l;
  later = c.loop-place.invariant.later;
}
