use Rattle.std.proofs.Common.{arith}
use Rattle.graph.proofs.Turning.{walked_none, walked_fewer, walked_more, walked_again}
use Rattle.graph.proofs.ordering.Stuck.on_ring.Goals as goal

pub loop-seen-init : goal.loop-seen-init
loop-seen-init c = walked_none _ _ c.args.self.now.closed c.requires

-- One fewer node is left to see.
pub loop-seen-smaller : goal.loop-seen-smaller
loop-seen-smaller c = omega (arith, walked_fewer _ _ _ _ c.args.self.now.closed c.loop-seen.invariant c.loop-seen-test.true)

pub loop-seen-preserved : goal.loop-seen-preserved
loop-seen-preserved c =
    rw c.blocker-node.ensures.value
    (walked_more _ _ _ _ c.args.self.now.closed c.loop-seen.invariant c.loop-seen-test.true)

pub returns : goal.returns
returns c = walked_again _ _ _ _ c.loop-seen.invariant c.loop-seen-test.false
