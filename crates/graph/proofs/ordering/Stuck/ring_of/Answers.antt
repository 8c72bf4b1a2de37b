use Rattle.std.proofs.Common.{arith, rules}
use Rattle.graph.proofs.Turning.{turning_first, turning_room, turning_more, turning_done}
use Rattle.graph.proofs.ordering.Stuck.ring_of.Goals as goal

pub loop-node-init : goal.loop-node-init
loop-node-init c = rw c.blocker-node.ensures.value (turning_first _ _ c.args.self.now.closed c.requires)

-- The walk round has a step to go.
pub loop-node-smaller : goal.loop-node-smaller
loop-node-smaller c =
    omega (arith, c.args.self.now.closed.few, turning_room _ _ _ _ _ c.requires c.loop-node.invariant c.loop-node-test.true)

-- The node is below all before it, or not.
pub loop-node-preserved : goal.loop-node-preserved
loop-node-preserved c =
    rw c.blocker-node-in-loop-node.ensures.value
    (turning_more _ _ _ _ _ _ (search rules) c.args.self.now.closed c.requires c.loop-node.invariant c.loop-node-test.true)

pub returns : goal.returns
returns c = turning_done _ _ _ _ _ c.args.self.now.closed c.requires c.loop-node.invariant c.loop-node-test.false
