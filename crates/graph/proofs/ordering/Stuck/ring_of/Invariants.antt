use Rattle.std.proofs.Common.{◌-◌}
use Rattle.graph.proofs.Turning.{Turning}
use Rattle.graph.proofs.ordering.Stuck.ring_of.Given as goal

abbrev pub invariant-loop-node : goal.invariant-loop-node
invariant-loop-node l = Turning l.self.standings.items l.start l.ring.lowest l.ring.count l.node

abbrev pub decreases-loop-node : goal.decreases-loop-node
decreases-loop-node l = 256 - l.ring.count
