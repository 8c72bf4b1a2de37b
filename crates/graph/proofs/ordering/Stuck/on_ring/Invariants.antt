use Rattle.std.proofs.Common.{length}
use Rattle.graph.specs.Placing.{missing}
use Rattle.graph.proofs.Turning.{Walked}
use Rattle.graph.proofs.ordering.Stuck.on_ring.Given as goal

abbrev pub invariant-loop-seen : goal.invariant-loop-seen
invariant-loop-seen l = Walked l.self.standings.items l.start l.seen l.node

abbrev pub decreases-loop-seen : goal.decreases-loop-seen
decreases-loop-seen l = missing (length l.self.standings.items) l.seen
