use Rattle.std.proofs.Common.{◌-◌, length}
use Rattle.graph.specs.Placing.{Begun}
use Rattle.graph.proofs.Placing.{First}
use Rattle.graph.proofs.ordering.Sorting.new.Given as goal

abbrev pub invariant-loop-place : goal.invariant-loop-place
invariant-loop-place g l = First (g.G.Graph.joins l.graph) (g.G.Graph.size l.graph) l.place l.standings.items

abbrev pub invariant-loop-node : goal.invariant-loop-node
invariant-loop-node g l = Begun (g.G.Graph.joins l.graph) (g.G.Graph.size l.graph) l.sorting

abbrev pub decreases-loop-node : goal.decreases-loop-node
decreases-loop-node g l = 256 - length l.sorting.order.items
