use Rattle.std.proofs.Common.{◌≡◌}
use Rattle.graph.specs.Placing.{marks}
use Rattle.graph.proofs.Blocking.{Moved}
use Rattle.graph.proofs.ordering.Sorting.move_up.Given as goal

abbrev pub invariant-loop-node : goal.invariant-loop-node
invariant-loop-node g l = record {
  moved : Moved (g.G.Graph.joins l.graph) (g.G.Graph.size l.graph) (marks l.initial.self.standings.items) l.at l.node l.self.standings.items;
  order : l.self.order ≡ l.initial.self.order;
}
