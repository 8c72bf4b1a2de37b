use Rattle.std.proofs.Common.{◌+◌, ◌-◌, ◌≤◌, length, drop}
use Rattle.std.specs.List.{Contains}
use Rattle.graph.specs.Placing.{missing}
use Rattle.graph.proofs.Reaching.{Searched, Following}
use Rattle.graph.proofs.search.reached.Given as goal

-- The edges out of the nodes from `next` on are still to be followed.
abbrev pub invariant-loop-next : goal.invariant-loop-next
invariant-loop-next g l = record {
  searched : Searched (g.G.Graph.joins l.graph) l.start l.marks (Contains (drop l.next l.found.items));
  inside : l.next ≤ length l.found.items;
  room : length l.found.items + missing 256 l.marks ≤ 257;
}

-- Each node that is put on the list was not marked before.
abbrev pub decreases-loop-next : goal.decreases-loop-next
decreases-loop-next g l = length l.found.items - l.next + missing 256 l.marks

abbrev pub invariant-loop-to : goal.invariant-loop-to
invariant-loop-to g l = record {
  following : Following (g.G.Graph.joins l.graph) l.start l.from (length (drop l.next l.initial.found.items) + missing 256 l.initial.marks) l.to l.marks (drop l.next l.found.items);
  inside : l.next ≤ length l.found.items;
  room : length l.found.items + missing 256 l.marks ≤ 257;
}
