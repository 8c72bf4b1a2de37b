use Rattle.graph.proofs.Turning.{Writing}
use Rattle.graph.proofs.ordering.Stuck.write_back.Given as goal

abbrev pub invariant-loop-place : goal.invariant-loop-place
invariant-loop-place l = Writing l.self.standings.items l.initial.node l.initial.place l.initial.list l.place l.node l.list
