-- What the search of a graph says of a trace, read through the numbering of its actions.
-- order_is_true     an order of the nodes, the lowest that could come next at each place, makes `sequential` true
-- ring_is_true      a ring of the nodes makes `violation` true
use Rattle.std.specs.Prelude.{ℕ, List, map, length}
use Rattle.graph.specs.Sorting.{Ordered, Ringed}
use Rattle.program.specs.declared.lines.Line.{Line}
use Rattle.buffers.specs.Laws.{Lawful, Rules}
use Rattle.ledger.specs.Edges.{trace_of}
use Rattle.ledger.specs.Ledgers.{start}
use Rattle.ledger.specs.Moves.{ledger_of}
use Rattle.ledger.specs.Nodes.{node_joins, node_name, nodes}
use Rattle.ledger.specs.Runs.{Accepted, NothingWaits}
use Rattle.ledger.specs.Verdicts.{ListsRun, ShowsRing}
use Rattle.ledger.specs.declared.moves.Move.{Move}

pub record Judged : Type 0 where
  pub order_is_true : (rules : Rules) → Lawful rules → (ls : List Line) (ms : List Move) → Accepted rules ls start ms → NothingWaits (ledger_of ls ms) → (ns : List ℕ) → Ordered (node_joins (trace_of (ledger_of ls ms))) (length (nodes (trace_of (ledger_of ls ms)))) ns → ListsRun ls (trace_of (ledger_of ls ms)) (map (node_name (trace_of (ledger_of ls ms))) ns)
  pub ring_is_true : (rules : Rules) → Lawful rules → (ls : List Line) (ms : List Move) → Accepted rules ls start ms → (ns : List ℕ) → Ringed (node_joins (trace_of (ledger_of ls ms))) ns → ShowsRing ls (trace_of (ledger_of ls ms)) (map (node_name (trace_of (ledger_of ls ms))) ns)
