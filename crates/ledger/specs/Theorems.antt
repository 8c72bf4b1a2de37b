-- What is proved of runs, orders and rings.
-- RunOf ls x ms        the moves ms are a sequentially consistent run of the program, and its trace is x
-- HasRun ls x          there is such a run
-- Chained, Ring        edges from each action to the next and from the last to the first
use Rattle.std.specs.Prelude.{◌≡◌, true, false, List, [], ◌∷◌}
use Rattle.program.specs.declared.lines.Line.{Line}
use Rattle.buffers.specs.Laws.{Lawful, Rules}
use Rattle.ledger.specs.Actions.{Name}
use Rattle.ledger.specs.Edges.{SameTrace, Trace, edge, trace_of}
use Rattle.ledger.specs.Ledgers.{start}
use Rattle.ledger.specs.Moves.{ledger_of}
use Rattle.ledger.specs.Orders.{Order, listed_moves}
use Rattle.ledger.specs.Runs.{Accepted, NothingWaits, SequentialRun}
use Rattle.ledger.specs.declared.moves.Move.{Move}

pub record RunOf (ls : List Line) (x : Trace) (ms : List Move) : Type 0 where
  pub run : SequentialRun ls ms
  pub trace : SameTrace (trace_of (ledger_of ls ms)) x

abbrev pub HasRun : List Line → Trace → Type 0
HasRun ls x = (ms : List Move) × RunOf ls x ms

-- edges lead from a through the names, and from the last of them to z
abbrev pub Chained : Trace → Name → List Name → Name → Type 0
Chained x a [] z = edge x a z ≡ true
Chained x a (b ∷ names) z = (edge x a b ≡ true) × Chained x b names z

abbrev pub Ring : Trace → List Name → Type 0
Ring x [] = ⊥
Ring x (a ∷ names) = Chained x a names a

-- An order of a trace, read as moves, is a sequentially consistent run with that trace. The trace may come from any accepted
-- moves over any kind of buffer that keeps the laws, after which nothing waits.
abbrev pub OrderGivesRun : Type 0
OrderGivesRun = (rules : Rules) → Lawful rules → (ls : List Line) (ms : List Move) → Accepted rules ls start ms → NothingWaits (ledger_of ls ms) → (names : List Name) → Order (trace_of (ledger_of ls ms)) names → RunOf ls (trace_of (ledger_of ls ms)) (listed_moves (trace_of (ledger_of ls ms)) names)

-- A trace that a sequentially consistent run has is without a ring.
abbrev pub RunGivesNoRing : Type 0
RunGivesNoRing = (ls : List Line) (x : Trace) → HasRun ls x → (names : List Name) → Ring x names → ⊥

-- So the trace of accepted moves, over any kind that keeps the laws, after which nothing waits, has a sequentially consistent
-- run exactly when its edges have no ring.
pub record Exactly (ls : List Line) (x : Trace) : Type 0 where
  pub no_ring : HasRun ls x → (names : List Name) → Ring x names → ⊥
  pub run : ((names : List Name) → Ring x names → ⊥) → HasRun ls x

abbrev pub RunExactlyWithoutRing : Type 0
RunExactlyWithoutRing = (rules : Rules) → Lawful rules → (ls : List Line) (ms : List Move) → Accepted rules ls start ms → NothingWaits (ledger_of ls ms) → Exactly ls (trace_of (ledger_of ls ms))

-- No edge joins an action to itself, over any kind that keeps the laws.
abbrev pub NoEdgeToItself : Type 0
NoEdgeToItself = (rules : Rules) → Lawful rules → (ls : List Line) (ms : List Move) → Accepted rules ls start ms → (a : Name) → edge (trace_of (ledger_of ls ms)) a a ≡ false
