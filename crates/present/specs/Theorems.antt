-- What follows for a replay that only its own calls have touched since it was made.
-- begins            what it holds at first agrees with the ledger of no moves
-- answers, goes_on  if it agrees with the ledger of accepted moves, an offered move is answered as the ledger says, and the two agree
--                   afterwards; the threads kept as delaying stay those that delayed
-- nodes, edges      and the edges that it is judged by are the edges of the trace
use Rattle.std.specs.Prelude.{◌≡◌, ℕ, List, [], ◌∷◌, ◌++◌, Some, None, Option}
use Rattle.refusal.specs.declared.Refusal.{Refusal}
use Rattle.program.specs.declared.lines.Line.{Line}
use Rattle.buffers.specs.Laws.{Lawful, Rules}
use Rattle.ledger.specs.Answers.{outcome}
use Rattle.ledger.specs.Delays.{delaying}
use Rattle.ledger.specs.Edges.{trace_of}
use Rattle.ledger.specs.Ledgers.{start}
use Rattle.ledger.specs.Moves.{ledger_of}
use Rattle.ledger.specs.Nodes.{node_joins, nodes}
use Rattle.ledger.specs.Runs.{Accepted}
use Rattle.ledger.specs.Tests.{how_many, tested}
use Rattle.ledger.specs.declared.moves.Move.{Move}
use Rattle.present.specs.Agreement.{Agrees, Tracks}
use Rattle.present.specs.Calls.{after_offer_held, outcome_held}
use Rattle.present.specs.Data.{Held, fresh_held, how_many_in}
use Rattle.present.specs.Joins.{delaying_in, node_joined, nodes_in}

-- the moves accepted once m is offered too
abbrev pub joined_by_offer : Option Refusal → List Move → Move → List Move
joined_by_offer None ms m = ms ++ m ∷ []
joined_by_offer (Some r) ms m = ms

abbrev pub offered : Rules → List Line → List Move → Move → List Move
offered rules ls ms m = joined_by_offer (tested rules ls (ledger_of ls ms) m) ms m

-- accepted moves, what the replay holds after them, and that the two agree
pub record InStep (rules : Rules) (ls : List Line) (ms : List Move) (h : Held) : Type 0 where
  pub accepted : Accepted rules ls start ms
  pub agrees : Agrees (ledger_of ls ms) h
  pub tracks : Tracks ls ms h

pub record Theorems : Type 0 where
  pub begins : (rules : Rules) (ls : List Line) → InStep rules ls [] fresh_held
  pub answers : (rules : Rules) → Lawful rules → (ls : List Line) (ms : List Move) (h : Held) → InStep rules ls ms h → (m : Move) → outcome_held rules ls h m ≡ outcome rules ls (ledger_of ls ms) m
  pub goes_on : (rules : Rules) → Lawful rules → (ls : List Line) (ms : List Move) (h : Held) → InStep rules ls ms h → (m : Move) → InStep rules ls (offered rules ls ms m) (after_offer_held rules ls h m)
  pub nodes : (rules : Rules) → Lawful rules → (ls : List Line) (ms : List Move) (h : Held) → InStep rules ls ms h → nodes_in h.own ≡ nodes (trace_of (ledger_of ls ms))
  pub edges : (rules : Rules) → Lawful rules → (ls : List Line) (ms : List Move) (h : Held) → InStep rules ls ms h → (u v : ℕ) → node_joined h.own u v ≡ node_joins (trace_of (ledger_of ls ms)) u v
  pub counts : (rules : Rules) (ls : List Line) (ms : List Move) (h : Held) → InStep rules ls ms h → how_many_in h.own ≡ how_many (ledger_of ls ms)
  pub delays : (rules : Rules) (ls : List Line) (ms : List Move) (h : Held) → InStep rules ls ms h → delaying_in h.own ≡ delaying ls ms
