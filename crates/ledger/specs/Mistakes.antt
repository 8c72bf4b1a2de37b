-- Three mistakes that a replay can make and that look right. Each is shown to turn a verdict.
-- placed_in_order e names   no edge of e leads from a later of the names to an earlier one
-- no_initial                the edges, but none from a load of an initial value to the cell's first store
-- memory_alone              what a load finds, but always in memory, even where a store of its own thread waits
-- by_drains                 the edges, but with the actions of a thread in the order in which they reached memory
use Rattle.std.specs.Prelude.{◌≡◌, ℕ, Bool, true, cond, not, ◌&&◌, ◌||◌, List, [], ◌∷◌, ◌++◌, length, Some, None, Option, ◌==◌}
use Rattle.program.specs.declared.lines.Line.{Line}
use Rattle.buffers.specs.Kinds.{per_cell, queue}
use Rattle.ledger.specs.Actions.{Access, Name, from, initial, loads, name, none, stores}
use Rattle.ledger.specs.Answers.{after_offers}
use Rattle.ledger.specs.Edges.{Trace, from_reads, next_in, program_order, reads_from, store_order}
use Rattle.ledger.specs.Ledgers.{Entry, Ledger, action_at, start, update}
use Rattle.ledger.specs.Moves.{Read, after_move, in_memory, last_of, oldest}
use Rattle.ledger.specs.Theorems.{Ring}
use Rattle.ledger.specs.Worked.{dekker, early, forwarding, four, late, passing, swapped, trace_after}
use Rattle.ledger.specs.declared.moves.Move.{Move}
use Rattle.ledger.specs.declared.moves.Move.TheVariants.{Run, Drain}

-- none of the names has an edge to a
abbrev pub none_to : (Name → Name → Bool) → Name → List Name → Bool
none_to e a [] = true
none_to e a (b ∷ names) = not (e b a) && none_to e a names

abbrev pub placed_in_order : (Name → Name → Bool) → List Name → Bool
placed_in_order e [] = true
placed_in_order e (a ∷ names) = none_to e a names && placed_in_order e names

-- the edges of a trace, with another thread order and other accesses of the loads that are overwritten
abbrev pub edges_with : (Name → Name → Bool) → (Access → Access) → Trace → Name → Name → Bool
edges_with thread_order overwritten x a b =
    thread_order a b
    || (store_order x a (action_at x.actions a).access b
    || (reads_from a (action_at x.actions b).access
    || from_reads x (overwritten (action_at x.actions a).access) b))

-- a load of an initial value, forgotten
abbrev pub forgotten : Access → Access
forgotten none = none
forgotten (stores c) = stores c
forgotten (loads c initial) = none
forgotten (loads c (from s)) = loads c (from s)

abbrev pub no_initial : Trace → Name → Name → Bool
no_initial = edges_with program_order forgotten

abbrev pub memory_alone : Ledger → ℕ → Read
memory_alone l c = in_memory l c (last_of (l.drained c))

-- the trace of a load after an own waiting store, with the source that memory alone gives
abbrev pub misread : Trace
misread = record {
  actions = update (λ t. []) 0
      (record { line = 0; value = 7; access = stores 0 }
      ∷ record { line = 1; value = 7; access = loads 0 (memory_alone (after_offers queue forwarding start (Run 0 0 ∷ [])) 0).source } ∷ []);
  drained = (trace_after queue forwarding early).drained;
}

-- the actions in the order in which they reached memory: a store when it drained, any other when it ran
abbrev pub reached_by_run : Ledger → ℕ → Access → List Name
reached_by_run l t none = name t (length (l.actions t)) ∷ []
reached_by_run l t (stores c) = []
reached_by_run l t (loads c source) = name t (length (l.actions t)) ∷ []

abbrev pub reached_by_drain : ℕ → Option Entry → List Name
reached_by_drain t None = []
reached_by_drain t (Some e) = name t e.position ∷ []

abbrev pub reached : List Line → Ledger → List Move → List Name
reached ls l [] = []
reached ls l (Run t n ∷ ms) = reached_by_run l t (action_at (after_move ls l (Run t n)).actions (name t (length (l.actions t)))).access ++ reached ls (after_move ls l (Run t n)) ms
reached ls l (Drain t c ∷ ms) = reached_by_drain t (oldest c (l.waiting t)) ++ reached ls (after_move ls l (Drain t c)) ms

abbrev pub of_thread : ℕ → List Name → List Name
of_thread t [] = []
of_thread t (a ∷ names) = cond (a.thread == t) (a ∷ of_thread t names) (of_thread t names)

abbrev pub by_drains : List Name → Trace → Name → Name → Bool
by_drains names = edges_with (λ a b. next_in (of_thread a.thread names) a b) (λ access. access)

pub record Mistakes : Type 0 where
  -- the two-thread run that is a ring would have an order
  pub without_initial : placed_in_order (no_initial (trace_after queue dekker late)) four ≡ true
  -- the early read that has a run would be a ring
  pub with_memory_alone : Ring misread (name 0 0 ∷ name 0 1 ∷ [])
  -- message passing with the second store drained first, a ring, would have an order
  pub with_drains : placed_in_order (by_drains (reached passing start swapped) (trace_after per_cell passing swapped)) (name 0 1 ∷ name 1 0 ∷ name 1 1 ∷ name 0 0 ∷ []) ≡ true
