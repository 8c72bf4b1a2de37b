-- Which threads delayed a store of their own.
-- waits_here        a store of these waits
-- delays ls l t ms  among the moves ms, from the ledger l on, is a run of the thread t while a store of its own waited. Once
--                   nothing waits, that store has been drained since, so the thread ran an action between the run and the
--                   drain of one of its own stores
-- delaying ls ms    how many of the eight threads did so, from the start on
use Rattle.std.specs.Prelude.{ℕ, Bool, true, false, cond, ◌&&◌, ◌||◌, List, [], ◌∷◌, ◌==◌}
use Rattle.program.specs.declared.lines.Line.{Line}
use Rattle.ledger.specs.Ledgers.{Entry, Ledger, start}
use Rattle.ledger.specs.Moves.{after_move}
use Rattle.ledger.specs.Tests.{sum_over, threads}
use Rattle.ledger.specs.declared.moves.Move.{Move}
use Rattle.ledger.specs.declared.moves.Move.TheVariants.{Run, Drain}

abbrev pub waits_here : List Entry → Bool
waits_here [] = false
waits_here (e ∷ es) = true

-- the move is such a run
abbrev pub delays_by : Ledger → ℕ → Move → Bool
delays_by l t (Run u n) = u == t && waits_here (l.waiting t)
delays_by l t (Drain u c) = false

abbrev pub delays : List Line → Ledger → ℕ → List Move → Bool
delays ls l t [] = false
delays ls l t (m ∷ ms) = delays_by l t m || delays ls (after_move ls l m) t ms

abbrev pub delaying : List Line → List Move → ℕ
delaying ls ms = sum_over (λ t. cond (delays ls start t ms) 1 0) threads
