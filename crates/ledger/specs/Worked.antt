-- Worked runs: what the definitions say of small programs, worked out by hand from the rules.
-- dekker      thread 0 stores 1 to cell 0 (instruction 0) and loads cell 1 (1); thread 1 does the same with the cells exchanged (2, 3)
-- passing     thread 0 stores 5 to cell 0 (0) and 1 to cell 1 (1); thread 1 loads cell 1 (2), then cell 0 (3)
-- forwarding  thread 0 stores 7 to cell 0 (0) and loads it (1)
-- mixed       thread 0 adds 2 and 3 into register 1 (0), stores that to cell 15 (1), fences (2), loads cell 15 into register 2 (3)
--             and asserts it (4); then, all at label 5, it may load cell 16 (5), store to cell 16 (6) or assert 0 (7)
-- filling     thread 0 stores 1 to cell 0 (0) again and again
use Rattle.std.specs.Prelude.{◌≡◌, ℕ, ◌+◌, Bool, true, false, List, [], ◌∷◌, Ok, Err}
use Rattle.refusal.specs.declared.Refusal.TheVariants.{ThreadOutOfRange, NoSuchInstruction, AtAnotherLabel, ThreadNotFree, FenceBeforeDrain, CellOutOfRange, AssertFailed, BufferFull, DrainNotFree}
use Rattle.program.specs.declared.forms.Instruction.{Instruction}
use Rattle.program.specs.declared.forms.Instruction.TheVariants.{Load, Store, Fence, Compute, Assert}
use Rattle.program.specs.declared.forms.Operand.TheVariants.{Constant, Register}
use Rattle.program.specs.declared.operations.Operation.TheVariants.{Sum}
use Rattle.program.specs.declared.lines.Line.{Line}
use Rattle.buffers.specs.Kinds.{direct, per_cell, queue, strong}
use Rattle.buffers.specs.Laws.{Rules}
use Rattle.ledger.specs.Actions.{Name, from, loads, name}
use Rattle.ledger.specs.Answers.{after_offers, outcomes}
use Rattle.ledger.specs.Edges.{SameTrace, Trace, trace_of}
use Rattle.ledger.specs.Ledgers.{action_at, start}
use Rattle.ledger.specs.Verdicts.{ListsRun, ShowsRing}
use Rattle.ledger.specs.declared.moves.Move.{Move}
use Rattle.ledger.specs.declared.moves.Move.TheVariants.{Run, Drain}

abbrev line : ℕ → ℕ → Instruction → Line
line t l i = record { thread = t; label = l; next = l + 1; instruction = i }

abbrev pub dekker : List Line
dekker =
    line 0 0 (Store (Constant 0) (Constant 1)) ∷ line 0 1 (Load 0 (Constant 1))
    ∷ line 1 0 (Store (Constant 1) (Constant 1)) ∷ line 1 1 (Load 0 (Constant 0)) ∷ []

abbrev pub passing : List Line
passing =
    line 0 0 (Store (Constant 0) (Constant 5)) ∷ line 0 1 (Store (Constant 1) (Constant 1))
    ∷ line 1 0 (Load 0 (Constant 1)) ∷ line 1 1 (Load 1 (Constant 0)) ∷ []

abbrev pub forwarding : List Line
forwarding = line 0 0 (Store (Constant 0) (Constant 7)) ∷ line 0 1 (Load 0 (Constant 0)) ∷ []

abbrev pub mixed : List Line
mixed =
    line 0 0 (Compute 1 Sum (Constant 2) (Constant 3)) ∷ line 0 1 (Store (Constant 15) (Register 1)) ∷ line 0 2 Fence
    ∷ line 0 3 (Load 2 (Constant 15)) ∷ line 0 4 (Assert (Register 2)) ∷ line 0 5 (Load 0 (Constant 16))
    ∷ line 0 5 (Store (Constant 16) (Constant 1)) ∷ line 0 5 (Assert (Constant 0)) ∷ []

abbrev pub filling : List Line
filling = record { thread = 0; label = 0; next = 0; instruction = Store (Constant 0) (Constant 1) } ∷ []

-- the fence before and after the drain, and on to label 5; then the three that are refused, and each other way to be refused
abbrev pub through : List Move
through =
    Run 0 0 ∷ Run 0 1 ∷ Run 0 2 ∷ Drain 0 15 ∷ Run 0 2 ∷ Run 0 3 ∷ Run 0 4 ∷ Run 0 5 ∷ Run 0 6 ∷ Run 0 7
    ∷ Run 8 0 ∷ Run 0 8 ∷ Run 1 0 ∷ Run 0 0 ∷ Drain 8 0 ∷ Drain 0 16 ∷ Drain 0 15 ∷ []

-- both stores run, both loads, then the drains
abbrev pub late : List Move
late = Run 0 0 ∷ Run 0 1 ∷ Run 1 2 ∷ Run 1 3 ∷ Drain 0 0 ∷ Drain 1 1 ∷ []

-- each store drained directly, thread 0 first
abbrev pub prompt : List Move
prompt = Run 0 0 ∷ Drain 0 0 ∷ Run 0 1 ∷ Run 1 2 ∷ Drain 1 1 ∷ Run 1 3 ∷ []

-- the same, but thread 0's drain after its load
abbrev pub half_late : List Move
half_late = Run 0 0 ∷ Run 0 1 ∷ Drain 0 0 ∷ Run 1 2 ∷ Drain 1 1 ∷ Run 1 3 ∷ []

-- both stores run, and the second drained first; then both loads, and the other drain
abbrev pub swapped : List Move
swapped = Run 0 0 ∷ Run 0 1 ∷ Drain 0 1 ∷ Run 1 2 ∷ Run 1 3 ∷ Drain 0 0 ∷ []

abbrev pub early : List Move
early = Run 0 0 ∷ Run 0 1 ∷ Drain 0 0 ∷ []

abbrev pub trace_after : Rules → List Line → List Move → Trace
trace_after rules ls ms = trace_of (after_offers rules ls start ms)

-- the first and the second action of thread 0, then of thread 1
abbrev pub four : List Name
four = name 0 0 ∷ name 0 1 ∷ name 1 0 ∷ name 1 1 ∷ []

abbrev only_cell_0 : List Bool
only_cell_0 = true ∷ false ∷ false ∷ false ∷ false ∷ false ∷ false ∷ false ∷ false ∷ false ∷ false ∷ false ∷ false ∷ false ∷ false ∷ false ∷ []

-- sixteen of these and one more
abbrev seventeen : {X : Type 0} → X → X → List X
seventeen x y = x ∷ x ∷ x ∷ x ∷ x ∷ x ∷ x ∷ x ∷ x ∷ x ∷ x ∷ x ∷ x ∷ x ∷ x ∷ x ∷ y ∷ []

pub record WorkedRuns : Type 0 where
  -- over queue both loads find 0, and the four actions are a ring
  pub late_answers : outcomes queue dekker start late ≡ Ok 1 ∷ Ok 0 ∷ Ok 1 ∷ Ok 0 ∷ Ok 1 ∷ Ok 1 ∷ []
  pub late_verdict : ShowsRing dekker (trace_after queue dekker late) four
  -- with each store drained directly the last load finds 1; the four in this order are a run
  pub prompt_answers : outcomes queue dekker start prompt ≡ Ok 1 ∷ Ok 1 ∷ Ok 0 ∷ Ok 1 ∷ Ok 1 ∷ Ok 1 ∷ []
  pub prompt_verdict : ListsRun dekker (trace_after queue dekker prompt) four
  -- a drain after the thread's own load changes nothing of the trace
  pub half_late_answers : outcomes queue dekker start half_late ≡ Ok 1 ∷ Ok 0 ∷ Ok 1 ∷ Ok 1 ∷ Ok 1 ∷ Ok 1 ∷ []
  pub half_late_trace : SameTrace (trace_after queue dekker half_late) (trace_after queue dekker prompt)
  -- over direct a thread does not step while its store waits
  pub direct_answers : outcomes direct dekker start (Run 0 0 ∷ Run 0 1 ∷ []) ≡ Ok 1 ∷ Err ThreadNotFree ∷ []
  -- queue does not let the second store drain first, per-cell does, and then the four are a ring
  pub queue_order : outcomes queue passing start (Run 0 0 ∷ Run 0 1 ∷ Drain 0 1 ∷ []) ≡ Ok 5 ∷ Ok 1 ∷ Err DrainNotFree ∷ []
  pub swapped_answers : outcomes per_cell passing start swapped ≡ Ok 5 ∷ Ok 1 ∷ Ok 1 ∷ Ok 1 ∷ Ok 0 ∷ Ok 5 ∷ []
  pub swapped_verdict : ShowsRing passing (trace_after per_cell passing swapped) four
  -- with cell 0 strong the second store does not run while the first waits
  pub strong_answers : outcomes (strong only_cell_0 per_cell) passing start (Run 0 0 ∷ Run 0 1 ∷ []) ≡ Ok 5 ∷ Err ThreadNotFree ∷ []
  -- a load finds the thread's own waiting store, which is its source; once that is drained there is a run
  pub early_answers : outcomes queue forwarding start early ≡ Ok 7 ∷ Ok 7 ∷ Ok 7 ∷ []
  pub early_source : (action_at (trace_after queue forwarding early).actions (name 0 1)).access ≡ loads 0 (from (name 0 0))
  pub early_verdict : ListsRun forwarding (trace_after queue forwarding early) (name 0 0 ∷ name 0 1 ∷ [])
  -- every form, and every refusal but those that the others meet
  pub mixed_answers :
      outcomes queue mixed start through
      ≡ Ok 5 ∷ Ok 5 ∷ Err FenceBeforeDrain ∷ Ok 5 ∷ Ok 0 ∷ Ok 5 ∷ Ok 5 ∷ Err CellOutOfRange ∷ Err CellOutOfRange ∷ Err AssertFailed
      ∷ Err ThreadOutOfRange ∷ Err NoSuchInstruction ∷ Err NoSuchInstruction ∷ Err AtAnotherLabel ∷ Err ThreadOutOfRange ∷ Err CellOutOfRange ∷ Err DrainNotFree ∷ []
  -- sixteen stores of a thread wait, and no more
  pub full_answers : outcomes queue filling start (seventeen (Run 0 0) (Run 0 0)) ≡ seventeen (Ok 1) (Err BufferFull)
