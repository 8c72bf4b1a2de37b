-- The table of worked runs, whole. The other programs and the moves are those of the ledger's worked runs.
-- dekker_fenced    as dekker, with a fence between thread 0's store and its load: thread 0 stores 1 to cell 0 (instruction 0), fences (1)
--                  and loads cell 1 (2); thread 1 stores 1 to cell 1 (3) and loads cell 0 (4)
-- store_waiting    the ledger of dekker once thread 0's store has run
use Rattle.std.specs.Prelude.{◌≡◌, ℕ, ◌+◌, List, [], ◌∷◌, length, Some, None}
use Rattle.refusal.specs.Refusals.{number_of}
use Rattle.refusal.specs.declared.Refusal.TheVariants.{StoreWaits, TooShort}
use Rattle.program.specs.declared.forms.Instruction.{Instruction}
use Rattle.program.specs.declared.forms.Instruction.TheVariants.{Load, Store, Fence}
use Rattle.program.specs.declared.forms.Operand.TheVariants.{Constant}
use Rattle.program.specs.declared.lines.Line.{Line}
use Rattle.buffers.specs.Kinds.{queue}
use Rattle.ledger.specs.Delays.{delaying}
use Rattle.ledger.specs.Edges.{trace_of}
use Rattle.ledger.specs.Judgements.{judge_tested}
use Rattle.ledger.specs.Ledgers.{Ledger, start}
use Rattle.ledger.specs.Moves.{ledger_of}
use Rattle.ledger.specs.Verdicts.{ListsRun}
use Rattle.ledger.specs.Worked.{WorkedRuns, dekker, early, forwarding, four, half_late, late, passing, prompt, swapped, trace_after}
use Rattle.ledger.specs.declared.moves.Move.TheVariants.{Run}
use Rattle.attacks.specs.Attacks.{AttackPairs}
use Rattle.attacks.specs.Tables.{pair}

abbrev line : ℕ → ℕ → Instruction → Line
line t l i = record { thread = t; label = l; next = l + 1; instruction = i }

abbrev pub dekker_fenced : List Line
dekker_fenced =
    line 0 0 (Store (Constant 0) (Constant 1)) ∷ line 0 1 Fence ∷ line 0 2 (Load 0 (Constant 1))
    ∷ line 1 0 (Store (Constant 1) (Constant 1)) ∷ line 1 1 (Load 0 (Constant 0)) ∷ []

abbrev pub store_waiting : Ledger
store_waiting = ledger_of dekker (Run 0 0 ∷ [])

pub record Table : Type 0 where
  -- what each move answers, and the verdicts
  pub runs : WorkedRuns
  -- with late drains both threads of dekker delayed a store
  pub late_delays : delaying dekker late ≡ 2
  -- with each store drained directly none did
  pub prompt_delays : delaying dekker prompt ≡ 0
  -- with thread 0's drain after its load one did
  pub half_late_delays : delaying dekker half_late ≡ 1
  -- thread 0 of passing runs its second store while the first waits
  pub swapped_delays : delaying passing swapped ≡ 1
  -- the thread of forwarding loads from its own waiting store
  pub early_delays : delaying forwarding early ≡ 1
  -- the rings of late and swapped, and the order of prompt, list four actions
  pub four_names : length four ≡ 4
  -- a thread that delayed is no violation yet: half_late is sequential, with the same list as prompt
  pub half_late_verdict : ListsRun dekker (trace_after queue dekker half_late) four
  -- a fresh replay is judged into a list of no places
  pub fresh_judged : judge_tested start 0 ≡ None
  -- it is sequential, with the empty list
  pub fresh_verdict : ListsRun dekker (trace_of start) []
  -- and no thread delayed
  pub fresh_delays : delaying dekker [] ≡ 0
  -- while a store waits a judgement is refused, however many places the list has
  pub waiting_refused : (places : ℕ) → judge_tested store_waiting places ≡ Some StoreWaits
  -- that is refusal 14
  pub waiting_number : number_of StoreWaits ≡ 14
  -- with nothing waiting, a list of three places is too short for four actions
  pub short_refused : judge_tested (ledger_of dekker late) 3 ≡ Some TooShort
  -- that is refusal 15
  pub short_number : number_of TooShort ≡ 15
  -- and a list of four places is not refused
  pub long_judged : judge_tested (ledger_of dekker late) 4 ≡ None
  -- the attack pairs of dekker are each thread's store and load
  pub dekker_pairs : AttackPairs dekker (pair 0 1 ∷ pair 2 3 ∷ [])
  -- a fence on thread 0's only chain leaves only thread 1's
  pub fenced_pairs : AttackPairs dekker_fenced (pair 3 4 ∷ [])
