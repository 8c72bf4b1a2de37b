-- The worked runs, computed.
use Rattle.std.proofs.Common.{◌≡◌, ℕ, ◌<◌, true, List, [], ◌∷◌, sym, refl, subst, inl, inr, arith}
use Rattle.std.specs.List.{All}
use Rattle.std.proofs.lemmas.List.Elements.{All-nil, All-cons}
use Rattle.std.proofs.lemmas.Bool.{true≢false}
use Rattle.program.specs.declared.lines.Line.{Line}
use Rattle.buffers.specs.Kinds.{direct, per_cell, queue}
use Rattle.buffers.specs.Lists.{nothing_waits}
use Rattle.ledger.specs.Actions.{Name, name}
use Rattle.ledger.specs.Edges.{Trace, is_action}
use Rattle.ledger.specs.Ledgers.{start}
use Rattle.ledger.specs.Mistakes.{Mistakes}
use Rattle.ledger.specs.Moves.{ledger_of}
use Rattle.ledger.specs.Orders.{Order, Ready}
use Rattle.ledger.specs.Runs.{Accepted, SequentialRun}
use Rattle.ledger.specs.Tests.{lists_in}
use Rattle.ledger.specs.Verdicts.{Different, ListsRing, Lower, LowestFirst, ShowsRing, next_of}
use Rattle.ledger.specs.Worked.{WorkedRuns, dekker, early, forwarding, four, late, passing, prompt, swapped, trace_after}
use Rattle.ledger.specs.declared.moves.Move.{Move}
use Rattle.ledger.specs.declared.moves.Move.TheVariants.{Run, Drain}
use Rattle.ledger.proofs.Checked.{checked_order, lacks_member}
use Rattle.ledger.proofs.Draining.{sound_moves}
use Rattle.ledger.proofs.Forward.{direct_lawful, run_gives_no_ring}
use Rattle.ledger.proofs.Sound.{Sound, sound_start}
use Rattle.ledger.proofs.Timed.{nothing_waits_from}

sound_direct : (ls : List Line) (ms : List Move) → Accepted direct ls start ms → Sound ls (ledger_of ls ms)
sound_direct ls ms accepted = sound_moves direct direct_lawful ls ms start (sound_start ls) accepted

-- Moves that direct accepts, and that leave nothing waiting in the lists, are a sequentially consistent run.
computed_run : (ls : List Line) (ms : List Move) → Accepted direct ls start ms → nothing_waits (lists_in (ledger_of ls ms)) ≡ true → SequentialRun ls ms
computed_run ls ms accepted empty = record { accepted = accepted; drained = nothing_waits_from ls (ledger_of ls ms) (sound_direct ls ms accepted) empty }

prompt_accepted : Accepted direct dekker start prompt
prompt_accepted = (refl, (refl, (refl, (refl, (refl, (refl, tt))))))

early_moves : List Move
early_moves = Run 0 0 ∷ Drain 0 0 ∷ Run 0 1 ∷ []

early_accepted : Accepted direct forwarding start early_moves
unfolding early_moves
early_accepted = (refl, (refl, (refl, tt)))

-- A ring that is there leaves no run.
pub shows : (ls : List Line) (x : Trace) (names : List Name) → ListsRing x names → ShowsRing ls x names
shows ls x [] ring = absurd ring
shows ls x (a ∷ []) ring = absurd ring
shows ls x (a ∷ b ∷ names) ring = record { no_run = λ run. run_gives_no_ring ls x run (a ∷ b ∷ names) ring.0; ring = ring }

different : Different four
different = (lacks_member _ (name 0 1 ∷ name 1 0 ∷ name 1 1 ∷ []) refl, (lacks_member _ (name 1 0 ∷ name 1 1 ∷ []) refl, (lacks_member _ (name 1 1 ∷ []) refl, (lacks_member _ [] refl, tt))))

lower : All (Lower (name 0 0)) (name 0 1 ∷ name 1 0 ∷ name 1 1 ∷ [])
lower =
    All-cons (Lower (name 0 0)) (name 0 1) (name 1 0 ∷ name 1 1 ∷ []) (inr (refl, omega arith))
    (All-cons (Lower (name 0 0)) (name 1 0) (name 1 1 ∷ []) (inl (omega arith)) (All-cons (Lower (name 0 0)) (name 1 1) [] (inl (omega arith)) (All-nil (Lower (name 0 0)))))

prompt_order : Order (trace_after queue dekker prompt) four
prompt_order = checked_order dekker (ledger_of dekker prompt) (sound_direct dekker prompt prompt_accepted) four refl refl

-- There is no thread below the first, and the first has no third action.
below_first : (P : ℕ → Type 0) (u : ℕ) → u < 0 → P u
below_first P u lt = absurd (omega (arith, lt))

below_second : (P : ℕ → Type 0) → P 0 → (u : ℕ) → u < 1 → P u
below_second P first u lt = subst P (let z : 0 ≡ u = omega (arith, lt) in z) first

prompt_lowest : LowestFirst (trace_after queue dekker prompt) [] four
prompt_lowest =
    let x = trace_after queue dekker prompt in
    let o = prompt_order.ordered in (
      refl,
      o.2,
      below_first (λ u. is_action x (next_of [] u) ≡ true → Ready x [] (next_of [] u) → ⊥),
      (
        refl,
        o.3.2,
        below_first (λ u. is_action x (next_of (name 0 0 ∷ []) u) ≡ true → Ready x (name 0 0 ∷ []) (next_of (name 0 0 ∷ []) u) → ⊥),
        (
          refl,
          o.3.3.2,
          below_second (λ u. is_action x (next_of (name 0 0 ∷ name 0 1 ∷ []) u) ≡ true → Ready x (name 0 0 ∷ name 0 1 ∷ []) (next_of (name 0 0 ∷ name 0 1 ∷ []) u) → ⊥) (λ third ready. true≢false (sym third)),
          (refl, o.3.3.3.2, below_second (λ u. is_action x (next_of (name 0 0 ∷ name 0 1 ∷ name 1 0 ∷ []) u) ≡ true → Ready x (name 0 0 ∷ name 0 1 ∷ name 1 0 ∷ []) (next_of (name 0 0 ∷ name 0 1 ∷ name 1 0 ∷ []) u) → ⊥) (λ third ready. true≢false (sym third)), tt),
        ),
      ),
    )

early_order : Order (trace_after queue forwarding early) (name 0 0 ∷ name 0 1 ∷ [])
unfolding early_moves
early_order = checked_order forwarding (ledger_of forwarding early_moves) (sound_direct forwarding early_moves early_accepted) (name 0 0 ∷ name 0 1 ∷ []) refl refl

early_lowest : LowestFirst (trace_after queue forwarding early) [] (name 0 0 ∷ name 0 1 ∷ [])
early_lowest =
    let x = trace_after queue forwarding early in
    let o = early_order.ordered in (
      refl,
      o.2,
      below_first (λ u. is_action x (next_of [] u) ≡ true → Ready x [] (next_of [] u) → ⊥),
      (refl, o.3.2, below_first (λ u. is_action x (next_of (name 0 0 ∷ []) u) ≡ true → Ready x (name 0 0 ∷ []) (next_of (name 0 0 ∷ []) u) → ⊥), tt),
    )

pub worked_runs : WorkedRuns
unfolding early_moves
worked_runs = record {
  late_answers = refl;
  late_verdict = shows dekker (trace_after queue dekker late) four ((refl, (refl, (refl, refl))), different, lower);
  prompt_answers = refl;
  prompt_verdict = record { order = prompt_order; lowest = prompt_lowest; run = record { run = computed_run dekker prompt prompt_accepted refl; trace = record { actions = λ t. refl; drained = λ c. refl } } };
  half_late_answers = refl;
  half_late_trace = record { actions = λ t. refl; drained = λ c. refl };
  direct_answers = refl;
  queue_order = refl;
  swapped_answers = refl;
  swapped_verdict = shows passing (trace_after per_cell passing swapped) four ((refl, (refl, (refl, refl))), different, lower);
  strong_answers = refl;
  early_answers = refl;
  early_source = refl;
  early_verdict = record { order = early_order; lowest = early_lowest; run = record { run = computed_run forwarding early_moves early_accepted refl; trace = record { actions = λ t. refl; drained = λ c. refl } } };
  mixed_answers = refl;
  full_answers = refl;
}

pub mistakes : Mistakes
mistakes = record { without_initial = refl; with_memory_alone = (refl, refl); with_drains = refl }
