-- A replay in step with the ledger stays in step, and is judged by the edges of the trace.
use Rattle.std.proofs.Common.{◌≡◌, ℕ, ◌<◌, leb, List, [], ◌∷◌, Some, None, Option, sym, refl, ap, ◌∙◌, subst}
use Rattle.std.proofs.lemmas.Bool.{leb-false}
use Rattle.refusal.specs.declared.Refusal.{Refusal}
use Rattle.refusal.specs.declared.Refusal.TheVariants.{ThreadOutOfRange}
use Rattle.program.specs.declared.lines.Line.{Line}
use Rattle.buffers.specs.Laws.{Lawful, Rules}
use Rattle.ledger.specs.Answers.{answer, answered, outcome}
use Rattle.ledger.specs.Ledgers.{Ledger, start}
use Rattle.ledger.specs.Moves.{after_move, ledger_of}
use Rattle.ledger.specs.Runs.{Accepted}
use Rattle.ledger.specs.Tests.{Passes, tested}
use Rattle.ledger.specs.declared.moves.Move.{Move}
use Rattle.ledger.specs.declared.moves.Move.TheVariants.{Run, Drain}
use Rattle.ledger.proofs.Draining.{sound_moves}
use Rattle.ledger.proofs.Ordered.{accepted_append, after_append}
use Rattle.ledger.proofs.Passing.{guard_passed}
use Rattle.ledger.proofs.Sound.{Sound, sound_start}
use Rattle.present.specs.Agreement.{Agrees}
use Rattle.present.specs.Calls.{after_move_held, after_offer_held, answer_held, kept_by, outcome_held, tested_held}
use Rattle.present.specs.Data.{Held}
use Rattle.present.specs.Theorems.{InStep, Theorems, joined_by_offer, offered}
use Rattle.present.proofs.Drained.{drain_agrees, drain_answer, drain_tested}
use Rattle.present.proofs.Joining.{joins_agree, nodes_agree}
use Rattle.present.proofs.Running.{kept_many, run_agrees, run_answer, run_tested}
use Rattle.present.proofs.Tracking.{agrees_start, delays_agree, tracks_offer}

-- The thread of a run that passes is one of the eight.
run_in_range : (rules : Rules) (ls : List Line) (l : Ledger) (t n : ℕ) → Passes rules ls l (Run t n) → t < 8
run_in_range rules ls l t n passes = leb-false 8 t (guard_passed (leb 8 t) ThreadOutOfRange _ passes).0

module _ (rules : Rules) (lawful : Lawful rules) (ls : List Line) (l : Ledger) (sound : Sound ls l) (h : Held) (agrees : Agrees l h) where
  -- The tests over what the replay holds are those over the ledger.
  pub tested_same : (m : Move) → tested_held rules ls h m ≡ tested rules ls l m
  tested_same (Run t n) = run_tested rules ls l h agrees t n
  tested_same (Drain t c) = drain_tested rules lawful ls l h agrees t c

  -- So is the answer to a move that passes.
  answer_same : (m : Move) → Passes rules ls l m → answer_held ls h m ≡ answer ls l m
  answer_same (Run t n) passes = run_answer ls l sound h agrees t n (run_in_range rules ls l t n passes)
  answer_same (Drain t c) passes = drain_answer rules lawful ls l sound h agrees t c passes

  -- A move that passes leaves the two in agreement.
  moved_agrees : (m : Move) → Passes rules ls l m → Agrees (after_move ls l m) (after_move_held ls h m)
  moved_agrees (Run t n) passes = run_agrees ls l sound h agrees t n (run_in_range rules ls l t n passes)
  moved_agrees (Drain t c) passes = drain_agrees rules lawful ls l sound h agrees t c passes

  -- An offered move is answered as the ledger says.
  pub outcome_same : (m : Move) → outcome_held rules ls h m ≡ outcome rules ls l m
  outcome_same m = ap (λ o. answered o (answer_held ls h m)) (tested_same m) ∙ go (tested rules ls l m) refl
    where
      go : (o : Option Refusal) → tested rules ls l m ≡ o → answered o (answer_held ls h m) ≡ answered o (answer ls l m)
      go None is = ap (answered None) (answer_same m is)
      go (Some r) is = refl

-- The moves that are accepted once another is offered are accepted moves, and lead to the ledger after the offer.
module _ (rules : Rules) (ls : List Line) (ms : List Move) (accepted : Accepted rules ls start ms) (m : Move) where
  pub accepted_offer : Accepted rules ls start (offered rules ls ms m)
  accepted_offer = go (tested rules ls (ledger_of ls ms) m) refl
    where
      go : (o : Option Refusal) → tested rules ls (ledger_of ls ms) m ≡ o → Accepted rules ls start (joined_by_offer o ms m)
      go None is = accepted_append rules ls start ms (m ∷ []) accepted (is, tt)
      go (Some r) is = accepted

-- Such a replay stays in step.
module _ (rules : Rules) (lawful : Lawful rules) (ls : List Line) (ms : List Move) (h : Held) (in_step : InStep rules ls ms h) where
  pub sound_here : Sound ls (ledger_of ls ms)
  sound_here = sound_moves rules lawful ls ms start (sound_start ls) in_step.accepted

  agrees_offer : (m : Move) → Agrees (ledger_of ls (offered rules ls ms m)) (after_offer_held rules ls h m)
  agrees_offer m =
      subst (λ o. Agrees (ledger_of ls (offered rules ls ms m)) (kept_by o h (after_move_held ls h m)))
      (sym (tested_same rules lawful ls (ledger_of ls ms) sound_here h in_step.agrees m)) (go (tested rules ls (ledger_of ls ms) m) refl)
    where
      go : (o : Option Refusal) → tested rules ls (ledger_of ls ms) m ≡ o → Agrees (ledger_of ls (joined_by_offer o ms m)) (kept_by o h (after_move_held ls h m))
      go None is =
          subst (λ l. Agrees l (after_move_held ls h m)) (sym (after_append ls start ms (m ∷ [])))
          (moved_agrees rules lawful ls (ledger_of ls ms) sound_here h in_step.agrees m is)
      go (Some r) is = in_step.agrees

  pub goes_on : (m : Move) → InStep rules ls (offered rules ls ms m) (after_offer_held rules ls h m)
  goes_on m = record {
    accepted = accepted_offer rules ls ms in_step.accepted m;
    agrees = agrees_offer m;
    tracks = tracks_offer rules ls ms h in_step.agrees in_step.tracks m (tested_same rules lawful ls (ledger_of ls ms) sound_here h in_step.agrees m);
  }

pub theorems : Theorems
theorems = record {
  begins = λ rules ls. record { accepted = tt; agrees = agrees_start; tracks = λ t. refl };
  answers = λ rules lawful ls ms h s m. outcome_same rules lawful ls (ledger_of ls ms) (sound_here rules lawful ls ms h s) h s.agrees m;
  goes_on = goes_on;
  nodes = λ rules lawful ls ms h s. nodes_agree (ledger_of ls ms) h s.agrees;
  edges = λ rules lawful ls ms h s u v. joins_agree ls (ledger_of ls ms) (sound_here rules lawful ls ms h s) h s.agrees u v;
  counts = λ rules ls ms h s. kept_many (ledger_of ls ms) h s.agrees;
  delays = λ rules ls ms h s. delays_agree ls ms h s.tracks;
}
