-- Offering the moves of a recording to a replay, record by record.
use Rattle.std.proofs.Common.{◌≡◌, ℕ, ◌≤◌, List, [], ◌∷◌, ◌++◌, length, Some, None, Ok, Err, Option, Result, sym, refl, ap, ◌∙◌, subst, arith}
use Rattle.std.specs.Option.{option_map}
use Rattle.refusal.specs.declared.Refusal.{Refusal}
use Rattle.refusal.specs.declared.Refusal.TheVariants.{RecordOutOfPlace}
use Rattle.program.specs.declared.lines.Line.{Line}
use Rattle.buffers.specs.Laws.{Lawful, Rules}
use Rattle.ledger.specs.Answers.{answer, answered, outcome}
use Rattle.ledger.specs.Moves.{ledger_of}
use Rattle.ledger.specs.Tests.{tested}
use Rattle.ledger.specs.declared.moves.Move.{Move}
use Rattle.present.specs.Calls.{after_offer_held}
use Rattle.present.specs.Data.{Held, fresh_held}
use Rattle.present.specs.Theorems.{InStep, joined_by_offer}
use Rattle.present.proofs.Offering.{theorems}
use Rattle.replay.specs.Offers.{Offered}
use Rattle.replay.specs.Verdicts.{JudgedHeld}
use Rattle.replay.specs.declared.names.Name.{Name}
use Rattle.replay.specs.declared.verdicts.Verdict.{Verdict}
use Rattle.recording.specs.Meaning.{Phase, Reading, fault, move_of, moved_by, moving, rules_of, stepped, whole}
use Rattle.recording.specs.Steps.{AtFault, Peeked, moving_from, past_of, placed_at}
use Rattle.recording.specs.Verdicts.{ReadAs, WrittenAs, fault_at, faulty}
use Rattle.recording.specs.declared.faults.Failure.{Failure}
use Rattle.recording.specs.declared.faults.Failure.TheVariants.{At, Memory}
use Rattle.recording.specs.declared.faults.Place.{Place}
use Rattle.recording.specs.declared.records.Record.{Record}
use Rattle.recording.specs.declared.records.Record.TheVariants.{Setup, Instruction, Run, Drain}
use Rattle.recording.specs.declared.records.Setup.{Setup as Setup'}
use Rattle.recording.proofs.Judging.{refusal_read, verdict_read}
use Rattle.recording.proofs.Following.{cut, over, passed_all, steps_on, stops}

-- the step by an offered move, and by none
abbrev step_with : Setup' → List Line → List Move → Option Move → Result Phase Refusal
step_with s ls ms None = Err RecordOutOfPlace
step_with s ls ms (Some m) = moved_by s ls ms m (tested (rules_of s) ls (ledger_of ls ms) m)

-- A record steps by the move that it offers,
step_by : (s : Setup') (ls : List Line) (ms : List Move) (r : Record) → stepped (moving s ls ms) r ≡ step_with s ls ms (move_of r)
step_by s ls ms (Setup again) = refl
step_by s ls ms (Instruction f) = refl
step_by s ls ms (Run t n) = refl
step_by s ls ms (Drain t c) = refl

-- which is out of place if it offers none.
no_step : (s : Setup') (ls : List Line) (ms : List Move) (r : Record) → move_of r ≡ None → stepped (moving s ls ms) r ≡ Err RecordOutOfPlace
no_step s ls ms r is = step_by s ls ms r ∙ ap (step_with s ls ms) is

-- A move that is answered with a value passed its test,
tested_ok : (o : Option Refusal) (v w : ℕ) → Ok v ≡ answered o w → o ≡ None
tested_ok None v w is = refl
tested_ok (Some r) v w is = absurd cc

-- and one that is refused did not.
tested_err : (o : Option Refusal) (r : Refusal) (w : ℕ) → Err r ≡ answered o w → o ≡ Some r
tested_err None r w is = absurd cc
tested_err (Some e) r w is = cc

-- A reading at a fault is told as that fault.
pub fault_read : (read : Reading) (bytes : ℕ) (list : List Name) (e : Failure) → AtFault read e → ReadAs read bytes list (Err e) list
fault_read read bytes list (At f) is = (ap (λ found. faulty found bytes (length list)) is, refl)
fault_read read bytes list Memory is = refl

-- the records from start to place offered moves that were accepted, the replay is in step with them, and with them the meaning goes
-- on at place
pub record Going (rules : Rules) (ls : List Line) (bs : List ℕ) (start place : Place) (h : Held) : Type 0 where
  pub moves : List Move
  pub in_step : InStep rules ls moves h
  pub reads : (s : Setup') → rules ≡ rules_of s → moving_from bs start ls [] s ≡ moving_from bs place ls moves s

-- A fresh replay was offered none.
pub going_none : (rules : Rules) (ls : List Line) (bs : List ℕ) (start : Place) → Going rules ls bs start start fresh_held
going_none rules ls bs start = record {
  moves = [];
  in_step = theorems.begins rules ls;
  reads = λ s is. refl;
}

module _ (rules : Rules) (lawful : Lawful rules) (ls : List Line) (bs : List ℕ) (start place : Place) (h : Held) (going : Going rules ls bs start place h) where
  abbrev ms : List Move
  ms = going.moves

  -- What the replay answers is what the ledger says.
  answered_so : (m : Move) (o : Result ℕ Refusal) (after : Held) → Offered rules ls h m o after → o ≡ outcome rules ls (ledger_of ls ms) m
  answered_so m o after so = so.value ∙ theorems.answers rules lawful ls ms h going.in_step m

  -- One move more,
  pub going_more : (r : Record) (m : Move) (v : ℕ) (after : Held) → Peeked bs place (Ok (Some r)) → move_of r ≡ Some m → Offered rules ls h m (Ok v) after → Going rules ls bs start (past_of place r) after
  going_more r m v after here is so =
      let passed : tested rules ls (ledger_of ls ms) m ≡ None = tested_ok (tested rules ls (ledger_of ls ms) m) v (answer ls (ledger_of ls ms) m) (answered_so m (Ok v) after so) in
      record {
        moves = ms ++ m ∷ [];
        in_step =
            subst (InStep rules ls (ms ++ m ∷ [])) (sym so.held)
            (subst (λ o. InStep rules ls (joined_by_offer o ms m) (after_offer_held rules ls h m)) passed (theorems.goes_on rules lawful ls ms h going.in_step m));
        reads = λ s rule.
            going.reads s rule
            ∙ steps_on (moving s ls ms) place.index place.byte bs r (moving s ls (ms ++ m ∷ [])) here.0
            (step_by s ls ms r ∙ ap (step_with s ls ms) is ∙ ap (moved_by s ls ms m) (subst (λ (k : Rules). tested k ls (ledger_of ls ms) m ≡ None) rule passed));
      }

  -- or it is refused;
  pub going_refused : (r : Record) (m : Move) (e : Refusal) (after : Held) → Peeked bs place (Ok (Some r)) → move_of r ≡ Some m → Offered rules ls h m (Err e) after → (s : Setup') → rules ≡ rules_of s → moving_from bs start ls [] s ≡ fault e place.index place.byte
  going_refused r m e after here is so s rule =
      let failed : tested rules ls (ledger_of ls ms) m ≡ Some e = tested_err (tested rules ls (ledger_of ls ms) m) e (answer ls (ledger_of ls ms) m) (answered_so m (Err e) after so) in
      going.reads s rule
      ∙ stops (moving s ls ms) place.index place.byte bs r e here.0
      (step_by s ls ms r ∙ ap (step_with s ls ms) is ∙ ap (moved_by s ls ms m) (subst (λ (k : Rules). tested k ls (ledger_of ls ms) m ≡ Some e) rule failed))

  -- or be at fault.
  pub going_cut : (e : Failure) → Peeked bs place (Err e) → (s : Setup') → rules ≡ rules_of s → AtFault (moving_from bs start ls [] s) e
  going_cut (At f) here s rule =
      subst (λ f. moving_from bs start ls [] s ≡ fault f.refusal f.place.index f.place.byte) (sym here.1)
      (going.reads s rule ∙ cut (moving s ls ms) place.index place.byte bs here.0 here.2)
  going_cut Memory here s rule = absurd here

  -- At the end the recording is read whole,
  going_over : Peeked bs place (Ok None) → (s : Setup') → rules ≡ rules_of s → moving_from bs start ls [] s ≡ whole s ls ms place.index
  going_over here s rule = going.reads s rule ∙ over (moving s ls ms) place.index place.byte bs here

  -- and the judgement of the replay is that of the recording, a verdict
  pub going_judged : Peeked bs place (Ok None) → (before after : List Name) (v : Verdict) → JudgedHeld h before (Ok v) after → (s : Setup') → rules ≡ rules_of s → WrittenAs (moving_from bs start ls [] s) before v after
  going_judged here before after v so s rule = subst (λ read. WrittenAs read before v after) (sym (going_over here s rule)) (verdict_read rules lawful ls ms h going.in_step s place.index before after v so)

  -- or a refusal.
  pub going_unjudged : place.byte ≤ length bs → Peeked bs place (Ok None) → (before after : List Name) (e : Refusal) → JudgedHeld h before (Err e) after → (s : Setup') → rules ≡ rules_of s → (faulty (moving_from bs start ls [] s) (length bs) (length before) ≡ Some (fault_at e place.index place.byte)) × (after ≡ before)
  going_unjudged within here before after e so s rule =
      let told = refusal_read rules lawful ls ms h going.in_step before after e so in
      let end : length bs ≡ place.byte = omega (arith, passed_all place.byte bs here, within) in (
        ap (λ read. faulty read (length bs) (length before)) (going_over here s rule)
            ∙ ap (option_map (λ r. fault_at r place.index (length bs))) told.0
            ∙ ap (λ (n : ℕ). Some (fault_at e place.index n)) end,
        told.1,
      )

  -- What is answered of it is what is read, with the place behind the last record for a refusal.
  pub judged_told : place.byte ≤ length bs → Peeked bs place (Ok None) → (before after : List Name) (o : Result Verdict Refusal) → JudgedHeld h before o after → (s : Setup') → rules ≡ rules_of s → ReadAs (moving_from bs start ls [] s) (length bs) before (placed_at place o) after
  judged_told within here before after (Ok v) so s rule = going_judged here before after v so s rule
  judged_told within here before after (Err e) so s rule = going_unjudged within here before after e so s rule
