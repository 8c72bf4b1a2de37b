-- What judging a replay in step with the ledger answers, as a reading's verdict or fault.
use Rattle.std.proofs.Common.{◌≡◌, ℕ, ◌<◌, ◌≤◌, Bool, true, false, not, ltb, List, length, take, Some, None, Ok, Err, MatchBool, Result, sym, refl, ap, ◌∙◌, subst}
use Rattle.std.proofs.lemmas.Bool.{le-ltb, lt-ltb}
use Rattle.refusal.specs.declared.Refusal.{Refusal}
use Rattle.refusal.specs.declared.Refusal.TheVariants.{StoreWaits, TooShort}
use Rattle.program.specs.declared.lines.Line.{Line}
use Rattle.buffers.specs.Laws.{Lawful, Rules}
use Rattle.buffers.specs.Lists.{Lists, nothing_waits}
use Rattle.ledger.specs.Judgements.{judge_tested}
use Rattle.ledger.specs.Moves.{ledger_of}
use Rattle.ledger.specs.Tests.{guard, how_many, lists_in}
use Rattle.ledger.specs.declared.moves.Move.{Move}
use Rattle.present.specs.Data.{Held, how_many_in}
use Rattle.present.specs.Theorems.{InStep}
use Rattle.present.proofs.Offering.{theorems}
use Rattle.replay.specs.Performed.{Told}
use Rattle.replay.specs.Verdicts.{JudgedHeld, JudgedIn, ListedIn}
use Rattle.replay.specs.declared.names.Name.{Name}
use Rattle.replay.specs.declared.verdicts.Verdict.{Verdict}
use Rattle.replay.proofs.Telling.{true_verdict}
use Rattle.recording.specs.Meaning.{whole}
use Rattle.recording.specs.Verdicts.{WrittenAs}
use Rattle.recording.specs.declared.records.Setup.{Setup}

module _ (rules : Rules) (lawful : Lawful rules) (ls : List Line) (ms : List Move) (h : Held) (in_step : InStep rules ls ms h) where
  -- With as many places as there are actions, a judgement where nothing waits is not refused,
  not_refused : (b : Bool) (places : ℕ) → b ≡ true → how_many_in h.own ≤ places → guard (not b) StoreWaits (guard (ltb places (how_many (ledger_of ls ms))) TooShort None) ≡ None
  not_refused true places nothing room = ap (λ b. guard b TooShort None) (le-ltb places (how_many (ledger_of ls ms)) (subst (λ n. n ≤ places) (theorems.counts rules ls ms h in_step) room))
  not_refused false places nothing room = absurd cc

  -- with fewer it is,
  too_short : (b : Bool) (places : ℕ) → b ≡ true → places < how_many_in h.own → guard (not b) StoreWaits (guard (ltb places (how_many (ledger_of ls ms))) TooShort None) ≡ Some TooShort
  too_short true places nothing room = ap (λ b. guard b TooShort None) (lt-ltb places (how_many (ledger_of ls ms)) (subst (λ n. places < n) (theorems.counts rules ls ms h in_step) room))
  too_short false places nothing room = absurd cc

  -- What a judgement lists is told of the actions.
  told_of : (before after : List Name) (v : Verdict) → ListedIn h.own before v after → Told h.own v (take v.entries after)
  told_of before after v so = record { numbers = so.numbers; found = so.found; entries = so.entries; list = so.list; delayed = so.delayed }

  -- A verdict on them is true of the recording that is read so,
  pub verdict_read : (s : Setup) (n : ℕ) (before after : List Name) (v : Verdict) → JudgedHeld h before (Ok v) after → WrittenAs (whole s ls ms n) before v after
  verdict_read s n before after v so = go (nothing_waits (lists_in (ledger_of ls ms))) refl (subst (λ (lists : Lists). MatchBool (nothing_waits lists) (JudgedIn h.own before (Ok v) after) ((◌≡◌ {A = Result Verdict Refusal} (Ok v) (Err StoreWaits)) × (after ≡ before))) in_step.agrees.lists so)
    where
      go : (b : Bool) → nothing_waits (lists_in (ledger_of ls ms)) ≡ b → MatchBool b (JudgedIn h.own before (Ok v) after) ((◌≡◌ {A = Result Verdict Refusal} (Ok v) (Err StoreWaits)) × (after ≡ before)) → WrittenAs (whole s ls ms n) before v after
      go true nothing here = record {
        true_of = (
          not_refused (nothing_waits (lists_in (ledger_of ls ms))) (length before) nothing here.0,
          true_verdict rules lawful ls ms h in_step nothing v (take v.entries after) (told_of before after v here.1),
        );
        within = here.1.within;
        later = here.1.later;
      }
      go false some here = absurd (cc here.0)

  -- and a refusal is the one that the ledger says, and leaves the list as it was.
  pub refusal_read : (before after : List Name) (r : Refusal) → JudgedHeld h before (Err r) after → (judge_tested (ledger_of ls ms) (length before) ≡ Some r) × (after ≡ before)
  refusal_read before after r so = go (nothing_waits (lists_in (ledger_of ls ms))) refl (subst (λ (lists : Lists). MatchBool (nothing_waits lists) (JudgedIn h.own before (Err r) after) ((◌≡◌ {A = Result Verdict Refusal} (Err r) (Err StoreWaits)) × (after ≡ before))) in_step.agrees.lists so)
    where
      go : (b : Bool) → nothing_waits (lists_in (ledger_of ls ms)) ≡ b → MatchBool b (JudgedIn h.own before (Err r) after) ((◌≡◌ {A = Result Verdict Refusal} (Err r) (Err StoreWaits)) × (after ≡ before)) → (judge_tested (ledger_of ls ms) (length before) ≡ Some r) × (after ≡ before)
      go true nothing here = (too_short (nothing_waits (lists_in (ledger_of ls ms))) (length before) nothing here.0 ∙ ap Some (sym here.1), here.2)
      go false some here = (ap (λ b. guard (not b) StoreWaits (guard (ltb (length before) (how_many (ledger_of ls ms))) TooShort None)) some ∙ (let same : StoreWaits ≡ r = cc here.0 in ap Some same), here.1)
