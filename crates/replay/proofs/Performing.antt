-- All answers to a list of calls are right, one call after another.
use Rattle.std.proofs.Common.{◌≡◌, ℕ, ◌+◌, ◌<◌, List, [], ◌∷◌, ◌++◌, length, get_or, take, Some, None, Option, sym, refl, ap, ◌∙◌, subst, ⊎_elim, arith}
use Rattle.std.proofs.lemmas.List.{get_or_append_left, get_or_push, length_push, length-take-le, take-append-le, take_at, take_more}
use Rattle.std.proofs.lemmas.Bool.{cases_lt}
use Rattle.refusal.specs.declared.Refusal.{Refusal}
use Rattle.program.specs.declared.lines.Line.{Line}
use Rattle.buffers.specs.Laws.{Lawful, Rules}
use Rattle.ledger.specs.Answers.{answer, answered, outcome}
use Rattle.ledger.specs.Moves.{ledger_of}
use Rattle.ledger.specs.Tests.{tested}
use Rattle.ledger.specs.declared.moves.Move.{Move}
use Rattle.present.specs.Calls.{after_offer_held}
use Rattle.present.specs.Data.{Held, fresh_held}
use Rattle.present.specs.Theorems.{InStep, joined_by_offer, offered}
use Rattle.present.proofs.Offering.{theorems}
use Rattle.replay.specs.Performed.{Answered}
use Rattle.replay.specs.Truth.{Right, VerdictsTrue, after_call, as_answer, history, joined_if_moved, since}
use Rattle.replay.specs.declared.calls.Answer.{Answer}
use Rattle.replay.specs.declared.calls.Answer.TheVariants.{StartedOver}
use Rattle.replay.specs.declared.calls.Call.{Call}
use Rattle.replay.specs.declared.calls.Call.TheVariants.{Offer, StartOver, Judge}
use Rattle.replay.proofs.Telling.{judged_right}

-- the first i calls are answered, each rightly, and the replay is in step with the moves accepted since the last start
pub record Going (rules : Rules) (ls : List Line) (calls : List Call) (i : ℕ) (answers : List Answer) (h : Held) : Type 0 where
  pub many : length answers ≡ i
  pub each : (k : ℕ) → k < i → Right rules ls (history (take k calls) (take k answers)) (get_or calls k StartOver) (get_or answers k StartedOver)
  pub in_step : InStep rules ls (history (take i calls) answers) h

-- Before the first call there is nothing to answer.
pub going_none : (rules : Rules) (ls : List Line) (calls : List Call) → Going rules ls calls 0 [] fresh_held
going_none rules ls calls = record { many = refl; each = λ k below. absurd (omega (arith, below)); in_step = theorems.begins rules ls }

-- One call more takes the history one call on.
since_push : (ms : List Move) (calls : List Call) (answers : List Answer) (c : Call) (a : Answer) → length answers ≡ length calls → since ms (calls ++ c ∷ []) (answers ++ a ∷ []) ≡ after_call (since ms calls answers) c a
since_push ms [] [] c a same = refl
since_push ms [] (b ∷ answers) c a same = absurd (omega (arith, same))
since_push ms (d ∷ calls) [] c a same = absurd (omega (arith, same))
since_push ms (d ∷ calls) (b ∷ answers) c a same = since_push (after_call ms d b) calls answers c a (omega (arith, same))

module _ (rules : Rules) (lawful : Lawful rules) (ls : List Line) (ms : List Move) (h : Held) (in_step : InStep rules ls ms h) where
  -- The moves accepted after an offer, told by its answer.
  joined_same : (m : Move) → offered rules ls ms m ≡ joined_if_moved ms m (as_answer (outcome rules ls (ledger_of ls ms) m))
  joined_same m = go (tested rules ls (ledger_of ls ms) m)
    where
      go : (o : Option Refusal) → joined_by_offer o ms m ≡ joined_if_moved ms m (as_answer (answered o (answer ls (ledger_of ls ms) m)))
      go None = refl
      go (Some r) = refl

  -- The answer to an offer is the ledger's.
  offer_right : (m : Move) (a : Answer) (after : Held) → Answered rules ls h (Offer m) a after → a ≡ as_answer (outcome rules ls (ledger_of ls ms) m)
  offer_right m a after so = so.0 ∙ ap as_answer (theorems.answers rules lawful ls ms h in_step m)

  -- Every answer is right,
  answer_right : (c : Call) (a : Answer) (after : Held) → Answered rules ls h c a after → Right rules ls ms c a
  answer_right (Offer m) a after so = offer_right m a after so
  answer_right StartOver a after so = so.0
  answer_right (Judge places) a after so = judged_right rules lawful ls ms h in_step places a so.0

  -- and the replay stays in step.
  stays : (c : Call) (a : Answer) (after : Held) → Answered rules ls h c a after → InStep rules ls (after_call ms c a) after
  stays (Offer m) a after so =
      subst (InStep rules ls (joined_if_moved ms m a)) (sym so.1)
      (subst (λ moves. InStep rules ls moves (after_offer_held rules ls h m)) (joined_same m ∙ ap (joined_if_moved ms m) (sym (offer_right m a after so))) (theorems.goes_on rules lawful ls ms h in_step m))
  stays StartOver a after so = subst (InStep rules ls []) (sym so.1) (theorems.begins rules ls)
  stays (Judge places) a after so = subst (InStep rules ls ms) (sym so.1) in_step

module _ (rules : Rules) (lawful : Lawful rules) (ls : List Line) (calls : List Call) (i : ℕ) (answers : List Answer) (h : Held) (going : Going rules ls calls i answers h) (within : i < length calls) where
  abbrev ms : List Move
  ms = history (take i calls) answers

  module _ (a : Answer) (after : Held) (so : Answered rules ls h (get_or calls i StartOver) a after) where
    -- The answers so far stay right, and so is the new one.
    each_more : (k : ℕ) → k < i + 1 → Right rules ls (history (take k calls) (take k (answers ++ a ∷ []))) (get_or calls k StartOver) (get_or (answers ++ a ∷ []) k StartedOver)
    each_more k below =
        ⊎_elim
        (λ earlier.
        let inside : k < length answers = omega (arith, earlier, going.many) in
        subst (λ b. Right rules ls (history (take k calls) (take k (answers ++ a ∷ []))) (get_or calls k StartOver) b) (sym (get_or_append_left answers (a ∷ []) StartedOver k inside))
        (subst (λ front. Right rules ls (history (take k calls) front) (get_or calls k StartOver) (get_or answers k StartedOver)) (sym (take-append-le k answers (a ∷ []) (omega (arith, inside)))) (going.each k earlier)))
        (λ past.
        let here : k ≡ i = omega (arith, past, below) in
        let end : length answers ≡ k = going.many ∙ sym here in
        subst (λ b. Right rules ls (history (take k calls) (take k (answers ++ a ∷ []))) (get_or calls k StartOver) b) (sym (get_or_push answers a StartedOver k end))
        (subst (λ front. Right rules ls (history (take k calls) front) (get_or calls k StartOver) a) (sym (take_at answers (a ∷ []) k end))
        (subst (λ n. Right rules ls (history (take n calls) answers) (get_or calls n StartOver) a) (sym here) (answer_right rules lawful ls ms h going.in_step (get_or calls i StartOver) a after so))))
        (cases_lt k i)

    -- One call more.
    pub going_more : Going rules ls calls (i + 1) (answers ++ a ∷ []) after
    going_more = record {
      many = length_push answers a ∙ ap (λ n. n + 1) going.many;
      each = each_more;
      in_step =
          subst (λ moves. InStep rules ls moves after)
          (sym (ap (λ front. history front (answers ++ a ∷ [])) (take_more calls i StartOver within)
          ∙ since_push [] (take i calls) answers (get_or calls i StartOver) a (going.many ∙ sym (length-take-le i calls (omega (arith, within))))))
          (stays rules lawful ls ms h going.in_step (get_or calls i StartOver) a after so);
    }

-- Once every call is answered, all verdicts are true.
pub going_all : (rules : Rules) (ls : List Line) (calls : List Call) (i : ℕ) (answers : List Answer) (h : Held) → Going rules ls calls i answers h → i ≡ length calls → VerdictsTrue rules ls calls answers
going_all rules ls calls i answers h going end = record { many = going.many ∙ end; each = λ k below. going.each k (omega (arith, below, end)) }
