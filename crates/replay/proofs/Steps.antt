-- What the steps of an offered move come to, over what the replay holds.
use Rattle.std.proofs.Common.{◌≡◌, ℕ, ◌+◌, ◌<◌, Bool, true, false, cond, not, eqb, leb, List, [], ◌∷◌, length, Some, None, Ok, Err, Option, Result, sym, refl, ap, ◌∙◌, arith}
use Rattle.std.specs.List.{slice_get}
use Rattle.std.specs.Option.{ok_or}
use Rattle.std.proofs.lemmas.Bool.{leb-false}
use Rattle.refusal.specs.declared.Refusal.{Refusal}
use Rattle.refusal.specs.declared.Refusal.TheVariants.{ThreadOutOfRange, NoSuchInstruction, AtAnotherLabel, RunFull, ThreadNotFree}
use Rattle.program.specs.declared.forms.Instruction.TheVariants.{Load}
use Rattle.program.specs.declared.forms.Operand.{Operand}
use Rattle.program.specs.declared.lines.Line.{Line}
use Rattle.buffers.specs.Laws.{Rules}
use Rattle.buffers.specs.Lists.{Lists}
use Rattle.ledger.specs.Actions.{Action as Action'}
use Rattle.ledger.specs.Answers.{answered}
use Rattle.ledger.specs.Tests.{guard}
use Rattle.ledger.specs.declared.moves.Move.{Move}
use Rattle.ledger.specs.declared.moves.Move.TheVariants.{Run}
use Rattle.present.specs.Calls.{after_move_held, after_run_held, answer_held, form_tested_held, kept_by, line_tested_held, put_in, ran_with, run_value_held, tested_held}
use Rattle.present.specs.Data.{Held, Noted, Present, how_many_in, left_waiting, oldest_left, waiting_of}
use Rattle.replay.specs.Offers.{Offered, acting, held_after}
use Rattle.replay.specs.declared.actions.Action.{Action}
use Rattle.replay.specs.States.{line_at, next_line, noted_ran}

-- an answer is no refusal
ok_err : {X : Type 0} {x : X} {r : Refusal} → ◌≡◌ {A = Result X Refusal} (Err r) (Ok x) → ⊥
ok_err is = let z : ◌≡◌ {A = ℕ} 0 1 = cc in omega (arith, z)

-- What was told where there was something to tell.
pub ok_or_told : {X : Type 0} (o : Option X) (e : Refusal) (v : X) → Ok v ≡ ok_or o e → o ≡ Some v
ok_or_told None e v is = cc
ok_or_told (Some w) e v is = cc

-- Where there was nothing, the refusal is that.
pub ok_or_gone : {X : Type 0} (o : Option X) (e r : Refusal) → Err r ≡ ok_or o e → (o ≡ None) × (r ≡ e)
ok_or_gone None e r is = (refl, cc)
ok_or_gone (Some w) e r is = absurd (ok_err is)

-- Where the first tests refuse a run, all of them do, by that.
pub refused_early : (rules : Rules) (ls : List Line) (h : Held) (t n : ℕ) (r : Refusal) → next_line h.own ls t n ≡ Err r → tested_held rules ls h (Run t n) ≡ Some r
refused_early rules ls h t n r is = first (leb 8 t) is
  where
    tests : (line : Line) (a b c : Bool) (rest : Option Refusal) → cond a (Err NoSuchInstruction) (cond b (Err AtAnotherLabel) (cond c (Err RunFull) (Ok line))) ≡ Err r → guard a NoSuchInstruction (guard b AtAnotherLabel (guard c RunFull rest)) ≡ Some r
    tests line true b c rest so = cc
    tests line false true c rest so = cc
    tests line false false true rest so = cc
    tests line false false false rest so = cc

    lined : (o : Option Line) → line_at h.own t o ≡ Err r → line_tested_held rules h t o ≡ Some r
    lined None so = cc
    lined (Some line) so = tests line (not (eqb line.thread t)) (not (eqb line.label (h.own.locals t).label)) (leb 256 (how_many_in h.own)) _ so

    first : (b : Bool) → cond b (Err ThreadOutOfRange) (line_at h.own t (slice_get ls n)) ≡ Err r → guard b ThreadOutOfRange (line_tested_held rules h t (slice_get ls n)) ≡ Some r
    first true so = cc
    first false so = lined (slice_get ls n) so

-- the line that the first tests find, and what is left to be tested
pub record Found (rules : Rules) (ls : List Line) (h : Held) (t n : ℕ) (line : Line) : Type 0 where
  pub in_range : t < 8
  pub there : slice_get ls n ≡ Some line
  pub room : how_many_in h.own < 256
  pub rest : tested_held rules ls h (Run t n) ≡ guard (not (rules.steps h.lists t)) ThreadNotFree (form_tested_held h t line.instruction)

-- Where they find a line, it is there, and the others decide.
pub found_line : (rules : Rules) (ls : List Line) (h : Held) (t n : ℕ) (line : Line) → next_line h.own ls t n ≡ Ok line → Found rules ls h t n line
found_line rules ls h t n line is = first (leb 8 t) refl is
  where
    tests : (found : Line) (a b c : Bool) → cond a (Err NoSuchInstruction) (cond b (Err AtAnotherLabel) (cond c (Err RunFull) (Ok found))) ≡ Ok line → (a ≡ false) × ((b ≡ false) × ((c ≡ false) × (found ≡ line)))
    tests found true b c so = absurd (ok_err so)
    tests found false true c so = absurd (ok_err so)
    tests found false false true so = absurd (ok_err so)
    tests found false false false so = (refl, (refl, (refl, cc)))

    lined : leb 8 t ≡ false → (o : Option Line) → slice_get ls n ≡ o → line_at h.own t o ≡ Ok line → Found rules ls h t n line
    lined in_range None there so = absurd (ok_err so)
    lined in_range (Some found) there so =
        let passed = tests found (not (eqb found.thread t)) (not (eqb found.label (h.own.locals t).label)) (leb 256 (how_many_in h.own)) so in
        let same : found ≡ line = passed.1.1.1 in
        record {
          in_range = leb-false 8 t in_range;
          there = there ∙ ap Some same;
          room = leb-false 256 (how_many_in h.own) passed.1.1.0;
          rest =
              (λ i. guard (in_range i) ThreadOutOfRange (line_tested_held rules h t (there i)))
              ∙ (λ i. guard (passed.0 i) NoSuchInstruction (guard (passed.1.0 i) AtAnotherLabel (guard (passed.1.1.0 i) RunFull (guard (not (rules.steps h.lists t)) ThreadNotFree (form_tested_held h t (same i).instruction)))));
        }

    first : (b : Bool) → leb 8 t ≡ b → cond b (Err ThreadOutOfRange) (line_at h.own t (slice_get ls n)) ≡ Ok line → Found rules ls h t n line
    first true in_range so = absurd (ok_err so)
    first false in_range so = lined in_range (slice_get ls n) refl so

-- A refused move is answered by its refusal, and leaves all as it was.
pub offered_refused : (rules : Rules) (ls : List Line) (h : Held) (m : Move) (r : Refusal) → tested_held rules ls h m ≡ Some r → Offered rules ls h m (Err r) h
offered_refused rules ls h m r is = record {
  value = sym (ap (λ o. answered o (answer_held ls h m)) is);
  held = sym (ap (λ o. kept_by o h (after_move_held ls h m)) is);
}

-- A run that passes is answered by the value of its action, and the action is kept.
pub offered_run : (rules : Rules) (ls : List Line) (h : Held) (t n : ℕ) (line : Line) → slice_get ls n ≡ Some line → tested_held rules ls h (Run t n) ≡ None → Offered rules ls h (Run t n) (Ok (acting h t n line.instruction).value) (ran_with h t line (acting h t n line.instruction))
offered_run rules ls h t n line there passes = record {
  value = sym ((λ i. answered (passes i) (answer_held ls h (Run t n))) ∙ (λ i. Ok (run_value_held h t n (there i))));
  held = sym ((λ i. kept_by (passes i) h (after_move_held ls h (Run t n))) ∙ (λ i. after_run_held h t n (there i)));
}

-- The oldest store that is left waiting is one of the kept actions.
pub oldest_within : (i c : ℕ) (xs : List Noted) (p : ℕ) → oldest_left i c xs ≡ Some p → p < i + length xs
oldest_within i c [] p is = absurd (let z : ◌≡◌ {A = ℕ} 0 1 = cc in omega (arith, z))
oldest_within i c (x ∷ xs) p is = go (left_waiting c x) is (oldest_within (i + 1) c xs p)
  where
    go : (b : Bool) → cond b (Some i) (oldest_left (i + 1) c xs) ≡ Some p → (oldest_left (i + 1) c xs ≡ Some p → p < i + 1 + length xs) → p < i + length (x ∷ xs)
    go true so later = let same : i ≡ p = cc in omega (arith, same)
    go false so later = omega (arith, later so)

-- What is kept of a run, and the buffer after it, are what the run leaves.
pub ran_same : (h : Held) (t : ℕ) (line : Line) (a : Action') (own : Present) (lists : Lists) (x : Noted) (delays : Bool) → own ≡ h.own → lists ≡ put_in h.lists t a.value a.access → x ≡ record { action = a; over = None } → delays ≡ leb 1 (length (waiting_of h t)) → ◌≡◌ {A = Held} (record { own = noted_ran own t line x delays; lists = lists }) (ran_with h t line a)
ran_same h t line a own lists x delays own_is lists_is x_is delays_is = λ i. record { own = noted_ran (own_is i) t line (x_is i) (delays_is i); lists = lists_is i }

-- A load leaves the buffer alone.
pub load_held : (h : Held) (t n register : ℕ) (address : Operand) (r : Result Action Refusal) → h ≡ held_after h t n (Load register address) r
load_held h t n register address (Ok a) = refl
load_held h t n register address (Err r) = refl
