use Rattle.std.proofs.Common.{◌≡◌, ℕ, ◌<◌, true, not, ltb, None, Ok, Err, sym, refl, ap, ◌∙◌, subst}
use Rattle.std.proofs.lemmas.Result.{err_from_is_err_and}
use Rattle.refusal.specs.declared.Refusal.TheVariants.{ThreadNotFree}
use Rattle.program.specs.Programs.{lines_of}
use Rattle.ledger.specs.Tests.{guard}
use Rattle.ledger.specs.declared.moves.Move.{Move}
use Rattle.ledger.specs.declared.moves.Move.TheVariants.{Run}
use Rattle.present.specs.Calls.{form_tested_held, ran_with, tested_held}
use Rattle.present.specs.Data.{Held, how_many_in}
use Rattle.replay.specs.Offers.{Offered, acting}
use Rattle.replay.specs.Views.{held, noted_of, present_of}
use Rattle.replay.proofs.Steps.{found_line, offered_refused, offered_run, ran_same, refused_early}
use Rattle.replay.proofs.replaying.Replay.run.Goals as goal

pub returns-in_err-turn : goal.returns-in_err-turn
returns-in_err-turn g c =
    let rules = g.B.StoreBuffer.rules c.args.self.now.buffer in
    let ls = lines_of c.args.self.now.program in
    let h = held (g.B.StoreBuffer.lists c.args.self.now.buffer) c.args.self.now.state in
    let r = c.in_err-turn.field-0.0 in
    let tested = refused_early rules ls h c.args.thread c.args.instruction r c.in_err-turn.ensures in
    let p = err_from_is_err_and c.from_residual.result c.from_residual.ensures.1 in
    record {
      answer = subst (λ o. Offered rules ls h (Run c.args.thread c.args.instruction) o h) (sym (p.1 ∙ ap Err p.2)) (offered_refused rules ls h (Run c.args.thread c.args.instruction) r tested);
      rules = refl;
      program = refl;
    }

pub ran-requires : goal.ran-requires
ran-requires g c =
    let rules = g.B.StoreBuffer.rules c.args.self.now.buffer in
    let ls = lines_of c.args.self.now.program in
    let h = held (g.B.StoreBuffer.lists c.args.self.now.buffer) c.args.self.now.state in
    let turn = c.in_ok-turn.turn in
    let found = found_line rules ls h turn.thread turn.number turn.line c.in_ok-turn.ensures.line in
    subst (λ (k : Held). how_many_in k.own < 256) (sym c.in_ok-action.ensures.action.held) found.room

pub returns : goal.returns
returns g c =
    let rules = g.B.StoreBuffer.rules c.args.self.now.buffer in
    let ls = lines_of c.args.self.now.program in
    let h = held (g.B.StoreBuffer.lists c.args.self.now.buffer) c.args.self.now.state in
    let turn = c.in_ok-turn.turn in
    let t = turn.thread in
    let n = turn.number in
    let line = turn.line in
    let found = found_line rules ls h t n line c.in_ok-turn.ensures.line in
    let steps : rules.steps h.lists t ≡ true = sym c.free_to_step.ensures ∙ c.if-not-free_to_step.false in
    let acted = c.in_ok-action.ensures.action in
    let tested : tested_held rules ls h (Run t n) ≡ None = found.rest ∙ ap (λ b. guard (not b) ThreadNotFree (form_tested_held h t line.instruction)) steps ∙ acted.alone.0 in
    let a = acting h t n line.instruction in
    let same =
    ran_same h t line a (present_of c.act.new.self.state) (g.B.StoreBuffer.lists c.act.new.self.buffer) (noted_of c.in_ok-action.action) (ltb 0 c.waiting-delays.result)
    (ap (λ (k : Held). k.own) acted.held) (ap (λ (k : Held). k.lists) acted.held) acted.alone.1 (ap (ltb 0) c.waiting-delays.ensures) in
    let whole : held (g.B.StoreBuffer.lists c.act.new.self.buffer) c.ran.new.self ≡ ran_with h t line a = (λ i. record { own = c.ran.ensures i; lists = g.B.StoreBuffer.lists c.act.new.self.buffer }) ∙ same in
    let here : Offered rules ls h (Run t n) (Ok c.in_ok-action.action.value) (held (g.B.StoreBuffer.lists c.act.new.self.buffer) c.ran.new.self) =
    subst (λ (k : Held). Offered rules ls h (Run t n) (Ok c.in_ok-action.action.value) k) (sym whole)
    (subst (λ (v : ℕ). Offered rules ls h (Run t n) (Ok v) (ran_with h t line a)) (sym (ap (λ x. x.action.value) acted.alone.1)) (offered_run rules ls h t n line found.there tested)) in
    let m : ◌≡◌ {A = Move} (Run t n) (Run c.args.thread c.args.instruction) = λ i. Run (c.in_ok-turn.ensures.thread i) (c.in_ok-turn.ensures.number i) in
    record {
      answer = subst (λ k. Offered rules ls h k (Ok c.in_ok-action.action.value) (held (g.B.StoreBuffer.lists c.act.new.self.buffer) c.ran.new.self)) m here;
      rules = c.in_ok-action.ensures.rules;
      program = c.in_ok-action.ensures.program;
    }
