use Rattle.std.proofs.Common.{◌≡◌, ◌+◌, List, length, get_or, vec_items, sym, refl, ◌∙◌, subst, arith}
use Rattle.std.proofs.lemmas.List.{get_or_default}
use Rattle.std.proofs.lemmas.Result.{IfOk-from_err}
use Rattle.program.specs.Programs.{lines_of}
use Rattle.program.specs.declared.lines.Line.{Line}
use Rattle.buffers.specs.Laws.{Rules}
use Rattle.ledger.specs.declared.moves.Move.TheVariants.{Run}
use Rattle.present.specs.Data.{Held, fresh_held}
use Rattle.replay.specs.Performed.{Answered}
use Rattle.replay.specs.Truth.{VerdictsTrue}
use Rattle.replay.specs.Views.{held}
use Rattle.replay.specs.declared.calls.Answer.{Answer}
use Rattle.replay.specs.declared.calls.Call.{Call}
use Rattle.replay.specs.declared.calls.Call.TheVariants.{Offer, StartOver}
use Rattle.replay.proofs.Performing.{Going, going_all, going_more, going_none}
use Rattle.replay.proofs.replaying.performing.perform.Goals as goal

pub loop-call-init : goal.loop-call-init
loop-call-init g c =
    let rules = g.B.StoreBuffer.rules c.in_ok-replay.replay.buffer in
    let ls = lines_of c.in_ok-replay.replay.program in (
      subst (λ (h : Held). Going rules ls c.args.calls.now 0 (vec_items c.new-answers.result) h) (sym c.in_ok-replay.ensures.held)
          (subst (λ (answers : List Answer). Going rules ls c.args.calls.now 0 answers fresh_held) (sym c.new-answers.ensures.items) (going_none rules ls c.args.calls.now)),
      (refl, refl),
    )

pub returns-in_err-push : goal.returns-in_err-push
returns-in_err-push g c = IfOk-from_err c.from_residual-in_err-push.result _ c.from_residual-in_err-push.ensures.0

pub loop-call-preserved : goal.loop-call-preserved
loop-call-preserved g c =
    let replay = c.in_ok-replay.replay in
    let rules = g.B.StoreBuffer.rules replay.buffer in
    let ls = lines_of replay.program in
    let calls = c.args.calls.now in
    let i = c.loop-call.call-index in
    let before = held (g.B.StoreBuffer.lists c.loop-call.replay.buffer) c.loop-call.replay.state in
    let after = held (g.B.StoreBuffer.lists c.answer.new.self.buffer) c.answer.new.self.state in
    let a = c.in_ok-answer.answer in
    let same-rules = c.loop-call.invariant.1.0 in
    let same_lines = c.loop-call.invariant.1.1 in
    let so : Answered rules ls before (get_or calls i StartOver) a after =
    subst (λ (r : Rules). Answered r ls before (get_or calls i StartOver) a after) same-rules
    (subst (λ (l : List Line). Answered (g.B.StoreBuffer.rules c.loop-call.replay.buffer) l before (get_or calls i StartOver) a after) same_lines
    (subst (λ (call : Call). Answered (g.B.StoreBuffer.rules c.loop-call.replay.buffer) (lines_of c.loop-call.replay.program) before call a after) (get_or_default calls i (Offer (Run 0 0)) StartOver c.loop-call-test.true) c.in_ok-answer.ensures.answer)) in
    let more = going_more rules (g.met.B.StoreBuffer.lawful replay.buffer) ls calls i (vec_items c.loop-call.answers) before c.loop-call.invariant.0 c.loop-call-test.true a after so in
    (subst (λ (answers : List Answer). Going rules ls calls (i + 1) answers after) (sym c.in_ok-push.ensures.items) more, (c.in_ok-answer.ensures.rules ∙ same-rules, c.in_ok-answer.ensures.program ∙ same_lines))

pub returns : goal.returns
returns g c =
    let replay = c.in_ok-replay.replay in
    let calls = c.args.calls.now in
    let answers = vec_items c.loop-call.answers in
    let h = held (g.B.StoreBuffer.lists c.loop-call.replay.buffer) c.loop-call.replay.state in
    let end : c.loop-call.call-index ≡ length calls = omega arith in
    subst (λ (r : Rules). VerdictsTrue r (lines_of c.args.program) calls answers) c.in_ok-replay.ensures.rules
    (subst (λ (l : List Line). VerdictsTrue (g.B.StoreBuffer.rules replay.buffer) l calls answers) c.in_ok-replay.ensures.program
    (going_all (g.B.StoreBuffer.rules replay.buffer) (lines_of replay.program) calls c.loop-call.call-index answers h c.loop-call.invariant.0 end))
