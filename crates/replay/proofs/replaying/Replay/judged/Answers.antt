use Rattle.std.proofs.Common.{◌≡◌, length, take, ap, ◌∙◌, arith}
use Rattle.std.proofs.lemmas.List.{with_items_is}
use Rattle.replay.specs.Views.{held}
use Rattle.replay.proofs.Judgements.{refused_as, verdict_as}
use Rattle.replay.proofs.Stating.{few_in}
use Rattle.replay.proofs.replaying.Replay.judged.Goals as goal

pub returns-in-Ok : goal.returns-in-Ok
returns-in-Ok g c =
    let h = held (g.B.StoreBuffer.lists c.args.self.now.buffer) c.args.self.now.state in
    let as_long : length c.judge.new.list ≡ c.in_ok-list.list.len = omega (arith, c.judge.auto.list, c.deref_mut.ensures.len) in
    verdict_as h c.args.places c.deref_mut.result.now c.judge.new.list c.in-Ok.verdict c.truncate.new.self
    (c.deref_mut.ensures.len ∙ c.in_ok-list.ensures.len ∙ c.min.ensures)
    (c.truncate.ensures.items ∙ ap (take c.in-Ok.verdict.entries) (with_items_is c.in_ok-list.list c.judge.new.list as_long)) c.in-Ok.ensures

pub returns-in-Err : goal.returns-in-Err
returns-in-Err g c =
    let h = held (g.B.StoreBuffer.lists c.args.self.now.buffer) c.args.self.now.state in
    refused_as h c.args.places c.deref_mut.result.now c.judge.new.list c.in-Err.refusal (few_in c.args.self.now.state)
    (c.deref_mut.ensures.len ∙ c.in_ok-list.ensures.len ∙ c.min.ensures) c.in-Err.ensures
