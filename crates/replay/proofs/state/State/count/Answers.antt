use Rattle.std.proofs.Common.{◌≡◌, length, rules, sym, ◌∙◌, arith}
use Rattle.std.specs.List.{sum_by}
use Rattle.std.proofs.iter.runs.Made.{chains}
use Rattle.replay.specs.Views.{noted_in}
use Rattle.replay.proofs.Stating.{over_eight}
use Rattle.replay.proofs.state.State.count.Goals as goal

pub returns : goal.returns
returns c =
    let threads = c.args.self.now.threads in
    let eight : length threads ≡ 8 = omega arith in
    let summed : c.sum.result ≡ sum_by (λ own. length (noted_in own)) threads = search (rules, chains) in
    summed ∙ sym (over_eight noted_in _ length threads eight)
