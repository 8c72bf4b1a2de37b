use Rattle.std.proofs.Common.{rules, vec_items}
use Rattle.std.proofs.iter.runs.Made.{chains}
use Rattle.present.specs.Data.{left_waiting}
use Rattle.replay.specs.Views.{noted_of}
use Rattle.replay.proofs.Keeping.{IsLast, youngest_is}
use Rattle.replay.proofs.thread.Thread.youngest_left.Goals as goal

pub returns : goal.returns
returns c =
    let xs = vec_items c.args.self.now.actions in
    let found : IsLast (λ x. left_waiting c.args.cell (noted_of x)) xs c.rposition.result = search (rules, chains) in
    youngest_is c.args.cell xs c.rposition.result found
