use Rattle.std.proofs.Common.{◌<◌, length, vec_items, arith}
use Rattle.std.proofs.lemmas.List.{length-map}
use Rattle.replay.specs.Views.{noted_of}
use Rattle.replay.proofs.Keeping.{overwritten}
use Rattle.replay.proofs.thread.Thread.overwrite.Goals as goal

pub returns-clause-noted : goal.returns-clause-noted
returns-clause-noted c =
    let actions = vec_items c.args.self.now.actions in
    let within : c.args.position < length actions = omega (arith, c.requires, length-map actions noted_of) in
    overwritten actions c.args.position c.index_mut.result.now c.args.source within c.index_mut.ensures.value
