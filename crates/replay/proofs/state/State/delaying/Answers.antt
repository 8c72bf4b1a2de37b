use Rattle.std.proofs.Common.{◌<◌, arith}
use Rattle.replay.proofs.Ones.{ones_of_eight}
use Rattle.replay.proofs.state.State.delaying.Goals as goal

pub returns : goal.returns
returns c =
    let below : c.args.self.now.delayed < 256 = omega arith in
    ones_of_eight c.args.self.now.delayed below
