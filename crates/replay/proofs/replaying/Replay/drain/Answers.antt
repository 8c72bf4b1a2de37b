use Rattle.std.proofs.Common.{◌≡◌, Some, rules, arith}
use Rattle.present.specs.Data.{oldest_left}
use Rattle.replay.specs.Views.{present_of}
use Rattle.replay.proofs.Steps.{oldest_within}
use Rattle.replay.proofs.replaying.Replay.drain.Goals as goal

pub drained-requires-clause-there : goal.drained-requires-clause-there
drained-requires-clause-there g c =
    let own = present_of c.args.self.now.state in
    let is : oldest_left 0 c.args.cell (own.noted c.args.thread) ≡ Some c.in_ok-position.position = search rules in
    omega (arith, oldest_within 0 c.args.cell (own.noted c.args.thread) c.in_ok-position.position is)
