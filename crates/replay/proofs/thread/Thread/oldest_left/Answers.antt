use Rattle.std.proofs.Common.{rules, vec_items}
use Rattle.std.proofs.iter.runs.Made.{chains}
use Rattle.replay.proofs.Keeping.{oldest_is}
use Rattle.replay.proofs.thread.Thread.oldest_left.Goals as goal

pub returns : goal.returns
returns c = oldest_is c.args.cell (vec_items c.args.self.now.actions) _ (search (rules, chains))
