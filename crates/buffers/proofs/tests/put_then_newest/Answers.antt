use Rattle.buffers.proofs.Calls.{put_taken}
use Rattle.buffers.proofs.Puts.{newest_put}
use Rattle.buffers.proofs.tests.put_then_newest.Goals as goal

pub returns : goal.returns
returns g c thread cell room =
    let ls = g.B.StoreBuffer.lists c.args.buffer.now in
    let newest = newest_put ls (g.met.B.StoreBuffer.good c.args.buffer.now).eight c.args.thread c.args.cell c.args.value (put_taken ls c.args.thread c.args.cell thread cell room) in
    cc
