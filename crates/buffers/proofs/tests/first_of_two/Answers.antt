use Rattle.std.proofs.Common.{◌∙◌}
use Rattle.buffers.proofs.Puts.{first_taken}
use Rattle.buffers.proofs.tests.first_of_two.Goals as goal

pub returns : goal.returns
returns g c one two none free =
    let ls = g.B.StoreBuffer.lists c.args.buffer.now in
    let r = g.B.StoreBuffer.rules c.args.buffer.now in
    let taken = first_taken r ls (g.met.B.StoreBuffer.good c.args.buffer.now).eight c.args.thread c.args.cell c.args.first c.args.second one two none in
    c.take.ensures.value ∙ rw (c.put-2.ensures.rules, c.put.ensures.rules, c.put-2.ensures.lists, c.put-2.ensures.value, c.put.ensures.lists, c.put.ensures.value, free) taken
