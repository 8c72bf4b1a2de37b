use Rattle.std.proofs.Common.{◌≡◌, rules}
use Rattle.std.proofs.lemmas.List.{get_or_default}
use Rattle.buffers.specs.Lists.{list_of, without_oldest}
use Rattle.buffers.proofs.Rows.{good_without}
use Rattle.buffers.proofs.waiting.Waiting.take.Goals as goal

pub invariant_of-self : goal.invariant_of-self
invariant_of-self c =
    let rows = c.args.self.now.rows in
    let list : c.take.new.self ≡ without_oldest c.args.cell (list_of rows c.args.thread) = search (rules, get_or_default) in
    record { good = rw list (good_without rows c.args.thread c.args.cell c.args.self.now.good) }
