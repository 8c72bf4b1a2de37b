use Rattle.std.proofs.Common.{◌≡◌, [], ◌∷◌, ◌++◌, arith, rules}
use Rattle.std.proofs.lemmas.List.{get_or_default}
use Rattle.buffers.specs.Calls.{store}
use Rattle.buffers.specs.Lists.{list_of}
use Rattle.buffers.proofs.Rows.{good_push}
use Rattle.buffers.proofs.waiting.Waiting.put.Goals as goal

pub invariant_of-self : goal.invariant_of-self
invariant_of-self c =
    let rows = c.args.self.now.rows in
    let list : c.put.new.self ≡ list_of rows c.args.thread ++ store c.args.cell c.args.value ∷ [] = search (rules, get_or_default) in
    record { good = rw list (good_push rows c.args.thread c.args.cell c.args.value c.args.self.now.good (omega (arith, c.count.ensures)) (omega arith) (omega arith)) }
