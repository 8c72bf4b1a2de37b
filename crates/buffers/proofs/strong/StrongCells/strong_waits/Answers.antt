use Rattle.std.proofs.Common.{◌∙◌, rules}
use Rattle.std.proofs.lemmas.Iterator.{YieldsList-from_slice}
use Rattle.std.proofs.lemmas.Iterator.Consumers.{YieldsList-at, YieldsList-from_enumerate}
use Rattle.std.proofs.lemmas.Iterator.Search.{any_from_yields_List}
use borrow.Author.Tests.{tests}
use Rattle.buffers.specs.Lists.{list_of}
use Rattle.buffers.proofs.Chosen.{asked, chosen_asked}
use Rattle.buffers.proofs.strong.StrongCells.strong_waits.Goals as goal

pub returns : goal.returns
returns g c =
    let ss = list_of (g.B.StoreBuffer.lists c.args.self.now.below) c.args.thread in
    any_from_yields_List (asked ss) _ _ _ c.any.ensures.ran (YieldsList-from_enumerate (YieldsList-at c.enumerate-cells.ensures.source (YieldsList-from_slice c.args.self.now.chosen cc)) (cc)) (λ x b q k. search (rules, tests))
    ∙ chosen_asked c.args.self.now.chosen ss
