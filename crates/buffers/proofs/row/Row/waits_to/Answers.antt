use Rattle.std.proofs.Common.{◌∙◌, rules}
use Rattle.std.proofs.lemmas.Iterator.{YieldsList-from_slice}
use Rattle.std.proofs.lemmas.Iterator.Search.{any_from_yields_List}
use borrow.Author.Tests.{tests}
use Rattle.buffers.proofs.Stores.{to, waits_any}
use Rattle.buffers.proofs.row.Row.waits_to.Goals as goal

pub returns : goal.returns
returns c =
    any_from_yields_List (to c.args.cell) _ _ _ c.any.ensures.ran (YieldsList-from_slice c.args.self.now cc) (λ x b q k. search (rules, tests))
    ∙ waits_any c.args.cell c.args.self.now
