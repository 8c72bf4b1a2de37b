use Rattle.std.proofs.Common.{◌&&◌, refl, ◌∙◌, rules}
use Rattle.std.proofs.lemmas.Iterator.{YieldsList-from_slice}
use Rattle.std.proofs.lemmas.Iterator.Search.{all_from_yields_List}
use Rattle.std.proofs.lemmas.List.Recursion.{same_from_clauses}
use Rattle.std.specs.List.{list_all}
use borrow.Author.Tests.{tests}
use Rattle.buffers.specs.Lists.{none_of, nothing_waits}
use Rattle.buffers.proofs.waiting.Waiting.is_empty.Goals as goal

pub returns : goal.returns
returns c =
    all_from_yields_List none_of _ _ _ c.all.ensures.ran (YieldsList-from_slice c.args.self.now.rows cc) (λ x b q k. search (rules, tests))
    ∙ same_from_clauses (list_all none_of) nothing_waits (λ ss b. none_of ss && b) refl (λ _ _. refl) (λ _ _. refl) c.args.self.now.rows
