use Rattle.std.proofs.Common.{◌+◌, ◌∙◌, Bool, List, length, arith, rules}
use Rattle.std.proofs.lemmas.Iterator.{YieldsList-from_slice}
use Rattle.std.proofs.lemmas.Iterator.Adapters.{serves_from_total}
use Rattle.std.proofs.lemmas.Iterator.Consumers.{fold_from_yields_List}
use Rattle.std.proofs.lemmas.List.Sums.{sum_by-le}
use Rattle.attacks.specs.Tables.{row_pairs}
use Rattle.attacks.proofs.Writing.{table_count}
use Rattle.attacks.proofs.listing.count_marks.Goals as goal

pub fold-requires-clause-callable : goal.fold-requires-clause-callable
fold-requires-clause-callable c =
    let most = sum_by-le (λ (row : List Bool). 128) 128 c.args.table.now (λ i d within. omega arith) in
    serves_from_total (YieldsList-from_slice c.args.table.now (cc)) (λ row. 128) (λ n x q turn. search rules) (λ n x within. search (rules, most))

pub returns : goal.returns
returns c =
    fold_from_yields_List _ (λ count row. count + length (row_pairs 0 row)) 0 c.fold.result c.fold.ensures.ran (YieldsList-from_slice c.args.table.now (cc)) (λ a x b q k. search rules)
    ∙ table_count c.args.table.now
