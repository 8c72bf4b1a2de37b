use Rattle.std.proofs.Common.{◌≡◌, ◌<◌, length, List, true, false, get_or, arith, rules}
use Rattle.std.proofs.lemmas.Iterator.{first_from_Range, serves_from_Range}
use Rattle.graph.specs.declared.ordering.Standing.{Standing}
use Rattle.graph.specs.Placing.{marks}
use Rattle.graph.proofs.Placing.{lowest_unmarked}
use Rattle.graph.proofs.ordering.Sorting.lowest_unplaced.Goals as goal

-- The lowest node without a mark is found.
pub returns : goal.returns
returns c =
    let standings : List Standing = c.args.self.now.standings.items in
    lowest_unmarked standings c.len.result c.find.result c.len.ensures.value
    (first_from_Range _ _ _ c.find.result (λ b. get_or (marks standings) b false ≡ false)
    (λ b. b < length standings → get_or (marks standings) b false ≡ true) c.find.ensures.ran (λ x q k. search rules) (λ x q k. (search rules, λ l. search rules)))

-- The nodes that are asked about are nodes.
pub find-requires-clause-callable : goal.find-requires-clause-callable
find-requires-clause-callable c = serves_from_Range (λ x q k. search rules) (λ x h l. search (arith, c.len.ensures.value))
