use Rattle.std.proofs.Common.{◌≡◌, reverse, ap, ◌∙◌, rules}
use Rattle.std.proofs.lemmas.Iterator.Adapters.{YieldsList-from_rev_slice}
use Rattle.std.proofs.lemmas.Iterator.Search.{find_from_yields_List}
use Rattle.std.specs.List.{find}
use Rattle.std.specs.Option.{option_map}
use borrow.Author.Tests.{tests}
use Rattle.buffers.proofs.Stores.{newest_found, to}
use Rattle.buffers.proofs.row.Row.newest.Goals as goal

pub returns : goal.returns
returns c =
    let found : option_map (λ r. r.now) c.find.result ≡ find (to c.args.cell) (reverse c.args.self.now) = find_from_yields_List (to c.args.cell) _ _ c.find.result c.find.ensures.ran (YieldsList-from_rev_slice c.args.self.now cc) (λ x b q k. search (rules, tests)) in
    let read : c.map.result ≡ option_map (λ s. s.value) (option_map (λ r. r.now) c.find.result) = search rules in
    read ∙ ap (option_map (λ s. s.value)) found ∙ newest_found c.args.cell c.args.self.now
