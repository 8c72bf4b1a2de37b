use Rattle.std.proofs.Common.{◌∙◌, arith, rules}
use Rattle.std.specs.Int.{from_bool}
use Rattle.std.proofs.lemmas.Iterator.{YieldsList-from_map, YieldsList-from_slice}
use Rattle.std.proofs.lemmas.Iterator.Consumers.{fits_by_from_yields_list, sum_by_from_yields_List}
use Rattle.attacks.proofs.Writing.{row_count, row_few}
use Rattle.attacks.proofs.listing.count_row.Goals as goal

pub sum-requires-clause-fits : goal.sum-requires-clause-fits
sum-requires-clause-fits c =
    fits_by_from_yields_list from_bool c.args.row.now c.map.result _ (YieldsList-from_map _ from_bool (YieldsList-from_slice c.args.row.now (cc)) c.map.ensures.closure (λ x r q k. search rules))
    (omega (arith, row_few c.args.row.now))

pub returns : goal.returns
returns c =
    let value =
    sum_by_from_yields_List from_bool c.args.row.now c.map.result _ c.sum.ensures.ran (YieldsList-from_map _ from_bool (YieldsList-from_slice c.args.row.now (cc)) c.map.ensures.closure (λ x r q k. search rules))
    ∙ row_count 0 c.args.row.now
    in
    record { value = value; bound = omega (arith, value, row_count 0 c.args.row.now, row_few c.args.row.now) }
