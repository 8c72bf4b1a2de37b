use Rattle.std.proofs.Common.{[], rules}
use Rattle.buffers.proofs.Rows.{good_none, none_wait}
use Rattle.buffers.proofs.waiting.Waiting.new.Goals as goal

pub invariant_of-result : goal.invariant_of-result
invariant_of-result c =
    let ok = c.in_ok-rows.ensures.ok in
    record { good = good_none c.in_ok-rows.rows (none_wait c.in_ok-rows.rows ok.long (λ t within. let made = ok.at t [] within in search rules)) }

pub returns : goal.returns
returns c =
    let ok = c.in_ok-rows.ensures.ok in
    none_wait c.in_ok-rows.rows ok.long (λ t within. let made = ok.at t [] within in search rules)
