use Rattle.std.proofs.Common.{arith}
use Rattle.buffers.proofs.Rows.{good_none, none_wait}
use Rattle.buffers.proofs.waiting.Waiting.clear.Goals as goal

pub invariant_of-self : goal.invariant_of-self
invariant_of-self c = record { good = good_none c.loop-row.row-items (none_wait c.loop-row.row-items c.loop-row.invariant.eight (λ t within. c.loop-row.invariant.empty t (omega arith))) }

pub returns : goal.returns
returns c = none_wait c.loop-row.row-items c.loop-row.invariant.eight (λ t within. c.loop-row.invariant.empty t (omega arith))
