use Rattle.std.proofs.Common.{arith}
use Rattle.replay.proofs.Stating.{fresh_from, none_kept}
use Rattle.replay.proofs.state.State.clear.Goals as goal

pub invariant_of-self : goal.invariant_of-self
invariant_of-self c = record { few = none_kept c.loop-thread.thread-items c.loop-thread.invariant.eight (λ i e within. c.loop-thread.invariant.fresh i e (omega arith)) }

pub returns : goal.returns
returns c = fresh_from c.loop-thread.thread-items (λ i e within. c.loop-thread.invariant.fresh i e (omega arith))
