use Rattle.std.proofs.Common.{◌≡◌, ℕ, ◌<◌, length, get_or}
use Rattle.replay.proofs.Stating.{AtStart}
use Rattle.replay.specs.declared.thread.Thread.{Thread}
use Rattle.replay.proofs.state.State.clear.Given as goal

abbrev pub invariant-loop-thread : goal.invariant-loop-thread
invariant-loop-thread l = record {
  fresh : (k : ℕ) (d : Thread) → k < l.thread-index → AtStart (get_or l.thread-items k d);
  eight : length l.thread-items ≡ 8;
}
