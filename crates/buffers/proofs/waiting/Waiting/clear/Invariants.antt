use Rattle.std.proofs.Common.{◌≡◌, ℕ, ◌<◌, [], length}
use Rattle.buffers.specs.Lists.{list_of}
use Rattle.buffers.proofs.waiting.Waiting.clear.Given as goal

abbrev pub invariant-loop-row : goal.invariant-loop-row
invariant-loop-row l = record {
  empty : (t : ℕ) → t < l.row-index → list_of l.row-items t ≡ [];
  eight : length l.row-items ≡ 8;
}
