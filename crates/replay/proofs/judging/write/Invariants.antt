use Rattle.std.proofs.Common.{◌≡◌, ◌++◌, map, take, drop}
use Rattle.replay.specs.GraphLaws.{named}
use Rattle.replay.proofs.judging.write.Given as goal

abbrev pub invariant-loop-place : goal.invariant-loop-place
invariant-loop-place l = l.list ≡ map (named l.names) (take l.place l.numbers) ++ drop l.place l.initial.list
