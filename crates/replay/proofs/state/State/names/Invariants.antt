use Rattle.std.proofs.Common.{◌≡◌, ◌++◌, map, take}
use Rattle.ledger.specs.Nodes.{nodes_of, run_of_names}
use Rattle.ledger.specs.Tests.{threads}
use Rattle.present.specs.Data.{actions_in}
use Rattle.replay.specs.Names.{name_of}
use Rattle.replay.specs.Views.{present_of}
use Rattle.replay.proofs.state.State.names.Given as goal

abbrev pub invariant-loop-thread : goal.invariant-loop-thread
invariant-loop-thread l = map name_of l.names.items ≡ nodes_of (actions_in (present_of l.self)) (take l.thread threads)

abbrev pub invariant-loop-position : goal.invariant-loop-position
invariant-loop-position l = map name_of l.names.items ≡ nodes_of (actions_in (present_of l.self)) (take l.thread threads) ++ run_of_names l.thread 0 l.position
