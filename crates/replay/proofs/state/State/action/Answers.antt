use Rattle.std.proofs.Common.{sym, ap, ◌∙◌}
use Rattle.std.specs.List.{slice_get}
use Rattle.std.specs.Option.{option_map}
use Rattle.replay.specs.Views.{noted_of}
use Rattle.replay.proofs.state.State.action.Goals as goal

pub returns-in_err-thread : goal.returns-in_err-thread
returns-in_err-thread c = ap (option_map noted_of) c.from_residual.ensures ∙ sym (ap (λ xs. slice_get xs c.args.name.position) c.in_err-thread.ensures.1)
