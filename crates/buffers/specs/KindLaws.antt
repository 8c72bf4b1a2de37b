-- Every kind keeps the laws of a store buffer. What the ghost members of the strong cells cite for it stands here and not in proofs/.
use Rattle.std.specs.Prelude.{Bool, not, List}
use Rattle.std.proofs.lemmas.Bool.{and_parts}
use Rattle.buffers.specs.Kinds.{has_chosen, strong}
use Rattle.buffers.specs.Laws.{Lawful, Rules}
use Rattle.buffers.specs.Lists.{list_of}

-- Strong cells keep the laws of the kind below.
pub strong_lawful : (chosen : List Bool) (below : Rules) → Lawful below → Lawful (strong chosen below)
strong_lawful chosen below lawful = record {
  step_in_range = λ ls t free. lawful.step_in_range ls t (and_parts (below.steps ls t) (not (has_chosen chosen (list_of ls t))) free).0;
  drain_waits = lawful.drain_waits;
}
