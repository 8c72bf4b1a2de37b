-- The graph of a run's actions keeps the laws of a graph. It stands here and not in proofs/ since the graph's ghost member cites it.
-- named names k              the name that stands at the number k
-- named_joined own names u v    an edge joins the actions of the numbers u and v
use Rattle.std.specs.Prelude.{ℕ, Bool, List, length, slice_index_or}
use Rattle.graph.specs.Laws.{Laws, among, among_laws}
use Rattle.present.specs.Data.{Present}
use Rattle.present.specs.Joins.{joined_in}
use Rattle.replay.specs.Names.{name_of}
use Rattle.replay.specs.Views.{present_of}
use Rattle.replay.specs.declared.happens_before.HappensBefore.{HappensBefore}
use Rattle.replay.specs.declared.names.Name.{Name}

abbrev pub named : List Name → ℕ → Name
named names k = slice_index_or names k (record { thread = 0; position = 0 })

abbrev pub named_joined : Present → List Name → ℕ → ℕ → Bool
named_joined own names u v = joined_in own (name_of (named names u)) (name_of (named names v))

pub happens_laws : Laws {G = HappensBefore} (λ g. length g.names.now) (λ g. among (length g.names.now) (named_joined (present_of g.state.now) g.names.now))
happens_laws = among_laws (λ g. length g.names.now) (λ g. named_joined (present_of g.state.now) g.names.now) (λ g. g.few)
