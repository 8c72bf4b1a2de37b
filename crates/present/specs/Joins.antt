-- The happens-before edges between kept actions, each told from the two actions alone.
-- same_source         two sources are the same
-- over_source s x     the kept action is a store that overwrote in memory what the source s stands for
-- joined_in p a b     an edge leads from the action a to the action b: b is the next of the thread; or b overwrote a; or a is b's source;
--                     or a is a load and b overwrote its source in that cell
-- nodes_in            the names of all actions, by thread and then by position
-- node_joined p       the edges between them, by their numbers
-- delaying_in p       how many threads delayed
use Rattle.std.specs.Prelude.{ℕ, Bool, true, false, cond, ◌&&◌, ◌||◌, List, length, Some, None, Option, nat_lt, slice_index_or}
use Rattle.ledger.specs.Actions.{Access, Name, Source, from, initial, loads, name, none, same, stores}
use Rattle.ledger.specs.Edges.{program_order, reads_from}
use Rattle.ledger.specs.Nodes.{nodes_of}
use Rattle.ledger.specs.Tests.{sum_over, threads}
use Rattle.present.specs.Data.{Noted, Present, actions_in, noted_at, stores_to}

abbrev pub same_source : Source → Source → Bool
same_source initial initial = true
same_source initial (from b) = false
same_source (from a) initial = false
same_source (from a) (from b) = same a b

abbrev pub is_over : Source → Option Source → Bool
is_over s None = false
is_over s (Some r) = same_source r s

abbrev pub over_source : Source → Access → Option Source → Bool
over_source s none over = false
over_source s (stores c) over = is_over s over
over_source s (loads c source) over = false

-- the first is a load, and the second is a store to its cell that overwrote its source
abbrev pub source_overwritten : Access → Noted → Bool
source_overwritten none y = false
source_overwritten (stores c) y = false
source_overwritten (loads c s) y = stores_to c y.action.access && is_over s y.over

abbrev pub is_noted : Present → Name → Bool
is_noted p a = nat_lt a.position (length (p.noted a.thread))

abbrev pub joined_by : Name → Name → Noted → Noted → Bool
joined_by a b x y =
    program_order a b
    || (over_source (from a) y.action.access y.over
    || (reads_from a y.action.access
    || source_overwritten x.action.access y))

abbrev pub joined_in : Present → Name → Name → Bool
joined_in p a b = (is_noted p a && is_noted p b) && joined_by a b (noted_at p a) (noted_at p b)

abbrev pub nodes_in : Present → List Name
nodes_in p = nodes_of (actions_in p) threads

abbrev pub node_named : Present → ℕ → Name
node_named p k = slice_index_or (nodes_in p) k (name 8 0)

abbrev pub node_joined : Present → ℕ → ℕ → Bool
node_joined p u v = nat_lt u (length (nodes_in p)) && (nat_lt v (length (nodes_in p)) && joined_in p (node_named p u) (node_named p v))

abbrev pub delaying_in : Present → ℕ
delaying_in p = sum_over (λ t. cond (p.delayed t) 1 0) threads
