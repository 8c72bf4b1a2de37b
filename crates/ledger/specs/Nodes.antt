-- The actions of a trace as the nodes of a graph, numbered thread by thread.
-- nodes x          the names of all actions, by thread and then by position
-- node_name x k    the name of the node k
-- node_joins x     the edges between them
use Rattle.std.specs.Prelude.{ℕ, zero, suc, Bool, ◌&&◌, List, [], ◌∷◌, ◌++◌, length, nat_lt, slice_index_or}
use Rattle.ledger.specs.Actions.{Action, Name, name}
use Rattle.ledger.specs.Edges.{Trace, edge}
use Rattle.ledger.specs.Tests.{threads}

-- n actions of the thread t, from the position p on
abbrev pub run_of_names : ℕ → ℕ → ℕ → List Name
run_of_names t p zero = []
run_of_names t p (suc n) = name t p ∷ run_of_names t (suc p) n

abbrev pub nodes_of : (ℕ → List Action) → List ℕ → List Name
nodes_of acts [] = []
nodes_of acts (t ∷ ts) = run_of_names t 0 (length (acts t)) ++ nodes_of acts ts

abbrev pub nodes : Trace → List Name
nodes x = nodes_of x.actions threads

abbrev pub node_name : Trace → ℕ → Name
node_name x k = slice_index_or (nodes x) k (name 8 0)

abbrev pub node_joins : Trace → ℕ → ℕ → Bool
node_joins x u v = nat_lt u (length (nodes x)) && (nat_lt v (length (nodes x)) && edge x (node_name x u) (node_name x v))
