-- Orders of a trace's actions, and the moves that an order stands for.
-- Lacks names a               the list lacks the name
-- Ready x placed b            every action from which an edge leads to b is placed
-- InOrder x placed rest       each of the rest is an action that is not placed yet, and ready, once those before it are placed too
-- Order x names               so are all of the names, from none placed on, and every action is one of them
-- entry_moves, listed_moves   an action as moves: its run, and directly after it the drain, if it is a store
use Rattle.std.specs.Prelude.{◌≡◌, ℕ, true, List, [], ◌∷◌, ◌++◌, ◌≢◌}
use Rattle.std.specs.List.{Contains, All}
use Rattle.ledger.specs.Actions.{Access, Name, loads, none, stores}
use Rattle.ledger.specs.Edges.{Trace, edge, is_action}
use Rattle.ledger.specs.Ledgers.{action_at}
use Rattle.ledger.specs.declared.moves.Move.{Move}
use Rattle.ledger.specs.declared.moves.Move.TheVariants.{Run, Drain}

abbrev pub Lacks : List Name → Name → Type 0
Lacks names a = All (λ b. b ≢ a) names

abbrev pub Ready : Trace → List Name → Name → Type 0
Ready x placed b = (a : Name) → edge x a b ≡ true → Contains placed a

abbrev pub InOrder : Trace → List Name → List Name → Type 0
InOrder x placed [] = Unit {0}
InOrder x placed (b ∷ rest) = (is_action x b ≡ true) × Lacks placed b × Ready x placed b × InOrder x (placed ++ b ∷ []) rest

pub record Order (x : Trace) (names : List Name) : Type 0 where
  pub ordered : InOrder x [] names
  pub all : (a : Name) → is_action x a ≡ true → Contains names a

abbrev pub drained_after : ℕ → Access → List Move
drained_after t none = []
drained_after t (stores c) = Drain t c ∷ []
drained_after t (loads c source) = []

abbrev pub entry_moves : Trace → Name → List Move
entry_moves x a = Run a.thread (action_at x.actions a).line ∷ drained_after a.thread (action_at x.actions a).access

abbrev pub listed_moves : Trace → List Name → List Move
listed_moves x [] = []
listed_moves x (a ∷ names) = entry_moves x a ++ listed_moves x names
