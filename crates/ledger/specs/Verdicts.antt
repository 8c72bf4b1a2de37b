-- What makes a verdict on a trace true.
-- next_of placed t     the next action of the thread t, where these are placed
-- LowestFirst          each place has the lowest thread among those whose next action is ready
-- ListsRun             `sequential` with this list is true: it is an order of all actions, lowest thread first, and read as moves,
--                      a store's drain directly after its run, it is a sequentially consistent run with the trace
-- ListsRing            the list is a ring of two or more different actions, the lowest first (by thread, then by position)
-- ShowsRing            `violation` with this list is true: no sequentially consistent run has the trace, and the list is a ring of it
-- Which ring it is, where there are several, is not decided here.
use Rattle.std.specs.Prelude.{◌≡◌, ℕ, suc, ◌<◌, true, cond, ◌⊎◌, List, [], ◌∷◌, ◌++◌, ◌==◌}
use Rattle.std.specs.List.{All}
use Rattle.program.specs.declared.lines.Line.{Line}
use Rattle.ledger.specs.Actions.{Name, name}
use Rattle.ledger.specs.Edges.{Trace, is_action}
use Rattle.ledger.specs.Orders.{Lacks, Order, Ready, listed_moves}
use Rattle.ledger.specs.Theorems.{HasRun, Ring, RunOf}

-- how many of the names are of the thread t
abbrev pub count_of : ℕ → List Name → ℕ
count_of t [] = 0
count_of t (a ∷ names) = cond (a.thread == t) (suc (count_of t names)) (count_of t names)

abbrev pub next_of : List Name → ℕ → Name
next_of placed t = name t (count_of t placed)

abbrev pub LowestFirst : Trace → List Name → List Name → Type 0
LowestFirst x placed [] = Unit {0}
LowestFirst x placed (b ∷ rest) =
    (b ≡ next_of placed b.thread)
    × Ready x placed b
    × ((u : ℕ) → u < b.thread → is_action x (next_of placed u) ≡ true → Ready x placed (next_of placed u) → ⊥)
    × LowestFirst x (placed ++ b ∷ []) rest

pub record ListsRun (ls : List Line) (x : Trace) (names : List Name) : Type 0 where
  pub order : Order x names
  pub lowest : LowestFirst x [] names
  pub run : RunOf ls x (listed_moves x names)

abbrev pub Lower : Name → Name → Type 0
Lower a b = (a.thread < b.thread) ⊎ ((a.thread ≡ b.thread) × (a.position < b.position))

abbrev pub Different : List Name → Type 0
Different [] = Unit {0}
Different (a ∷ names) = Lacks names a × Different names

abbrev pub ListsRing : Trace → List Name → Type 0
ListsRing x [] = ⊥
ListsRing x (a ∷ []) = ⊥
ListsRing x (a ∷ b ∷ names) = Ring x (a ∷ b ∷ names) × Different (a ∷ b ∷ names) × All (Lower a) (b ∷ names)

pub record ShowsRing (ls : List Line) (x : Trace) (names : List Name) : Type 0 where
  pub no_run : HasRun ls x → ⊥
  pub ring : ListsRing x names
