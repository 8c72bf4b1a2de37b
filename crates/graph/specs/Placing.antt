-- is_placed x, is_ready x               the test of a node's standing
-- marks standings                       which nodes are placed
-- missing n marks                       how many of the first n nodes are not marked
-- Passed joins placed v b               every node below b with an edge to v is placed
-- Blocks joins size placed v b          b is the lowest node that is not placed and has an edge to v
-- Stands joins size placed v x          x says how the node v stands, unless it is placed
-- Movable joins size placed at v x      x says so, unless v stands behind `at`: then no node below `at` blocks v
-- Blocked joins size standings          the standing of each node says how it stands
-- Begun joins size s                    s has the first nodes of an order, and how each node stands
-- Unplaced standings v                  v is a node that is not placed
-- NoneReady standings                   no node is ready
use Rattle.std.specs.Prelude.{◌≡◌, ℕ, ◌+◌, ◌<◌, ◌≤◌, Bool, true, false, not, List, length, take, map, count_by, ◌≢◌, slice_index, slice_index_or}
use Rattle.std.specs.List.{Contains}
use Rattle.graph.specs.declared.ordering.Sorting.{Sorting}
use Rattle.graph.specs.declared.ordering.Standing.{Standing}
use Rattle.graph.specs.declared.ordering.Standing.TheVariants.{Placed, Ready, Behind}
use Rattle.graph.specs.Sorting.{Next}

abbrev pub is_placed : Standing → Bool
is_placed Placed = true
is_placed Ready = false
is_placed (Behind b) = false

abbrev pub is_ready : Standing → Bool
is_ready Placed = false
is_ready Ready = true
is_ready (Behind b) = false

abbrev pub marks : List Standing → List Bool
marks standings = map is_placed standings

abbrev pub missing : ℕ → List Bool → ℕ
missing n marks = count_by not (take n marks)

abbrev pub Passed : (ℕ → ℕ → Bool) → List Bool → ℕ → ℕ → Type 0
Passed joins placed v b = (u : ℕ) → u < b → joins u v ≡ true → slice_index_or placed u false ≡ true

pub record Blocks (joins : ℕ → ℕ → Bool) (size : ℕ) (placed : List Bool) (v b : ℕ) : Type 0 where
  pub within : b < size
  pub passed : Passed joins placed v b
  pub leads : joins b v ≡ true
  pub unplaced : slice_index_or placed b false ≡ false

abbrev pub Stands : (ℕ → ℕ → Bool) → ℕ → List Bool → ℕ → Standing → Type 0
Stands joins size placed v Placed = Unit {0}
Stands joins size placed v Ready = Passed joins placed v size
Stands joins size placed v (Behind b) = Blocks joins size placed v b

pub record Movable (joins : ℕ → ℕ → Bool) (size : ℕ) (placed : List Bool) (at v : ℕ) (x : Standing) : Type 0 where
  pub there : x ≡ Behind at → Passed joins placed v at
  pub elsewhere : (x ≢ Behind at) → Stands joins size placed v x

abbrev pub Blocked : (ℕ → ℕ → Bool) → ℕ → List Standing → Type 0
Blocked joins size standings = (v : ℕ) → v < size → Stands joins size (marks standings) v (slice_index_or standings v Placed)

pub record Begun (joins : ℕ → ℕ → Bool) (size : ℕ) (s : Sorting) : Type 0 where
  pub sized : length s.standings.items ≡ size
  pub few : size ≤ 256
  pub counted : length s.order.items + missing size (marks s.standings.items) ≡ size
  pub listed : (v : ℕ) → slice_index_or (marks s.standings.items) v false ≡ true → Contains s.order.items v
  pub marked : (v : ℕ) → Contains s.order.items v → slice_index_or (marks s.standings.items) v false ≡ true
  pub nexts : (k : ℕ) → k < length s.order.items → Next joins size (take k s.order.items) (slice_index s.order.items k)
  pub blocked : Blocked joins size s.standings.items

abbrev pub Unplaced : List Standing → ℕ → Type 0
Unplaced standings v = (v < length standings) × (slice_index_or (marks standings) v false ≡ false)

abbrev pub NoneReady : List Standing → Type 0
NoneReady standings = (v : ℕ) → slice_index_or standings v Placed ≢ Ready
