-- behind v x                     the node that v stands behind where it stands as x says, or v where that is behind none
-- blocker_of standings v         the node that v stands behind, or v where there is none
-- back standings k v             the node k steps back from v, from each node to its blocker
-- Closed standings               there are at most 256 nodes, and each that is not placed stands behind such a node
-- OnRing standings v             v is not placed, and some steps back from it, at most as many as there are nodes, it stands again
-- Turn standings low n           n steps back from low it stands again, the nodes on the way are different, and low is the lowest
-- Backward standings low n ns    the first n numbers of ns are the way back from low, from the last place to the first
use Rattle.std.specs.Prelude.{◌≡◌, ℕ, zero, suc, ◌-◌, ◌<◌, ◌≤◌, List, length, ◌≢◌, slice_index, slice_index_or}
use Rattle.graph.specs.declared.ordering.Standing.{Standing}
use Rattle.graph.specs.declared.ordering.Standing.TheVariants.{Placed, Ready, Behind}
use Rattle.graph.specs.Placing.{Unplaced}

abbrev pub behind : ℕ → Standing → ℕ
behind v Placed = v
behind v Ready = v
behind v (Behind b) = b

abbrev pub blocker_of : List Standing → ℕ → ℕ
blocker_of standings v = behind v (slice_index_or standings v Placed)

abbrev pub back : List Standing → ℕ → ℕ → ℕ
back standings zero v = v
back standings (suc k) v = blocker_of standings (back standings k v)

pub record Closed (standings : List Standing) : Type 0 where
  pub few : length standings ≤ 256
  pub stands : (v : ℕ) → Unplaced standings v → slice_index_or standings v Placed ≡ Behind (blocker_of standings v)
  pub step : (v : ℕ) → Unplaced standings v → Unplaced standings (blocker_of standings v)

pub record OnRing (standings : List Standing) (v : ℕ) : Type 0 where
  pub unplaced : Unplaced standings v
  pub round : (n : ℕ) × (0 < n) × (n ≤ length standings) × (back standings n v ≡ v)

pub record Turn (standings : List Standing) (low n : ℕ) : Type 0 where
  pub unplaced : Unplaced standings low
  pub some : 0 < n
  pub within : n ≤ length standings
  pub round : back standings n low ≡ low
  pub once : (i k : ℕ) → i < k → k < n → back standings i low ≢ back standings k low
  pub lowest : (k : ℕ) → 0 < k → k < n → low < back standings k low

abbrev pub Backward : List Standing → ℕ → ℕ → List ℕ → Type 0
Backward standings low n ns = (k : ℕ) → k < n → slice_index ns k ≡ back standings (n - k) low
