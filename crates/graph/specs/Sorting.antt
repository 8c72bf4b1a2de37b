-- Ready joins placed v               every node with an edge to v is in placed
-- Could joins size placed v          v is a node, is not in placed, and is ready: it could come next
-- Next joins size placed v           v is the lowest node that could come next
-- Ordered joins size ns              ns has every node, and each stands where it is the next after those before it
-- Ringed joins ns                    an edge leads from each of ns to the next and from the last to the first; none of ns
--                                    stands twice, and the first is the lowest
-- Front P n old new                  P is true of the first n numbers of new, and the later ones are those of old
-- Answered joins size old new r      what the answer r says of a lent list that was old and is new
use Rattle.std.specs.Prelude.{◌≡◌, ℕ, ◌+◌, ◌-◌, ◌<◌, ◌≤◌, Bool, true, List, length, take, drop, Some, None, Option, ◌≢◌, slice_index}
use Rattle.std.specs.List.{Contains}
use Rattle.graph.specs.declared.ordering.Written.{Written}
use Rattle.graph.specs.declared.ordering.Written.TheVariants.{Order, Ring}

abbrev pub Ready : (ℕ → ℕ → Bool) → List ℕ → ℕ → Type 0
Ready joins placed v = (u : ℕ) → joins u v ≡ true → Contains placed u

pub record Could (joins : ℕ → ℕ → Bool) (size : ℕ) (placed : List ℕ) (v : ℕ) : Type 0 where
  pub node : v < size
  pub new : Contains placed v → ⊥
  pub ready : Ready joins placed v

pub record Next (joins : ℕ → ℕ → Bool) (size : ℕ) (placed : List ℕ) (v : ℕ) : Type 0 where
  pub could : Could joins size placed v
  pub lowest : (w : ℕ) → Could joins size placed w → v ≤ w

pub record Ordered (joins : ℕ → ℕ → Bool) (size : ℕ) (ns : List ℕ) : Type 0 where
  pub many : length ns ≡ size
  pub all : (v : ℕ) → v < size → Contains ns v
  pub next : (k : ℕ) → k < size → Next joins size (take k ns) (slice_index ns k)

pub record Ringed (joins : ℕ → ℕ → Bool) (ns : List ℕ) : Type 0 where
  pub some : 0 < length ns
  pub once : (i k : ℕ) → i < k → k < length ns → slice_index ns i ≢ slice_index ns k
  pub edges : (k : ℕ) → k + 1 < length ns → joins (slice_index ns k) (slice_index ns (k + 1)) ≡ true
  pub closed : joins (slice_index ns (length ns - 1)) (slice_index ns 0) ≡ true
  pub lowest : (k : ℕ) → 0 < k → k < length ns → slice_index ns 0 < slice_index ns k

pub record Front (P : List ℕ → Type 0) (n : ℕ) (old new : List ℕ) : Type 0 where
  pub within : n ≤ length new
  pub front : P (take n new)
  pub later : drop n new ≡ drop n old

abbrev pub Answered : (ℕ → ℕ → Bool) → ℕ → List ℕ → List ℕ → Option Written → Type 0
Answered joins size old new None = (length old < size) × (new ≡ old)
Answered joins size old new (Some (Order n)) = (size ≤ length old) × Front (Ordered joins size) n old new
Answered joins size old new (Some (Ring n)) = (size ≤ length old) × Front (Ringed joins) n old new
