-- Chain joins u v    a chain of one or more edges leads from the node u to the node v
use Rattle.std.specs.Prelude.{◌≡◌, ℕ, Bool, true}

pub data Chain (joins : ℕ → ℕ → Bool) : ℕ → ℕ → Type 0 where
  edge : {u v : ℕ} → joins u v ≡ true → Chain joins u v
  onward : {u v w : ℕ} → Chain joins u v → joins v w ≡ true → Chain joins u w
