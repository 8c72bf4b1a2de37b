-- Laws size joins       there are at most 256 nodes, and an edge joins two of them
-- among n joins         those edges of joins that join two of the first n nodes
-- among_laws            a graph of at most 256 nodes with such edges alone keeps the laws
use Rattle.std.specs.Prelude.{◌≡◌, ℕ, ◌<◌, ◌≤◌, Bool, true, ◌&&◌, nat_lt}
use Rattle.std.proofs.lemmas.Bool.{and_parts, ltb-true}

pub record Laws {G : Type 0} (size : G → ℕ) (joins : G → ℕ → ℕ → Bool) : Type 0 where
  pub few : (g : G) → size g ≤ 256
  pub inside : (g : G) (from to : ℕ) → joins g from to ≡ true → (from < size g) × (to < size g)

abbrev pub among : ℕ → (ℕ → ℕ → Bool) → ℕ → ℕ → Bool
among n joins from to = nat_lt from n && (nat_lt to n && joins from to)

pub among_laws : {G : Type 0} (size : G → ℕ) (joins : G → ℕ → ℕ → Bool) → ((g : G) → size g ≤ 256) → Laws size (λ g. among (size g) (joins g))
among_laws size joins few = record {
  few = few;
  inside = λ g from to joined.
      let first = and_parts (nat_lt from (size g)) (nat_lt to (size g) && joins g from to) joined in
      let second = and_parts (nat_lt to (size g)) (joins g from to) first.1 in
      (ltb-true from (size g) first.0, ltb-true to (size g) second.0);
}
