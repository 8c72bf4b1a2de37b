-- A table of marks, a row for each store and in it a place for each load. Only private calls speak of it.
-- RightRow ls s marks     the row marks exactly the loads that make an attack pair with the store s
-- Long marks              the row has a place for each line that a program may have
-- RightTable ls rows      each row is long and right for the store of its number
-- row_pairs s marks       the store s with the number of each marked place
-- table_pairs rows        so for each row, the stores counted from 0
use Rattle.std.specs.Prelude.{◌≡◌, ℕ, Bool, true, false, List, [], length, map, slice_index_or}
use Rattle.std.specs.List.{All, enumerate_from, filter, flat_map}
use Rattle.program.specs.declared.lines.Line.{Line}
use Rattle.attacks.specs.declared.pair.Pair.{Pair}
use Rattle.attacks.specs.Attacks.{Attack}

pub record RightRow (ls : List Line) (s : ℕ) (marks : List Bool) : Type 0 where
  pub only : (l : ℕ) → slice_index_or marks l false ≡ true → Attack ls s l
  pub all : (l : ℕ) → Attack ls s l → slice_index_or marks l false ≡ true

abbrev pub Long : List Bool → Type 0
Long marks = length marks ≡ 128

pub record RightTable (ls : List Line) (rows : List (List Bool)) : Type 0 where
  pub long : All Long rows
  pub right : (s : ℕ) → RightRow ls s (slice_index_or rows s [])

abbrev pub pair : ℕ → ℕ → Pair
pair s l = record { store = s; load = l }

abbrev pub row_pairs : ℕ → List Bool → List Pair
row_pairs s marks = map (λ p. pair s p.0) (filter (λ p. p.1) (enumerate_from 0 marks))

abbrev pub table_pairs : List (List Bool) → List Pair
table_pairs rows = flat_map (λ r. row_pairs r.0 r.1) (enumerate_from 0 rows)
