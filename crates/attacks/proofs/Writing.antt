-- The pairs of the marked places, as they are counted and written.
use Rattle.std.proofs.Common.{◌≡◌, ℕ, zero, suc, ◌+◌, map, ltb, ◌<◌, ◌≤◌, Bool, true, false, List, [], ◌∷◌, ◌++◌, length, get_or, take, drop, set, Option, cond, refl, sym, ap, ◌∙◌, subst, zero-add, arith, length-append}
use Rattle.std.specs.List.{enumerate_from, filter, flat_map, sum_by}
use Rattle.std.specs.Int.{from_bool}
use Rattle.std.proofs.lemmas.Bool.Decides.{nat_tests}
use Rattle.std.proofs.lemmas.Iterator.{YieldsList}
use Rattle.std.proofs.lemmas.List.{nil_from_length, take_all}
use Rattle.std.proofs.lemmas.List.FromFn.{get_or-enumerate_from, length-enumerate_from}
use Rattle.std.proofs.lemmas.List.Sums.{sum_by-cons}
use Rattle.attacks.specs.declared.pair.Pair.{Pair}
use Rattle.attacks.specs.Tables.{pair, row_pairs, table_pairs}

-- A row has as many as it has marks, counted one by one, from whatever place on.
marks_from : (s i : ℕ) (marks : List Bool) → sum_by from_bool marks ≡ length (map (λ p. pair s p.0) (filter (λ p. p.1) (enumerate_from i marks)))
marks_from s i [] = refl
marks_from s i (true ∷ marks) = omega (arith, sum_by-cons from_bool true marks, marks_from s (i + 1) marks)
marks_from s i (false ∷ marks) = omega (arith, sum_by-cons from_bool false marks, marks_from s (i + 1) marks)

pub row_count : (s : ℕ) (marks : List Bool) → sum_by from_bool marks ≡ length (row_pairs s marks)
row_count s marks = marks_from s 0 marks

-- So at most as many as it has places.
pub row_few : (marks : List Bool) → sum_by from_bool marks ≤ length marks
row_few [] = omega arith
row_few (true ∷ marks) = omega (arith, sum_by-cons from_bool true marks, row_few marks)
row_few (false ∷ marks) = omega (arith, sum_by-cons from_bool false marks, row_few marks)

-- A table has as many as its rows together.
rows_from : (s : ℕ) (rows : List (List Bool)) → sum_by (λ row. length (row_pairs 0 row)) rows ≡ length (flat_map (λ r. row_pairs r.0 r.1) (enumerate_from s rows))
rows_from s [] = refl
rows_from s (row ∷ rows) =
    omega (
      arith,
      sum_by-cons (λ r. length (row_pairs 0 r)) row rows,
      length-append (row_pairs s row) (flat_map (λ r. row_pairs r.0 r.1) (enumerate_from (s + 1) rows)),
      row_count 0 row,
      row_count s row,
      rows_from (s + 1) rows,
    )

pub table_count : (rows : List (List Bool)) → sum_by (λ row. length (row_pairs 0 row)) rows ≡ length (table_pairs rows)
table_count rows = rows_from 0 rows

-- Rows with no mark may be left out.
abbrev pub has_marks : ℕ × List Bool → Bool
has_marks r = ltb 0 (length (row_pairs 0 r.1))

left_out_if : (b : Bool) (r : ℕ × List Bool) (rs : List (ℕ × List Bool)) → has_marks r ≡ b → flat_map (λ r. row_pairs r.0 r.1) (filter has_marks rs) ≡ flat_map (λ r. row_pairs r.0 r.1) rs → flat_map (λ r. row_pairs r.0 r.1) (cond b (r ∷ filter has_marks rs) (filter has_marks rs)) ≡ row_pairs r.0 r.1 ++ flat_map (λ r. row_pairs r.0 r.1) rs
left_out_if true r rs some same = ap (λ ps. row_pairs r.0 r.1 ++ ps) same
left_out_if false r rs none same =
    let few : length (row_pairs 0 r.1) ≡ 0 = grind (arith, nat_tests) in
    same ∙ ap (λ ps. ps ++ flat_map (λ r. row_pairs r.0 r.1) rs) (sym (nil_from_length (row_pairs r.0 r.1) (omega (arith, few, row_count 0 r.1, row_count r.0 r.1))))

left_out : (rs : List (ℕ × List Bool)) → flat_map (λ r. row_pairs r.0 r.1) (filter has_marks rs) ≡ flat_map (λ r. row_pairs r.0 r.1) rs
left_out [] = refl
left_out (r ∷ rs) = left_out_if (has_marks r) r rs refl (left_out rs)

pub yields_table : {S A : Type 0} {steps : S → Option A → S → Type 0} {v : A → Pair} {s : S} (rows : List (List Bool)) → YieldsList steps v s (flat_map (λ r. row_pairs r.0 r.1) (filter has_marks (enumerate_from 0 rows))) → YieldsList steps v s (table_pairs rows)
yields_table {steps = steps} {v = v} {s = s} rows road = subst (YieldsList steps v s) (left_out (enumerate_from 0 rows)) road

-- One more, written behind those that stand there.
written_next : {X : Type 0} (ps before : List X) (n : ℕ) (x : X) → n < length ps → length ps ≤ length before → x ≡ get_or ps n x → set (take n ps ++ drop n before) n x ≡ take (suc n) ps ++ drop (suc n) before
written_next [] before n x below room is = absurd (omega arith)
written_next (p ∷ ps) [] n x below room is = absurd (omega arith)
written_next (p ∷ ps) (b ∷ before) zero x below room is = ap (λ y. y ∷ before) is
written_next (p ∷ ps) (b ∷ before) (suc n) x below room is = ap (λ l. p ∷ l) (written_next ps before n x (omega arith) (omega arith) is)

-- A list in the course of being written: its first n places hold those of ps, and the later ones are as they were.
abbrev pub Written : {X : Type 0} → List X → List X → ℕ → List X → Type 0
Written ps before n now = now ≡ take n ps ++ drop n before

module _ {X : Type 0} (ps before now : List X) (n : ℕ) (so_far : Written ps before n now) where
  -- The item that comes next, with its number, is written there.
  pub written_more : (m : ℕ) (item : ℕ × X) → (n < length (enumerate_from 0 ps)) × (item ≡ get_or (enumerate_from 0 ps) n item) → length ps ≤ length before → m ≡ n + 1 → (item.0 < length ps) × Written ps before m (set now item.0 item.1)
  written_more m item next room after =
      let below : n < length ps = omega (arith, next.0, length-enumerate_from 0 ps) in
      let is = next.1 ∙ get_or-enumerate_from 0 ps n item below in
      let number : item.0 ≡ n = ap (λ (i : ℕ × X). i.0) is ∙ zero-add n in
      let more : suc n ≡ m = omega arith in
      (omega (arith, number), ap (λ i. set now i item.1) number ∙ ap (λ l. set l n item.1) so_far ∙ written_next ps before n item.1 below room (ap (λ (i : ℕ × X). i.1) is) ∙ ap (λ k. take k ps ++ drop k before) more)

  -- Once none is left, all are there.
  pub written_all : n ≡ length (enumerate_from 0 ps) → now ≡ ps ++ drop (length ps) before
  written_all all =
      let end : n ≡ length ps = omega (arith, all, length-enumerate_from 0 ps) in
      so_far ∙ ap (λ k. take k ps ++ drop k before) end ∙ ap (λ l. l ++ drop (length ps) before) (take_all (length ps) ps (omega arith))
