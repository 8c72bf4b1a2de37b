-- A table that marks exactly the attack pairs lists exactly them, in order, and so the call answers.
use Rattle.std.proofs.Common.{◌≡◌, ℕ, zero, suc, ◌+◌, ◌-◌, ◌*◌, ◌/◌, ◌%◌, ◌<◌, ◌≤◌, Bool, true, false, List, [], ◌∷◌, ◌++◌, length, map, get_or, sym, refl, ap, ◌∙◌, subst, add-zero, zero-add, arith}
use Rattle.std.specs.List.{All, Contains, enumerate_from, filter, flat_map}
use Rattle.std.proofs.lemmas.List.{get_or_append_left, get_or-append_right, get_or_past}
use Rattle.std.proofs.lemmas.List.Elements.{All-nil, All-cons, All-head, All-tail, Contains-append_right}
use Rattle.std.proofs.lemmas.Bool.{true≢false}
use Rattle.std.proofs.lemmas.Grind.{common_steps}
use Rattle.program.specs.declared.lines.Line.{Line}
use Rattle.attacks.specs.declared.pair.Pair.{Pair}
use Rattle.attacks.specs.Attacks.{Attack, AttackPairs, Before, Ascending}
use Rattle.attacks.specs.Tables.{Long, RightTable, pair, row_pairs, table_pairs}

-- The pair of the place k of a whole table, counted row by row: its row is a store, its place in the row a load.
abbrev place_pair : ℕ → Pair
place_pair k = pair (k / 128) (k % 128)

-- So of the marked places, counted from i.
abbrev marked_pairs : ℕ → List Bool → List Pair
marked_pairs i marks = map (λ p. place_pair p.0) (filter (λ p. p.1) (enumerate_from i marks))

-- One step on from i is one place less from i + 1.
add_one_in : (i k : ℕ) → i + suc k ≡ i + 1 + k
add_one_in i k = omega arith

-- a place is marked
abbrev pub Marked : List Bool → ℕ → Type 0
Marked marks k = get_or marks k false ≡ true

-- What holds of the pair of every marked place holds of all pairs.
pairs_all : (P : Pair → Type 0) (i : ℕ) (marks : List Bool) → ((k : ℕ) → Marked marks k → P (place_pair (i + k))) → All P (marked_pairs i marks)
pairs_all P i [] right = All-nil P
pairs_all P i (true ∷ marks) right =
    All-cons P (place_pair i) (marked_pairs (i + 1) marks) (subst (λ k. P (place_pair k)) (add-zero i) (right 0 refl))
    (pairs_all P (i + 1) marks (λ k m. subst (λ n. P (place_pair n)) (add_one_in i k) (right (suc k) m)))
pairs_all P i (false ∷ marks) right = pairs_all P (i + 1) marks (λ k m. subst (λ n. P (place_pair n)) (add_one_in i k) (right (suc k) m))

-- The pair of a place comes before that of each later place.
before_later : (i k : ℕ) → i < k → Before (place_pair i) (place_pair k)
before_later i k later = grind arith

pairs_ascend : (i : ℕ) (marks : List Bool) → Ascending (marked_pairs i marks)
pairs_ascend i [] = tt
pairs_ascend i (true ∷ marks) = (pairs_all (Before (place_pair i)) (i + 1) marks (λ k m. before_later i (i + 1 + k) (omega arith)), pairs_ascend (i + 1) marks)
pairs_ascend i (false ∷ marks) = pairs_ascend (i + 1) marks

-- Every marked place gives its pair.
pairs_complete : (i : ℕ) (marks : List Bool) (k : ℕ) → Marked marks k → Contains (marked_pairs i marks) (place_pair (i + k))
pairs_complete i [] k marked = absurd (true≢false (sym marked))
pairs_complete i (true ∷ marks) zero marked = (0, omega arith, ap place_pair (sym (add-zero i)))
pairs_complete i (true ∷ marks) (suc k) marked =
    subst (λ n. Contains (marked_pairs i (true ∷ marks)) (place_pair n)) (sym (add_one_in i k))
    (Contains-append_right (place_pair i ∷ []) (marked_pairs (i + 1) marks) (place_pair (i + 1 + k)) (pairs_complete (i + 1) marks k marked))
pairs_complete i (false ∷ marks) zero marked = absurd (true≢false (sym marked))
pairs_complete i (false ∷ marks) (suc k) marked =
    subst (λ n. Contains (marked_pairs i (false ∷ marks)) (place_pair n)) (sym (add_one_in i k)) (pairs_complete (i + 1) marks k marked)

-- The place l of the row s, in the whole table.
flat_at : (rows : List (List Bool)) → All Long rows → (s l : ℕ) → l < 128 → get_or (flat_map (λ row. row) rows) (128 * s + l) false ≡ get_or (get_or rows s []) l false
flat_at [] long s l within = refl
flat_at (row ∷ rows) long zero l within =
    let place : 128 * 0 + l ≡ l = omega arith in
    let full : length row ≡ 128 = All-head Long row rows long in
    ap (λ k. get_or (row ++ flat_map (λ r. r) rows) k false) place ∙ get_or_append_left row (flat_map (λ r. r) rows) false l (omega arith)
flat_at (row ∷ rows) long (suc s) l within =
    let place : 128 * suc s + l - 128 ≡ 128 * s + l = omega arith in
    get_or-append_right row (flat_map (λ r. r) rows) 128 (128 * suc s + l) false (All-head Long row rows long) (omega arith)
    ∙ ap (λ k. get_or (flat_map (λ r. r) rows) k false) place
    ∙ flat_at rows (All-tail Long row rows long) s l within

-- A place that is marked stands in a row of that length.
in_row : (rows : List (List Bool)) → All Long rows → (s l : ℕ) → Marked (get_or rows s []) l → l < 128
in_row rows long s l marked = grind (arith, common_steps, get_or_past, long s [])

-- The pair of a place of a row.
pair_at : (s l : ℕ) → l < 128 → place_pair (0 + (128 * s + l)) ≡ pair s l
pair_at s l within = grind arith

-- The pairs of a row are those of the places at which it stands in the whole table.
row_places : (s i : ℕ) (marks : List Bool) → i + length marks ≤ 128 → map (λ p. pair s p.0) (filter (λ p. p.1) (enumerate_from i marks)) ≡ marked_pairs (128 * s + i) marks
row_places s i [] within = refl
row_places s i (true ∷ marks) within =
    let here : pair s i ≡ place_pair (128 * s + i) = grind arith in
    let next : 128 * s + (i + 1) ≡ 128 * s + i + 1 = omega arith in
    ap (λ p. p ∷ map (λ q. pair s q.0) (filter (λ q. q.1) (enumerate_from (i + 1) marks))) here
    ∙ ap (λ ps. place_pair (128 * s + i) ∷ ps) (row_places s (i + 1) marks (omega arith) ∙ ap (λ k. marked_pairs k marks) next)
row_places s i (false ∷ marks) within =
    let next : 128 * s + (i + 1) ≡ 128 * s + i + 1 = omega arith in
    row_places s (i + 1) marks (omega arith) ∙ ap (λ k. marked_pairs k marks) next

marked_append : (i : ℕ) (xs ys : List Bool) → marked_pairs i (xs ++ ys) ≡ marked_pairs i xs ++ marked_pairs (i + length xs) ys
marked_append i [] ys = ap (λ k. marked_pairs k ys) (sym (add-zero i))
marked_append i (true ∷ xs) ys =
    ap (λ ps. place_pair i ∷ ps) (marked_append (i + 1) xs ys ∙ ap (λ k. marked_pairs (i + 1) xs ++ marked_pairs k ys) (sym (add_one_in i (length xs))))
marked_append i (false ∷ xs) ys = marked_append (i + 1) xs ys ∙ ap (λ k. marked_pairs (i + 1) xs ++ marked_pairs k ys) (sym (add_one_in i (length xs)))

-- So for all rows, if each is long.
rows_places : (s : ℕ) (rows : List (List Bool)) → All Long rows → flat_map (λ r. row_pairs r.0 r.1) (enumerate_from s rows) ≡ marked_pairs (128 * s) (flat_map (λ row. row) rows)
rows_places s [] long = refl
rows_places s (row ∷ rows) long =
    let full : length row ≡ 128 = All-head Long row rows long in
    let flat = flat_map (λ (r : List Bool). r) rows in
    let next : 128 * (s + 1) ≡ 128 * s + length row = omega arith in
    ap (λ ps. ps ++ flat_map (λ r. row_pairs r.0 r.1) (enumerate_from (s + 1) rows)) (row_places s 0 row (omega arith) ∙ ap (λ k. marked_pairs k row) (add-zero (128 * s)))
    ∙ ap (λ ps. marked_pairs (128 * s) row ++ ps) (rows_places (s + 1) rows (All-tail Long row rows long) ∙ ap (λ k. marked_pairs k flat) next)
    ∙ sym (marked_append (128 * s) row flat)

-- A right table lists exactly the attack pairs, in order.
pub table_attacks : (ls : List Line) (rows : List (List Bool)) → RightTable ls rows → AttackPairs ls (table_pairs rows)
table_attacks ls rows right =
    let flat = flat_map (λ (row : List Bool). row) rows in
    subst (AttackPairs ls) (sym (rows_places 0 rows right.long)) (record {
      sound = pairs_all (λ p. Attack ls p.store p.load) 0 flat (λ k m.
          let place : 128 * (k / 128) + k % 128 ≡ k = omega arith in
          subst (λ n. Attack ls (n / 128) (n % 128)) (sym (zero-add k))
          ((right.right (k / 128)).only (k % 128) (sym (flat_at rows right.long (k / 128) (k % 128) (omega arith)) ∙ ap (λ n. get_or flat n false) place ∙ m)));
      complete = λ p attack.
          let marked = (right.right p.store).all p.load attack in
          let within = in_row rows right.long p.store p.load marked in
          subst (Contains (marked_pairs 0 flat)) (pair_at p.store p.load within)
          (pairs_complete 0 flat (128 * p.store + p.load) (flat_at rows right.long p.store p.load within ∙ marked));
      ascending = pairs_ascend 0 flat;
    })
