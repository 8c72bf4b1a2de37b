-- The waiting stores of one thread, as the library's searches find them, and one store more or less.
use Rattle.std.specs.Prelude.{◌≡◌, ℕ, zero, suc, ◌+◌, ◌^◌, ◌<◌, ◌≤◌, Bool, true, false, cond, ◌&&◌, ◌||◌, List, [], ◌∷◌, ◌++◌, reverse, length, is_some, Some, None, Option, position, ◌==◌, nat_lt, slice_index_or, refl}
use Rattle.std.specs.List.{find, list_any, position_from, remove}
use Rattle.std.specs.Option.{option_map, option_or}
use Rattle.std.proofs.Common.{sym, ap, ◌∙◌, arith}
use Rattle.std.proofs.lemmas.Iterator.Adapters.{position_from-zero}
use Rattle.std.proofs.lemmas.List.{reverse-append}
use Rattle.std.proofs.lemmas.List.Folds.{find-append}
use Rattle.std.proofs.lemmas.List.Quantifiers.{position-Some}
use Rattle.std.proofs.lemmas.List.Recursion.{and_push, found_at}
use Rattle.std.proofs.lemmas.Bool.{and_parts, and_from, lt-ltb}
use Rattle.buffers.specs.Lists.{else_this, newest_to, oldest_to, stores_in_range, waits_to, without_oldest}
use Rattle.buffers.specs.declared.store.Store.{Store}

-- whether a store is to the cell c
abbrev pub to : ℕ → Store → Bool
to c s = s.cell == c

abbrev pub in_range : Store → Bool
in_range s = nat_lt s.cell 16 && nat_lt s.value (2 ^ 32)

-- One store in range more leaves every store in range.
pub ranged_push : (ss : List Store) (s : Store) → stores_in_range ss ≡ true → s.cell < 16 → s.value < 2 ^ 32 → stores_in_range (ss ++ s ∷ []) ≡ true
ranged_push ss s all cell value =
    and_push stores_in_range in_range refl (λ _ _. refl) ss s
    ∙ and_from (stores_in_range ss) (in_range s) all (and_from (nat_lt s.cell 16) (nat_lt s.value (2 ^ 32)) (lt-ltb s.cell 16 cell) (lt-ltb s.value (2 ^ 32) value))

-- One store out leaves the others in range.
pub ranged_without : (c : ℕ) (ss : List Store) → stores_in_range ss ≡ true → stores_in_range (without_oldest c ss) ≡ true
ranged_without c [] all = refl
ranged_without c (s ∷ ss) all = go (and_parts (in_range s) (stores_in_range ss) all) (ranged_without c ss) (s.cell == c)
  where
    go : (in_range s ≡ true) × (stores_in_range ss ≡ true) → (stores_in_range ss ≡ true → stores_in_range (without_oldest c ss) ≡ true) → (b : Bool) → stores_in_range (cond b ss (s ∷ without_oldest c ss)) ≡ true
    go both rest true = both.1
    go both rest false = and_from (in_range s) (stores_in_range (without_oldest c ss)) both.0 (rest both.1)

pub length_without : (c : ℕ) (ss : List Store) → length (without_oldest c ss) ≤ length ss
length_without c [] = omega arith
length_without c (s ∷ ss) = go (s.cell == c) (length_without c ss)
  where
    go : (b : Bool) → length (without_oldest c ss) ≤ length ss → length (cond b ss (s ∷ without_oldest c ss)) ≤ length (s ∷ ss)
    go true rest = omega arith
    go false rest = omega arith

pub else_none : (o : Option ℕ) → else_this o None ≡ o
else_none None = refl
else_none (Some v) = refl

-- The youngest store to a cell is the first that is found from behind.
pub newest_found : (c : ℕ) (ss : List Store) → option_map (λ s. s.value) (find (to c) (reverse ss)) ≡ newest_to c ss
newest_found c [] = refl
newest_found c (s ∷ ss) =
    ap (λ l. option_map (λ r. r.value) (find (to c) l)) (reverse-append (s ∷ []) ss)
    ∙ ap (option_map (λ r. r.value)) (find-append (to c) (reverse ss) (s ∷ []))
    ∙ go (find (to c) (reverse ss)) (to c s)
    ∙ ap (λ o. else_this o (cond (to c s) (Some s.value) None)) (newest_found c ss)
  where
    go : (o : Option Store) (b : Bool) → option_map (λ r. r.value) (option_or o (cond b (Some s) None)) ≡ else_this (option_map (λ r. r.value) o) (cond b (Some s.value) None)
    go None true = refl
    go None false = refl
    go (Some r) b = refl

-- A store to a cell waits where any store is to it.
pub waits_any : (c : ℕ) (ss : List Store) → list_any (to c) ss ≡ waits_to c ss
waits_any c [] = refl
waits_any c (s ∷ ss) = go (to c s) (waits_any c ss)
  where
    go : (b : Bool) → list_any (to c) ss ≡ waits_to c ss → (b || list_any (to c) ss) ≡ is_some (cond b (Some s.value) (oldest_to c ss))
    go true later = refl
    go false later = later

-- What the place of the first store to a cell tells: that store is the oldest, and without it the others are left.
without_at : (c : ℕ) (ss : List Store) (i : ℕ) (d : Store) → i < length ss → to c (slice_index_or ss i d) ≡ true → ((k : ℕ) → k < i → to c (slice_index_or ss k d) ≡ false) → without_oldest c ss ≡ remove ss i
without_at c [] i d within here before = absurd (omega (arith, within))
without_at c (s ∷ ss) zero d within here before = ap (λ b. cond b ss (s ∷ without_oldest c ss)) here
without_at c (s ∷ ss) (suc i) d within here before =
    ap (λ b. cond b ss (s ∷ without_oldest c ss)) (before 0 (omega arith))
    ∙ ap (λ l. s ∷ l) (without_at c ss i d (omega (arith, within)) here (λ k below. before (suc k) (omega (arith, below))))

pub placed : (c : ℕ) (ss : List Store) (i : ℕ) (d : Store) → position (to c) ss ≡ Some i → (oldest_to c ss ≡ Some (slice_index_or ss i d).value) × (without_oldest c ss ≡ remove ss i)
placed c ss i d found =
    let at = position-Some (to c) ss i d found in
    (found_at (oldest_to c) (to c) (λ s. Some s.value) None refl (λ _ _. refl) ss i d at.0 at.2 at.1, without_at c ss i d at.0 at.1 at.2)

-- Where there is no such place, there is no oldest, and one less is all.
unplaced_from : (c i : ℕ) (ss : List Store) → position_from (to c) i ss ≡ None → (oldest_to c ss ≡ None) × (without_oldest c ss ≡ ss)
unplaced_from c i [] none = (refl, refl)
unplaced_from c i (s ∷ ss) none = go (to c s) none (unplaced_from c (i + 1) ss)
  where
    go : (b : Bool) → cond b (Some i) (position_from (to c) (i + 1) ss) ≡ None → (position_from (to c) (i + 1) ss ≡ None → (oldest_to c ss ≡ None) × (without_oldest c ss ≡ ss)) → (cond b (Some s.value) (oldest_to c ss) ≡ None) × (cond b ss (s ∷ without_oldest c ss) ≡ s ∷ ss)
    go true e later = cc
    go false e later = ((later e).0, ap (λ l. s ∷ l) (later e).1)

pub unplaced : (c : ℕ) (ss : List Store) → position (to c) ss ≡ None → (oldest_to c ss ≡ None) × (without_oldest c ss ≡ ss)
unplaced c ss none = unplaced_from c 0 ss (sym (position_from-zero (to c) ss) ∙ none)
