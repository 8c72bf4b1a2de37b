-- The youngest store to a cell: the same among the entries of a ledger, among kept actions, and in a list of the buffer.
use Rattle.std.proofs.Common.{◌≡◌, ℕ, ◌+◌, Bool, true, false, cond, not, ◌&&◌, eqb, List, [], ◌∷◌, ◌++◌, map, length, is_some, Some, None, Option, sym, refl, ap, ◌∙◌, append_assoc, append-nil, add-zero, arith}
use Rattle.std.specs.Option.{option_map}
use Rattle.buffers.specs.Lists.{else_this, newest_to}
use Rattle.buffers.proofs.Stores.{else_none}
use Rattle.ledger.specs.Actions.{Access, Source, loads, none, stores}
use Rattle.ledger.specs.Ledgers.{Entry}
use Rattle.ledger.specs.Moves.{issued, or_else, youngest}
use Rattle.present.specs.Agreement.{entries, left_of}
use Rattle.present.specs.Data.{Noted, stores_to, youngest_left}

-- The first entry there is, and then what is told of it, or what is told of each, and then the first.
mapped_else : (f : Entry → ℕ) (o : Option Entry) (b : Bool) (e : Entry) → else_this (option_map f o) (cond b (Some (f e)) None) ≡ option_map f (or_else o (cond b (Some e) None))
mapped_else f None true e = refl
mapped_else f None false e = refl
mapped_else f (Some g) b e = refl

-- The value of the youngest entry to a cell is what the buffer's list tells.
pub newest_youngest : (c : ℕ) (es : List Entry) → newest_to c (map (λ e. e.store) es) ≡ option_map (λ e. e.store.value) (youngest c es)
newest_youngest c [] = refl
newest_youngest c (e ∷ es) =
    ap (λ o. else_this o (cond (eqb e.store.cell c) (Some e.store.value) None)) (newest_youngest c es)
    ∙ mapped_else (λ f. f.store.value) (youngest c es) (eqb e.store.cell c) e

-- The position of the youngest entry that kept actions leave waiting is that of the youngest action left waiting.
pub left_youngest : (i c : ℕ) (xs : List Noted) → youngest_left i c xs ≡ option_map (λ e. e.position) (youngest c (entries i xs))
left_youngest i c [] = refl
left_youngest i c (x ∷ xs) = go x.over (left_youngest (i + 1) c xs)
  where
    by_access : (access : Access) → youngest_left (i + 1) c xs ≡ option_map (λ e. e.position) (youngest c (entries (i + 1) xs)) → else_this (youngest_left (i + 1) c xs) (cond (stores_to c access) (Some i) None) ≡ option_map (λ e. e.position) (youngest c (issued i x.action.value access ++ entries (i + 1) xs))
    by_access none later = else_none (youngest_left (i + 1) c xs) ∙ later
    by_access (stores d) later = ap (λ o. else_this o (cond (eqb d c) (Some i) None)) later ∙ mapped_else (λ e. e.position) (youngest c (entries (i + 1) xs)) (eqb d c) (record { position = i; store = record { cell = d; value = x.action.value } })
    by_access (loads d source) later = else_none (youngest_left (i + 1) c xs) ∙ later

    go : (over : Option Source) → youngest_left (i + 1) c xs ≡ option_map (λ e. e.position) (youngest c (entries (i + 1) xs)) → else_this (youngest_left (i + 1) c xs) (cond (not (is_some over) && stores_to c x.action.access) (Some i) None) ≡ option_map (λ e. e.position) (youngest c (left_of i x over ++ entries (i + 1) xs))
    go None later = by_access x.action.access later
    go (Some s) later = else_none (youngest_left (i + 1) c xs) ∙ later

-- What kept actions leave waiting once one is kept more.
pub entries_push : (i : ℕ) (xs : List Noted) (x : Noted) → entries i (xs ++ x ∷ []) ≡ entries i xs ++ left_of (i + length xs) x x.over
entries_push i [] x = append-nil (left_of i x x.over) ∙ ap (λ k. left_of k x x.over) (sym (add-zero i))
entries_push i (y ∷ xs) x =
    let places : (i + 1) + length xs ≡ i + length (y ∷ xs) = omega arith in
    ap (λ es. left_of i y y.over ++ es) (entries_push (i + 1) xs x ∙ ap (λ k. entries (i + 1) xs ++ left_of k x x.over) places)
    ∙ sym (append_assoc (left_of i y y.over) (entries (i + 1) xs) (left_of (i + length (y ∷ xs)) x x.over))
