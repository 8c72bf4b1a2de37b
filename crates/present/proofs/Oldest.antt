-- The oldest store that kept actions leave waiting, and what drained stores overwrote: facts of lists alone.
use Rattle.std.proofs.Common.{◌≡◌, ℕ, zero, suc, ◌+◌, ◌<◌, Bool, true, false, cond, eqb, List, [], ◌∷◌, ◌++◌, map, length, get_or, Some, None, Option, sym, refl, ap, ◌∙◌, suc-le-suc, add-zero, arith}
use Rattle.std.proofs.lemmas.Bool.{cond-false, cond-true, eqb-true, false_from_ne_true}
use Rattle.std.proofs.lemmas.List.Elements.{All-head, All-tail}
use Rattle.buffers.specs.Calls.{store}
use Rattle.buffers.specs.Lists.{oldest_to, without_oldest}
use Rattle.ledger.specs.Actions.{Access, Name, Source, from, initial, loads, none, same, stores}
use Rattle.ledger.specs.Ledgers.{Entry, Ledger}
use Rattle.ledger.specs.Moves.{in_memory, last_of, less_oldest, oldest}
use Rattle.ledger.specs.Orders.{Lacks}
use Rattle.ledger.proofs.Growing.{same_self, same_true}
use Rattle.present.specs.Agreement.{entries, left_of, overwrote}
use Rattle.present.specs.Calls.{overwriting}
use Rattle.present.specs.Data.{Noted, left_waiting, nothing_noted, oldest_left}

-- The oldest entry to a cell is the oldest store to it.
pub oldest_stored : (c : ℕ) (es : List Entry) (e : Entry) → oldest c es ≡ Some e → oldest_to c (map (λ f. f.store) es) ≡ Some e.store.value
oldest_stored c [] e found = grind arith
oldest_stored c (f ∷ es) e found = go (eqb f.store.cell c) found (oldest_stored c es e)
  where
    go : (b : Bool) → cond b (Some f) (oldest c es) ≡ Some e → (oldest c es ≡ Some e → oldest_to c (map (λ g. g.store) es) ≡ Some e.store.value) → cond b (Some f.store.value) (oldest_to c (map (λ g. g.store) es)) ≡ Some e.store.value
    go true is later = let f_is : f ≡ e = cc in ap (λ g. Some g.store.value) f_is
    go false is later = later is

-- Without it, the stores are those of the entries that are left.
pub without_stored : (c : ℕ) (es : List Entry) → without_oldest c (map (λ f. f.store) es) ≡ map (λ f. f.store) (less_oldest c es)
without_stored c [] = refl
without_stored c (f ∷ es) = go (eqb f.store.cell c) (without_stored c es)
  where
    go : (b : Bool) → without_oldest c (map (λ g. g.store) es) ≡ map (λ g. g.store) (less_oldest c es) → cond b (map (λ g. g.store) es) (f.store ∷ without_oldest c (map (λ g. g.store) es)) ≡ map (λ g. g.store) (cond b es (f ∷ less_oldest c es))
    go true later = refl
    go false later = ap (λ ss. f.store ∷ ss) later

-- The kept action of the oldest entry to a cell, positions counted from i; once it is told what it overwrote, the other entries are left.
pub record Found (i c : ℕ) (xs : List Noted) (e : Entry) : Type 0 where
  pub place : ℕ
  pub is : e.position ≡ i + place
  pub within : place < length xs
  pub left : oldest_left i c xs ≡ Some e.position
  pub access : (get_or xs place nothing_noted).action.access ≡ stores c
  pub others : (s : Source) → entries i (overwriting s place xs) ≡ less_oldest c (entries i xs)

-- an action as it is kept, by its parts
abbrev kept : ℕ → ℕ → Access → Option Source → Noted
kept n v a o = record { action = record { line = n; value = v; access = a }; over = o }

-- It is found behind an action that leaves no store to the cell waiting.
found_later : (i c : ℕ) (x : Noted) (xs : List Noted) (e : Entry) → left_waiting c x ≡ false → less_oldest c (entries i (x ∷ xs)) ≡ left_of i x x.over ++ less_oldest c (entries (i + 1) xs) → Found (i + 1) c xs e → Found i c (x ∷ xs) e
found_later i c x xs e other less f = record {
  place = suc f.place;
  is = omega (arith, f.is);
  within = suc-le-suc f.within;
  left = cond-false (left_waiting c x) (Some i) (oldest_left (i + 1) c xs) other ∙ f.left;
  access = f.access;
  others = λ s. ap (λ es. left_of i x x.over ++ es) (f.others s) ∙ sym less;
}

-- The oldest entry to a cell is that of a kept action.
pub found : (i c : ℕ) (xs : List Noted) (e : Entry) → oldest c (entries i xs) ≡ Some e → Found i c xs e
found i c [] e is = grind arith
found i c (x ∷ xs) e is = go x.action.line x.action.value x.action.access x.over is (found (i + 1) c xs e)
  where
    stored : (n v d : ℕ) (b : Bool) → eqb d c ≡ b → cond b (Some (record { position = i; store = store d v })) (oldest c (entries (i + 1) xs)) ≡ Some e → (oldest c (entries (i + 1) xs) ≡ Some e → Found (i + 1) c xs e) → Found i c (kept n v (stores d) None ∷ xs) e
    stored n v d true here so later =
        let first : Entry = record { position = i; store = store d v } in
        let e_is : first ≡ e = cc in
        record {
          place = 0;
          is = sym (ap (λ f. f.position) e_is) ∙ sym (add-zero i);
          within = omega arith;
          left = cond-true (eqb d c) (Some i) (oldest_left (i + 1) c xs) here ∙ ap (λ f. Some f.position) e_is;
          access = ap stores (eqb-true d c here);
          others = λ s. sym (cond-true (eqb d c) (entries (i + 1) xs) (first ∷ less_oldest c (entries (i + 1) xs)) here);
        }
    stored n v d false other so later = found_later i c (kept n v (stores d) None) xs e other (cond-false (eqb d c) (entries (i + 1) xs) (record { position = i; store = store d v } ∷ less_oldest c (entries (i + 1) xs)) other) (later so)

    go : (n v : ℕ) (a : Access) (o : Option Source) → oldest c (entries i (kept n v a o ∷ xs)) ≡ Some e → (oldest c (entries (i + 1) xs) ≡ Some e → Found (i + 1) c xs e) → Found i c (kept n v a o ∷ xs) e
    go n v a (Some s) so later = found_later i c (kept n v a (Some s)) xs e refl refl (later so)
    go n v none None so later = found_later i c (kept n v none None) xs e refl refl (later so)
    go n v (loads d s) None so later = found_later i c (kept n v (loads d s) None) xs e refl refl (later so)
    go n v (stores d) None so later = stored n v d (eqb d c) refl so later

-- Told what it overwrote, a kept action is the same action.
pub actions_kept : (s : Source) (xs : List Noted) (p : ℕ) → map (λ x. x.action) (overwriting s p xs) ≡ map (λ x. x.action) xs
actions_kept s [] p = refl
actions_kept s (x ∷ xs) zero = refl
actions_kept s (x ∷ xs) (suc p) = ap (λ rest. x.action ∷ rest) (actions_kept s xs p)

-- what stands in memory after a list of drained stores
abbrev pub after_all : Source → List Name → Source
after_all before [] = before
after_all before (a ∷ names) = after_all (from a) names

-- It is where memory has its value from.
pub memory_source : (l : Ledger) (c : ℕ) (names : List Name) → (in_memory l c (last_of names)).source ≡ after_all initial names
memory_source l c [] = refl
memory_source l c (a ∷ []) = refl
memory_source l c (a ∷ b ∷ names) = memory_source l c (b ∷ names)

-- Different names are told apart.
apart_false : (a b : Name) → (a ≡ b → ⊥) → same a b ≡ false
apart_false a b apart = false_from_ne_true (same a b) (λ is. apart (same_true a b is))

-- A store that is drained overwrote what the list before it left in memory.
pub overwrote_new : (before : Source) (names : List Name) (a : Name) → Lacks names a → overwrote before (names ++ a ∷ []) a ≡ Some (after_all before names)
overwrote_new before [] a lacks = cond-true (same a a) (Some before) None (same_self a a refl)
overwrote_new before (b ∷ names) a lacks = cond-false (same b a) (Some before) (overwrote (from b) (names ++ a ∷ []) a) (apart_false b a (All-head (λ d. d ≡ a → ⊥) b names lacks)) ∙ overwrote_new (from b) names a (All-tail (λ d. d ≡ a → ⊥) b names lacks)

-- The others overwrote what they did.
pub overwrote_old : (before : Source) (names : List Name) (b a : Name) → (b ≡ a → ⊥) → overwrote before (names ++ b ∷ []) a ≡ overwrote before names a
overwrote_old before [] b a apart = cond-false (same b a) (Some before) None (apart_false b a apart)
overwrote_old before (d ∷ names) b a apart = ap (λ o. cond (same d a) (Some before) o) (overwrote_old (from d) names b a apart)
