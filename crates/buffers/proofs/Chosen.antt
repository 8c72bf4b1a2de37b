-- Whether a store waits for one of the chosen cells, asked cell by cell.
use Rattle.std.specs.Prelude.{◌≡◌, ℕ, ◌<◌, Bool, true, false, cond, ◌&&◌, ◌||◌, List, [], ◌∷◌, get_or, length, is_some, Some, None, Option, ◌==◌, slice_index_or, refl}
use Rattle.std.specs.List.{enumerate_from, list_any}
use Rattle.std.proofs.Common.{sym, ap, ◌∙◌, arith, inl, inr, zero-add}
use Rattle.std.proofs.lemmas.List.{get_or_default, get_or_past}
use Rattle.std.proofs.lemmas.List.Folds.{Any-from_list_any, list_any_at}
use Rattle.std.proofs.lemmas.List.FromFn.{get_or-enumerate_from, length-enumerate_from}
use Rattle.std.proofs.lemmas.List.Recursion.{or_from_places}
use Rattle.std.proofs.lemmas.Bool.{and_parts, and_from, both_ways, cases_lt, eq-eqb, eqb-true, false_from_ne_true, or_left, or_right, true≢false}
use Rattle.buffers.specs.Calls.{store}
use Rattle.buffers.specs.Kinds.{has_chosen}
use Rattle.buffers.specs.Lists.{else_this, newest_to, oldest_to, waits_to}
use Rattle.buffers.specs.declared.store.Store.{Store}
use Rattle.buffers.proofs.Stores.{else_none, to, waits_any}

else_some : (o : Option ℕ) (v : ℕ) → is_some (else_this o (Some v)) ≡ true
else_some None v = refl
else_some (Some w) v = refl

-- There is a youngest store to a cell exactly where there is an oldest.
pub newest_waits : (c : ℕ) (ss : List Store) → is_some (newest_to c ss) ≡ waits_to c ss
newest_waits c [] = refl
newest_waits c (s ∷ ss) = go (s.cell == c) (newest_waits c ss)
  where
    go : (b : Bool) → is_some (newest_to c ss) ≡ waits_to c ss → is_some (else_this (newest_to c ss) (cond b (Some s.value) None)) ≡ is_some (cond b (Some s.value) (oldest_to c ss))
    go true later = else_some (newest_to c ss) s.value
    go false later = ap is_some (else_none (newest_to c ss)) ∙ later

-- A store to a chosen cell is found.
pub chosen_found : (chosen : List Bool) (c : ℕ) (ss : List Store) → slice_index_or chosen c false ≡ true → waits_to c ss ≡ true → has_chosen chosen ss ≡ true
chosen_found chosen c [] strong waits = absurd (true≢false (sym waits))
chosen_found chosen c (s ∷ ss) strong waits = go (s.cell == c) refl waits (chosen_found chosen c ss strong)
  where
    go : (b : Bool) → (s.cell == c) ≡ b → is_some (cond b (Some s.value) (oldest_to c ss)) ≡ true → (waits_to c ss ≡ true → has_chosen chosen ss ≡ true) → (slice_index_or chosen s.cell false || has_chosen chosen ss) ≡ true
    go true here w later = or_left (slice_index_or chosen s.cell false) (has_chosen chosen ss) (ap (λ k. get_or chosen k false) (eqb-true s.cell c here) ∙ strong)
    go false other w later = or_right (slice_index_or chosen s.cell false) (has_chosen chosen ss) (later w)

-- Where no store waits for a chosen cell, none is to one.
pub chosen_none : (chosen : List Bool) (ss : List Store) → ((c : ℕ) → slice_index_or chosen c false ≡ true → waits_to c ss ≡ false) → has_chosen chosen ss ≡ false
chosen_none chosen ss none = or_from_places (has_chosen chosen) (λ s. slice_index_or chosen s.cell false) refl (λ _ _. refl) ss (store 0 0) at
  where
    at : (i : ℕ) → i < length ss → slice_index_or chosen (slice_index_or ss i (store 0 0)).cell false ≡ false
    at i within =
        let c = (slice_index_or ss i (store 0 0)).cell in
        false_from_ne_true (slice_index_or chosen c false) (λ strong. both_ways (waits_to c ss) (none c strong) (sym (waits_any c ss) ∙ list_any_at (to c) ss i (store 0 0) within (eq-eqb c c refl)))

-- whether a cell is chosen and a store waits for it
abbrev pub asked : List Store → ℕ × Bool → Bool
asked ss p = p.1 && is_some (newest_to p.0 ss)

entry : (chosen : List Bool) (k : ℕ) (d : ℕ × Bool) → k < length chosen → get_or (enumerate_from 0 chosen) k d ≡ (k, get_or chosen k d.1)
entry chosen k d within = get_or-enumerate_from 0 chosen k d within ∙ ap (λ i. (i, get_or chosen k d.1)) (zero-add k)

-- A store waits for a chosen cell exactly where one of the sixteen answers tells so.
pub chosen_asked : (chosen : List Bool) (ss : List Store) → list_any (asked ss) (enumerate_from 0 chosen) ≡ has_chosen chosen ss
chosen_asked chosen ss = go (list_any (asked ss) (enumerate_from 0 chosen)) refl
  where
    go : (b : Bool) → list_any (asked ss) (enumerate_from 0 chosen) ≡ b → b ≡ has_chosen chosen ss
    go true found =
        let hit = Any-from_list_any (asked ss) (enumerate_from 0 chosen) found in
        let k = hit.0 in
        let p = hit.1 in
        let within : k < length chosen = omega (arith, hit.2, length-enumerate_from 0 chosen) in
        let is = sym (entry chosen k p within) ∙ hit.3 in
        let both = and_parts p.1 (is_some (newest_to p.0 ss)) hit.4 in
        let strong : slice_index_or chosen k false ≡ true = get_or_default chosen k false p.1 within ∙ ap (λ q. q.1) is ∙ both.0 in
        sym (chosen_found chosen p.0 ss (ap (λ i. slice_index_or chosen i false) (sym (ap (λ q. q.0) is)) ∙ strong) (sym (newest_waits p.0 ss) ∙ both.1))
    go false none = sym (chosen_none chosen ss (λ c strong. false_from_ne_true (waits_to c ss) (λ waits. both_ways (list_any (asked ss) (enumerate_from 0 chosen)) none (at c strong waits))))
      where
        at : (c : ℕ) → slice_index_or chosen c false ≡ true → waits_to c ss ≡ true → list_any (asked ss) (enumerate_from 0 chosen) ≡ true
        at c strong waits =
            elim (cases_lt c (length chosen)) [
              | inl within ↦
                  list_any_at (asked ss) (enumerate_from 0 chosen) c (0, false) (omega (arith, within, length-enumerate_from 0 chosen))
                  (ap (asked ss) (entry chosen c (0, false) within) ∙ and_from (slice_index_or chosen c false) (is_some (newest_to c ss)) strong (newest_waits c ss ∙ waits))
              | inr past ↦ absurd (both_ways (slice_index_or chosen c false) (get_or_past chosen c false past) strong)
            ]
