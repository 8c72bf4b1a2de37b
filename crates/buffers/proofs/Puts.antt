-- What a put that was taken leaves for the calls after it.
use Rattle.std.proofs.Common.{◌≡◌, ℕ, Bool, true, false, cond, eqb, List, [], ◌∷◌, ◌++◌, length, is_some, Some, None, Ok, refl, ap, ◌∙◌, append_assoc, arith}
use Rattle.std.specs.Option.{ok_or}
use Rattle.std.proofs.lemmas.List.{get_or-set_same}
use Rattle.std.proofs.lemmas.Bool.{eq-eqb, true≢false}
use Rattle.refusal.specs.declared.Refusal.TheVariants.{DrainNotFree}
use Rattle.buffers.specs.Calls.{put_answer, put_lists, store, take_answer}
use Rattle.buffers.specs.Laws.{Rules}
use Rattle.buffers.specs.Lists.{Lists, else_this, list_of, newest_to, oldest_to, waits_to}
use Rattle.buffers.specs.Theorems.{after_events, puts}
use Rattle.buffers.specs.declared.store.Store.{Store}
use Rattle.buffers.proofs.Calls.{length_put, put_in_range}

-- The last store to a cell is its youngest.
newest_pushed : (c v : ℕ) (ss : List Store) → newest_to c (ss ++ store c v ∷ []) ≡ Some v
newest_pushed c v [] = ap (λ b. cond b (Some v) None) (eq-eqb c c refl)
newest_pushed c v (s ∷ ss) = ap (λ o. else_this o (cond (eqb s.cell c) (Some s.value) None)) (newest_pushed c v ss)

-- The first store to a cell that had none is its oldest.
oldest_pushed : (c v : ℕ) (ss after : List Store) → waits_to c ss ≡ false → oldest_to c (ss ++ store c v ∷ after) ≡ Some v
oldest_pushed c v [] after none = ap (λ b. cond b (Some v) (oldest_to c after)) (eq-eqb c c refl)
oldest_pushed c v (s ∷ ss) after none = go (eqb s.cell c) none (oldest_pushed c v ss after)
  where
    go : (b : Bool) → is_some (cond b (Some s.value) (oldest_to c ss)) ≡ false → (waits_to c ss ≡ false → oldest_to c (ss ++ store c v ∷ after) ≡ Some v) → cond b (Some s.value) (oldest_to c (ss ++ store c v ∷ after)) ≡ Some v
    go true w later = absurd (true≢false w)
    go false w later = later w

-- A put that was taken stands at the end of the thread's list.
list_put : (ls : Lists) → length ls ≡ 8 → (t c v : ℕ) → put_answer ls t c ≡ Ok tt → list_of (put_lists ls t c v (put_answer ls t c)) t ≡ list_of ls t ++ store c v ∷ []
list_put ls eight t c v taken =
    let within = put_in_range ls t c tt taken in
    ap (λ a. list_of (put_lists ls t c v a) t) taken
    ∙ get_or-set_same ls t (list_of ls t ++ store c v ∷ []) [] (omega (arith, eight, within))

-- It is then the thread's youngest to its cell.
pub newest_put : (ls : Lists) → length ls ≡ 8 → (t c v : ℕ) → put_answer ls t c ≡ Ok tt → newest_to c (list_of (put_lists ls t c v (put_answer ls t c)) t) ≡ Some v
newest_put ls eight t c v taken = ap (newest_to c) (list_put ls eight t c v taken) ∙ newest_pushed c v (list_of ls t)

-- Of two puts to a cell that had none, a take answers the first.
pub first_taken : (r : Rules) (ls : Lists) → length ls ≡ 8 → (t c v w : ℕ) → put_answer ls t c ≡ Ok tt → put_answer (after_events r ls (puts t c v ∷ [])) t c ≡ Ok tt → waits_to c (list_of ls t) ≡ false → take_answer true (after_events r ls (puts t c v ∷ puts t c w ∷ [])) t c ≡ Ok v
first_taken r ls eight t c v w one two none =
    let next = put_lists ls t c v (put_answer ls t c) in
    ap (λ ss. ok_or (oldest_to c ss) DrainNotFree)
    (list_put next (length_put ls t c v (put_answer ls t c) ∙ eight) t c w two
    ∙ ap (λ ss. ss ++ store c w ∷ []) (list_put ls eight t c v one)
    ∙ append_assoc (list_of ls t) (store c v ∷ []) (store c w ∷ []))
    ∙ ap (λ o. ok_or o DrainNotFree) (oldest_pushed c v (list_of ls t) (store c w ∷ []) none)
