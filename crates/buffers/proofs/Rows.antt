-- Eight short lists in range stay so where one of them is changed, and where none holds a store.
use Rattle.std.specs.Prelude.{◌≡◌, ℕ, zero, suc, ◌^◌, ◌<◌, ◌≤◌, true, List, [], ◌∷◌, ◌++◌, get_or, length, replicate, set, refl}
use Rattle.std.proofs.Common.{arith, sym, ap, ◌∙◌, subst, length-append}
use Rattle.std.proofs.lemmas.List.{ext_get_or, length-set}
use Rattle.buffers.specs.Calls.{no_stores, store}
use Rattle.buffers.specs.Lists.{Good, Lists, list_of, stores_in_range, without_oldest}
use Rattle.buffers.specs.declared.store.Store.{Store}
use Rattle.buffers.proofs.Stores.{length_without, ranged_push, ranged_without}

-- What holds of the new list of one thread, and of the lists of all threads before, holds of all of them.
at_set : (P : List Store → Type 0) (ls : Lists) (t : ℕ) (ss : List Store) → P ss → ((u : ℕ) → P (list_of ls u)) → (u : ℕ) → P (list_of (set ls t ss) u)
at_set P [] t ss new old u = old u
at_set P (l ∷ ls) zero ss new old zero = new
at_set P (l ∷ ls) zero ss new old (suc u) = old (suc u)
at_set P (l ∷ ls) (suc t) ss new old zero = old zero
at_set P (l ∷ ls) (suc t) ss new old (suc u) = at_set P ls t ss new (λ v. old (suc v)) u

good_set : (ls : Lists) (t : ℕ) (ss : List Store) → Good ls → length ss ≤ 16 → stores_in_range ss ≡ true → Good (set ls t ss)
good_set ls t ss good few ranged = record {
  eight = length-set ls t ss ∙ good.eight;
  few = at_set (λ l. length l ≤ 16) ls t ss few good.few;
  ranged = at_set (λ l. stores_in_range l ≡ true) ls t ss ranged good.ranged;
}

-- One store in range more, where there was room for it.
pub good_push : (ls : Lists) (t c v : ℕ) → Good ls → length (list_of ls t) < 16 → c < 16 → v < 2 ^ 32 → Good (set ls t (list_of ls t ++ store c v ∷ []))
good_push ls t c v good room cell value = good_set ls t (list_of ls t ++ store c v ∷ []) good (omega (arith, length-append (list_of ls t) (store c v ∷ []))) (ranged_push (list_of ls t) (store c v) (good.ranged t) cell value)

-- One store less.
pub good_without : (ls : Lists) (t c : ℕ) → Good ls → Good (set ls t (without_oldest c (list_of ls t)))
good_without ls t c good = good_set ls t (without_oldest c (list_of ls t)) good (omega (arith, length_without c (list_of ls t), good.few t)) (ranged_without c (list_of ls t) (good.ranged t))

-- A list of one value holds it at every place, where it is also what stands past the end.
pub at_replicate : {A : Type 0} (n i : ℕ) (a : A) → get_or (replicate n a) i a ≡ a
at_replicate zero i a = refl
at_replicate (suc n) zero a = refl
at_replicate (suc n) (suc i) a = at_replicate n i a

pub no_list : (t : ℕ) → list_of no_stores t ≡ []
no_list t = at_replicate 8 t []

-- Where each of eight lists is empty, nothing waits.
pub none_wait : (ls : Lists) → length ls ≡ 8 → ((t : ℕ) → t < 8 → list_of ls t ≡ []) → ls ≡ no_stores
none_wait ls eight empty = ext_get_or [] ls no_stores eight (λ t within. empty t (omega (arith, eight, within)) ∙ sym (no_list t))

pub good_none : (ls : Lists) → ls ≡ no_stores → Good ls
good_none ls none = subst Good (sym none) record { eight = refl; few = λ t. omega (arith, ap length (no_list t)); ranged = λ t. ap stores_in_range (no_list t) }
