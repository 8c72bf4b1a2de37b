-- The attack pairs of dekker, as it stands and with a fence in thread 0.
use Rattle.std.proofs.Common.{◌≡◌, ℕ, zero, suc, true, eqb, ◌⊎◌, List, [], ◌∷◌, Some, None, Option, sym, refl, ◌∙◌, subst, inl, inr, ⊎_elim, arith}
use Rattle.std.specs.List.{slice_get, Contains}
use Rattle.std.proofs.lemmas.List.Elements.{All-from_recursion, All-nil}
use Rattle.std.proofs.lemmas.Bool.{and_parts, eqb-true, true≢false}
use Rattle.program.specs.declared.lines.Line.{Line}
use Rattle.ledger.specs.Worked.{dekker}
use Rattle.attacks.specs.declared.pair.Pair.{Pair}
use Rattle.attacks.specs.Attacks.{Attack, AttackPairs, Before, Path, behind, follows, has, is_fence, is_load, is_store, step, through}
use Rattle.attacks.specs.Tables.{pair}
use Rattle.worked.specs.Table.{dekker_fenced}

-- the thread of a line, if there is one
abbrev thread_of : Option Line → ℕ
thread_of None = 0
thread_of (Some l) = l.thread

-- A line and one behind it are of one thread.
one_thread : (x y : Option Line) → behind x y ≡ true → thread_of x ≡ thread_of y
one_thread None y so = absurd (true≢false (sym so))
one_thread (Some x) None so = absurd (true≢false (sym so))
one_thread (Some x) (Some y) so = eqb-true x.thread y.thread (and_parts (eqb x.thread y.thread) (eqb x.next y.label) so).0

-- So are the two ends of a path.
kept_thread : (ls : List Line) {m n : ℕ} → Path ls m n → thread_of (slice_get ls m) ≡ thread_of (slice_get ls n)
kept_thread ls (step {m} {n} so) = one_thread (slice_get ls m) (slice_get ls n) so
kept_thread ls (through {m} {k} {n} path clear so) = kept_thread ls path ∙ one_thread (slice_get ls k) (slice_get ls n) so

-- A pair of these two numbers is that pair.
is_pair : (p : Pair) (s l : ℕ) → p.store ≡ s → p.load ≡ l → pair s l ≡ p
is_pair p s l is_s is_l = let is : pair s l ≡ pair p.store p.load = cc in is

-- No path leads from a line to one of another thread.
apart : (ls : List Line) (m n : ℕ) {s l : ℕ} → (thread_of (slice_get ls m) ≡ thread_of (slice_get ls n) → ⊥) → s ≡ m → l ≡ n → Path ls s l → ⊥
apart ls m n {s} {l} differ is_s is_l path = differ (subst (λ k. thread_of (slice_get ls m) ≡ thread_of (slice_get ls k)) is_l (subst (λ k. thread_of (slice_get ls k) ≡ thread_of (slice_get ls l)) is_s (kept_thread ls path)))

-- The stores of dekker are the lines 0 and 2.
dekker_store : (s : ℕ) → has is_store dekker s ≡ true → (s ≡ 0) ⊎ (s ≡ 2)
dekker_store zero so = inl refl
dekker_store (suc zero) so = absurd (true≢false (sym so))
dekker_store (suc (suc zero)) so = inr refl
dekker_store (suc (suc (suc zero))) so = absurd (true≢false (sym so))
dekker_store (suc (suc (suc (suc n)))) so = absurd (true≢false (sym so))

-- Its loads are the lines 1 and 3.
dekker_load : (l : ℕ) → has is_load dekker l ≡ true → (l ≡ 1) ⊎ (l ≡ 3)
dekker_load zero so = absurd (true≢false (sym so))
dekker_load (suc zero) so = inl refl
dekker_load (suc (suc zero)) so = absurd (true≢false (sym so))
dekker_load (suc (suc (suc zero))) so = inr refl
dekker_load (suc (suc (suc (suc n)))) so = absurd (true≢false (sym so))

-- Of a store and a load, those of different threads are no attack pair.
dekker_all : (p : Pair) → Attack dekker p.store p.load → Contains (pair 0 1 ∷ pair 2 3 ∷ []) p
dekker_all p attack =
    ⊎_elim
    (λ s0. ⊎_elim (λ l1. (0, omega arith, is_pair p 0 1 s0 l1)) (λ l3. absurd (apart dekker 0 3 (λ e. omega (arith, e)) s0 l3 attack.path)) (dekker_load p.load attack.load))
    (λ s2. ⊎_elim (λ l1. absurd (apart dekker 2 1 (λ e. omega (arith, e)) s2 l1 attack.path)) (λ l3. (1, omega arith, is_pair p 2 3 s2 l3)) (dekker_load p.load attack.load))
    (dekker_store p.store attack.store)

-- In dekker each thread's load directly follows its store.
pub of_dekker : AttackPairs dekker (pair 0 1 ∷ pair 2 3 ∷ [])
of_dekker = record {
  sound = All-from_recursion (λ p. Attack dekker p.store p.load) (pair 0 1 ∷ pair 2 3 ∷ []) (record { store = refl; load = refl; path = step refl }, (record { store = refl; load = refl; path = step refl }, tt));
  complete = dekker_all;
  ascending = (All-from_recursion (Before (pair 0 1)) (pair 2 3 ∷ []) (inl (omega arith), tt), (All-nil (Before (pair 2 3)), tt));
}

-- With the fence, the stores are the lines 0 and 3.
fenced_store : (s : ℕ) → has is_store dekker_fenced s ≡ true → (s ≡ 0) ⊎ (s ≡ 3)
fenced_store zero so = inl refl
fenced_store (suc zero) so = absurd (true≢false (sym so))
fenced_store (suc (suc zero)) so = absurd (true≢false (sym so))
fenced_store (suc (suc (suc zero))) so = inr refl
fenced_store (suc (suc (suc (suc zero)))) so = absurd (true≢false (sym so))
fenced_store (suc (suc (suc (suc (suc n))))) so = absurd (true≢false (sym so))

-- The loads are the lines 2 and 4.
fenced_load : (l : ℕ) → has is_load dekker_fenced l ≡ true → (l ≡ 2) ⊎ (l ≡ 4)
fenced_load zero so = absurd (true≢false (sym so))
fenced_load (suc zero) so = absurd (true≢false (sym so))
fenced_load (suc (suc zero)) so = inl refl
fenced_load (suc (suc (suc zero))) so = absurd (true≢false (sym so))
fenced_load (suc (suc (suc (suc zero)))) so = inr refl
fenced_load (suc (suc (suc (suc (suc n))))) so = absurd (true≢false (sym so))

-- The load of thread 0 follows only the fence.
behind_fence : (k : ℕ) → follows dekker_fenced k 2 ≡ true → has is_fence dekker_fenced k ≡ true
behind_fence zero so = absurd (true≢false (sym so))
behind_fence (suc zero) so = refl
behind_fence (suc (suc zero)) so = absurd (true≢false (sym so))
behind_fence (suc (suc (suc zero))) so = absurd (true≢false (sym so))
behind_fence (suc (suc (suc (suc zero)))) so = absurd (true≢false (sym so))
behind_fence (suc (suc (suc (suc (suc n))))) so = absurd (true≢false (sym so))

-- So no path leads to it from the store before the fence.
fenced_off : {s l : ℕ} → s ≡ 0 → l ≡ 2 → Path dekker_fenced s l → ⊥
fenced_off is_s is_l (step {m} {n} so) = true≢false (sym (subst (λ k. follows dekker_fenced k 2 ≡ true) is_s (subst (λ k. follows dekker_fenced m k ≡ true) is_l so)))
fenced_off is_s is_l (through {m} {k} {n} path clear so) = true≢false (sym (behind_fence k (subst (λ j. follows dekker_fenced k j ≡ true) is_l so)) ∙ clear)

-- That leaves thread 1's store and load.
fenced_all : (p : Pair) → Attack dekker_fenced p.store p.load → Contains (pair 3 4 ∷ []) p
fenced_all p attack =
    ⊎_elim
    (λ s0. ⊎_elim (λ l2. absurd (fenced_off s0 l2 attack.path)) (λ l4. absurd (apart dekker_fenced 0 4 (λ e. omega (arith, e)) s0 l4 attack.path)) (fenced_load p.load attack.load))
    (λ s3. ⊎_elim (λ l2. absurd (apart dekker_fenced 3 2 (λ e. omega (arith, e)) s3 l2 attack.path)) (λ l4. (0, omega arith, is_pair p 3 4 s3 l4)) (fenced_load p.load attack.load))
    (fenced_store p.store attack.store)

-- Thread 1's load directly follows its store, as before.
pub of_fenced : AttackPairs dekker_fenced (pair 3 4 ∷ [])
of_fenced = record {
  sound = All-from_recursion (λ p. Attack dekker_fenced p.store p.load) (pair 3 4 ∷ []) (record { store = refl; load = refl; path = step refl }, tt);
  complete = fenced_all;
  ascending = (All-nil (Before (pair 3 4)), tt);
}
