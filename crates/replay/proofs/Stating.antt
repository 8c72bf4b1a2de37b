-- The views of a State: what they tell of one thread, and what they become where a thread or a cell is changed.
use Rattle.std.proofs.Common.{◌≡◌, ℕ, zero, suc, ◌+◌, ◌<◌, ◌≤◌, Bool, List, [], ◌∷◌, ◌++◌, map, length, get_or, set, replicate, None, vec_items, vec_len, sym, refl, ap, ◌∙◌, suc-le-suc, arith}
use mathlib.Core.Path.{fun_ext}
use Rattle.std.specs.List.{sum_by}
use Rattle.std.proofs.lemmas.List.Sums.{sum_by-set, sum_by_from}
use Rattle.std.proofs.lemmas.List.{get_or-map, get_or-set_other, get_or-set_same, length-map, length_push, map-set, set-get_or}
use Rattle.program.specs.declared.lines.Line.{Line}
use Rattle.ledger.specs.Ledgers.{Local, start_local, update}
use Rattle.ledger.specs.Moves.{Read, ran}
use Rattle.ledger.specs.Tests.{sum_over, threads}
use Rattle.ledger.proofs.Growing.{update_all}
use Rattle.present.specs.Data.{Noted, Present, fresh, how_many_in, untouched}
use Rattle.replay.specs.Views.{has_bit, local_of, noted_in, noted_of, present_of, read_of}
use Rattle.replay.specs.declared.actions.Action.{Action}
use Rattle.replay.specs.declared.actions.Cell.{Cell}
use Rattle.replay.specs.declared.state.State.{State}
use Rattle.replay.specs.declared.thread.Thread.{Thread}
use Rattle.replay.proofs.Bits.{no_bit}

-- Data with the same parts are the same.
pub present_same : {l l' : ℕ → Local} {m m' : ℕ → Read} {n n' : ℕ → List Noted} {d d' : ℕ → Bool} → l ≡ l' → m ≡ m' → n ≡ n' → d ≡ d' → ◌≡◌ {A = Present} (record { locals = l; memory = m; noted = n; delayed = d }) (record { locals = l'; memory = m'; noted = n'; delayed = d' })
present_same p q r s = λ i. record { locals = p i; memory = q i; noted = r i; delayed = s i }

module _ {X Y : Type 0} (f : X → Y) (xs : List X) (t : ℕ) where
  -- What is told of the element at t stands at t among what is told of each.
  pub viewed : (x : X) (d : Y) → t < length xs → x ≡ get_or xs t x → f x ≡ get_or (map f xs) t d
  viewed x d within is = ap f is ∙ sym (get_or-map f xs t x d within)

  -- An element changed: what is told of each is updated there.
  pub changed : (y : X) (z d : Y) → t < length xs → f y ≡ z → (λ u. get_or (map f (set xs t y)) u d) ≡ update (λ u. get_or (map f xs) u d) t z
  changed y z d within told =
      fun_ext
      (update_all (λ u. get_or (map f xs) u d) t z (λ u v. get_or (map f (set xs t y)) u d ≡ v)
      (ap (λ ys. get_or ys t d) (map-set f xs t y) ∙ get_or-set_same (map f xs) t (f y) d (omega (arith, length-map xs f)) ∙ told)
      (λ u apart. ap (λ ys. get_or ys u d) (map-set f xs t y) ∙ get_or-set_other (map f xs) t u (f y) d apart))

  -- An element changed of which the same is told: so it is of all.
  pub unchanged : (y : X) (d : Y) → f y ≡ get_or (map f xs) t d → ◌≡◌ {A = ℕ → Y} (λ u. get_or (map f (set xs t y)) u d) (λ u. get_or (map f xs) u d)
  unchanged y d same = ap (λ ys u. get_or ys u d) (map-set f xs t y ∙ ap (set (map f xs) t) same ∙ set-get_or (map f xs) t d)

-- What is told of a thread stands at its number in the view of all.
pub thread_viewed : {Y : Type 0} (f : Thread → Y) (s : State) (t : ℕ) (x : Thread) (d : Y) → t < length s.threads → x ≡ get_or s.threads t x → f x ≡ get_or (map f s.threads) t d
thread_viewed f s t x d within is = viewed f s.threads t x d within is

module _ (s : State) (t : ℕ) (before after : Thread) (action : Action) (within : t < length s.threads) (is : before ≡ get_or s.threads t before) where
  -- A thread moved on: the view of where each stands.
  pub local_ran : (line : Line) → local_of after ≡ ran line action.value (local_of before) → (λ u. get_or (map local_of (set s.threads t after)) u start_local) ≡ update (present_of s).locals t (ran line action.value ((present_of s).locals t))
  local_ran line moved =
      changed local_of s.threads t after (ran line action.value ((present_of s).locals t)) start_local within (moved ∙ ap (ran line action.value) (thread_viewed local_of s t before start_local within is))

  -- A thread has an action more: the view of the actions of each.
  pub noted_more : noted_in after ≡ noted_in before ++ noted_of action ∷ [] → (λ u. get_or (map noted_in (set s.threads t after)) u []) ≡ update (present_of s).noted t ((present_of s).noted t ++ noted_of action ∷ [])
  noted_more kept =
      changed noted_in s.threads t after ((present_of s).noted t ++ noted_of action ∷ []) [] within (kept ∙ ap (λ xs. xs ++ noted_of action ∷ []) (thread_viewed noted_in s t before [] within is))

-- At each place of a list of nothing but d, and past its end, stands d.
getD_same : {Y : Type 0} (n : ℕ) (d : Y) (u : ℕ) → get_or (replicate n d) u d ≡ d
getD_same zero d u = refl
getD_same (suc n) d zero = refl
getD_same (suc n) d (suc u) = getD_same n d u

-- A list of nothing but what stands past its end says that everywhere.
same_everywhere : {Y : Type 0} (ys : List Y) (n : ℕ) (d : Y) → ys ≡ replicate n d → ◌≡◌ {A = ℕ → Y} (λ u. get_or ys u d) (λ u. d)
same_everywhere ys n d all = fun_ext (λ u. ap (λ l. get_or l u d) all ∙ getD_same n d u)

-- a cell at the start
abbrev pub blank : Cell
blank = record { value = 0; last = None }

-- a thread at its start
pub record AtStart (own : Thread) : Type 0 where
  pub local : local_of own ≡ start_local
  pub noted : noted_in own ≡ []

-- Of each element the same is told.
all_told : {X Y : Type 0} (f : X → Y) (d : Y) (xs : List X) → ((i : ℕ) (e : X) → i < length xs → f (get_or xs i e) ≡ d) → map f xs ≡ replicate (length xs) d
all_told f d [] each = refl
all_told f d (x ∷ xs) each =
    ap (λ y. y ∷ map f xs) (each 0 x (omega arith))
    ∙ ap (λ ys. d ∷ ys) (all_told f d xs (λ i e within. each (suc i) e (suc-le-suc within)))

-- Threads at their start, untouched cells and an empty mask are the data at the start.
pub fresh_from : (ts : List Thread) → ((i : ℕ) (e : Thread) → i < length ts → AtStart (get_or ts i e)) → ◌≡◌ {A = Present} (record { locals = λ t. get_or (map local_of ts) t start_local; memory = λ c. get_or (map read_of (replicate 16 blank)) c untouched; noted = λ t. get_or (map noted_in ts) t []; delayed = λ t. has_bit t 0 }) fresh
fresh_from ts each =
    present_same
    (same_everywhere (map local_of ts) (length ts) start_local (all_told local_of start_local ts (λ i e within. (each i e within).local)))
    (same_everywhere (map read_of (replicate 16 blank)) 16 untouched refl)
    (same_everywhere (map noted_in ts) (length ts) [] (all_told noted_in [] ts (λ i e within. (each i e within).noted)))
    (fun_ext no_bit)

-- how many actions a thread has room taken for
abbrev pub kept : Thread → ℕ
kept own = vec_len own.actions

-- They are as many as are told of.
pub kept_noted : (own : Thread) → kept own ≡ length (noted_in own)
kept_noted own = own.actions.ok.0 ∙ sym (length-map (vec_items own.actions) noted_of)

-- What is summed over eight threads is the sum of what is told of each.
pub over_eight : {Y : Type 0} (f : Thread → Y) (d : Y) (g : Y → ℕ) (ts : List Thread) → length ts ≡ 8 → sum_over (λ t. g (get_or (map f ts) t d)) threads ≡ sum_by (λ own. g (f own)) ts
over_eight f d g (a ∷ b ∷ c ∷ p ∷ q ∷ r ∷ s ∷ t ∷ []) eight = omega arith
over_eight f d g [] eight = absurd (omega (arith, eight))
over_eight f d g (a ∷ []) eight = absurd (omega (arith, eight))
over_eight f d g (a ∷ b ∷ []) eight = absurd (omega (arith, eight))
over_eight f d g (a ∷ b ∷ c ∷ []) eight = absurd (omega (arith, eight))
over_eight f d g (a ∷ b ∷ c ∷ p ∷ []) eight = absurd (omega (arith, eight))
over_eight f d g (a ∷ b ∷ c ∷ p ∷ q ∷ []) eight = absurd (omega (arith, eight))
over_eight f d g (a ∷ b ∷ c ∷ p ∷ q ∷ r ∷ []) eight = absurd (omega (arith, eight))
over_eight f d g (a ∷ b ∷ c ∷ p ∷ q ∷ r ∷ s ∷ []) eight = absurd (omega (arith, eight))
over_eight f d g (a ∷ b ∷ c ∷ p ∷ q ∷ r ∷ s ∷ t ∷ u ∷ rest) eight = absurd (omega (arith, eight))

-- The number of all actions is the sum of what is kept of each thread.
pub how_many_kept : (s : State) → length s.threads ≡ 8 → how_many_in (present_of s) ≡ sum_by kept s.threads
how_many_kept s eight = over_eight noted_in [] length s.threads eight ∙ ap (λ f. sum_by f s.threads) (fun_ext (λ own. sym (kept_noted own)))

-- Where one thread has an action more, and there were fewer than 256, there are at most 256.
pub few_more : (s : State) (t : ℕ) (d after : Thread) (x : Noted) → length s.threads ≡ 8 → t < 8 → noted_in after ≡ noted_in (get_or s.threads t d) ++ x ∷ [] → how_many_in (present_of s) < 256 → sum_by kept (set s.threads t after) ≤ 256
few_more s t d after x eight below more room =
    let before = get_or s.threads t d in
    let changed = sum_by-set kept s.threads t after d (omega (arith, eight, below)) in
    let one = ap length more ∙ length_push (noted_in before) x in
    omega (arith, changed, one, kept_noted before, kept_noted after, how_many_kept s eight, room)

-- Threads at their start have no action.
pub none_kept : (ts : List Thread) → length ts ≡ 8 → ((i : ℕ) (e : Thread) → i < length ts → AtStart (get_or ts i e)) → sum_by kept ts ≤ 256
none_kept ts eight each =
    let none = same_everywhere (map noted_in ts) (length ts) [] (all_told noted_in [] ts (λ i e within. (each i e within).noted)) in
    let summed : sum_by kept ts ≡ 0 =
    ap (λ f. sum_by f ts) (fun_ext kept_noted) ∙ sym (over_eight noted_in [] length ts eight) ∙ ap (λ f. sum_over (λ t. length (f t)) threads) none in
    omega (arith, summed)

-- A thread that has an action is there.
pub has_there : (ts : List Thread) (t p : ℕ) → p < length (get_or (map noted_in ts) t []) → t < length ts
has_there [] t p there = absurd (omega (arith, there))
has_there (x ∷ ts) zero p there = omega arith
has_there (x ∷ ts) (suc t) p there = suc-le-suc (has_there ts t p there)

-- What is summed over the threads is no more than the sum of what is told of each, where nothing is told of a thread that is not there.
within_sum : (g : Thread → List Noted) (ts : List Thread) → sum_over (λ t. length (get_or (map g ts) t [])) threads ≤ sum_by (λ own. length (g own)) ts
within_sum g [] = omega arith
within_sum g (a ∷ []) = omega arith
within_sum g (a ∷ b ∷ []) = omega arith
within_sum g (a ∷ b ∷ c ∷ []) = omega arith
within_sum g (a ∷ b ∷ c ∷ p ∷ []) = omega arith
within_sum g (a ∷ b ∷ c ∷ p ∷ q ∷ []) = omega arith
within_sum g (a ∷ b ∷ c ∷ p ∷ q ∷ r ∷ []) = omega arith
within_sum g (a ∷ b ∷ c ∷ p ∷ q ∷ r ∷ s ∷ []) = omega arith
within_sum g (a ∷ b ∷ c ∷ p ∷ q ∷ r ∷ s ∷ t ∷ rest) = omega (arith, sum_by_from (λ own. length (g own)) (0 + length (g a) + length (g b) + length (g c) + length (g p) + length (g q) + length (g r) + length (g s) + length (g t)) rest)

-- There are at most 256 actions.
pub few_in : (s : State) → how_many_in (present_of s) ≤ 256
few_in s =
    let same : sum_by kept s.threads ≡ sum_by (λ own. length (noted_in own)) s.threads = ap (λ f. sum_by f s.threads) (fun_ext kept_noted) in
    omega (arith, within_sum noted_in s.threads, same, s.few)
