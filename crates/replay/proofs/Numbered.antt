-- The names that have a number: how they grow by one name and by one thread, and how many they are.
use Rattle.std.proofs.Common.{◌≡◌, ℕ, zero, suc, ◌+◌, ◌<◌, ◌≤◌, List, [], ◌∷◌, ◌++◌, map, length, get_or, take, drop, set, sym, refl, ap, ◌∙◌, append_assoc, append-nil, le_of_suc-le-suc, arith}
use mathlib.Core.Path.{fun_ext}
use Rattle.std.proofs.lemmas.List.{drop_more, length-append, length-map, length-take-le, map_more, set_at, take_more}
use Rattle.ledger.specs.Actions.{Action, Name as Name', name}
use Rattle.ledger.specs.Nodes.{nodes_of, run_of_names}
use Rattle.ledger.specs.Tests.{sum_over, threads}
use Rattle.present.specs.Data.{Present, actions_in, how_many_in}
use Rattle.present.specs.Joins.{nodes_in}
use Rattle.replay.specs.Names.{name_of}
use Rattle.replay.specs.declared.names.Name.{Name}

-- A run of names that is one longer has one name more at its end.
pub run_more : (t p n : ℕ) → run_of_names t p (suc n) ≡ run_of_names t p n ++ name t (p + n) ∷ []
run_more t p zero = let e : p ≡ p + 0 = omega arith in ap (λ q. name t q ∷ []) e
run_more t p (suc n) =
    let e : suc p + n ≡ p + suc n = omega arith in
    ap (λ l. name t p ∷ l) (run_more t (suc p) n ∙ ap (λ q. run_of_names t (suc p) n ++ name t q ∷ []) e)

-- A run of names is as long as it says.
pub run_length : (t p n : ℕ) → length (run_of_names t p n) ≡ n
run_length t p zero = refl
run_length t p (suc n) = ap suc (run_length t (suc p) n)

-- Behind a run of a thread's names its next name comes.
pub run_goes_on : (before now after : List Name') (t p : ℕ) → now ≡ before ++ run_of_names t 0 p → after ≡ now ++ name t p ∷ [] → after ≡ before ++ run_of_names t 0 (p + 1)
run_goes_on before now after t p so_far more =
    let e : suc p ≡ p + 1 = omega arith in
    let z : p ≡ 0 + p = omega arith in
    more
    ∙ ap (λ l. l ++ name t p ∷ []) so_far
    ∙ append_assoc before (run_of_names t 0 p) (name t p ∷ [])
    ∙ ap (λ l. before ++ l) (ap (λ q. run_of_names t 0 p ++ name t q ∷ []) z ∙ sym (run_more t 0 p) ∙ ap (run_of_names t 0) e)

-- How many names there are in the course of a run.
pub run_counted : (before : List Name') (names : List Name) (t p : ℕ) → map name_of names ≡ before ++ run_of_names t 0 p → length names ≡ length before + p
run_counted before names t p so_far =
    let long = sym (length-map names name_of) ∙ ap length so_far ∙ length-append before (run_of_names t 0 p) in
    omega (arith, long, run_length t 0 p)

-- A list in the course of being written by a function of numbers, one more of them written.
pub write_more : {X : Type 0} (f : ℕ → X) (numbers : List ℕ) (before now : List X) (i : ℕ) → i < length numbers → length numbers ≤ length before → now ≡ map f (take i numbers) ++ drop i before → set now i (f (get_or numbers i 0)) ≡ map f (take (i + 1) numbers) ++ drop (i + 1) before
write_more f numbers before now i within room so_far =
    let y = f (get_or numbers i 0) in
    let there : i < length before = omega (arith, within, room) in
    let fits : i ≤ length numbers = omega (arith, within) in
    let front : length (map f (take i numbers)) ≡ i = length-map (take i numbers) f ∙ length-take-le i numbers fits in
    ap (λ l. set l i y) (so_far ∙ ap (λ l. map f (take i numbers) ++ l) (drop_more before i y there))
    ∙ set_at (map f (take i numbers)) (get_or before i y) (drop (i + 1) before) y i front
    ∙ sym (append_assoc (map f (take i numbers)) (y ∷ []) (drop (i + 1) before))
    ∙ ap (λ l. l ++ drop (i + 1) before) (sym (map_more f numbers i 0 within))

-- The nodes of two lists of threads one after the other.
nodes_append : (acts : ℕ → List Action) (ts us : List ℕ) → nodes_of acts (ts ++ us) ≡ nodes_of acts ts ++ nodes_of acts us
nodes_append acts [] us = refl
nodes_append acts (t ∷ ts) us =
    ap (λ l. run_of_names t 0 (length (acts t)) ++ l) (nodes_append acts ts us)
    ∙ sym (append_assoc (run_of_names t 0 (length (acts t))) (nodes_of acts ts) (nodes_of acts us))

-- At each place of the list of threads stands the thread of that number.
thread_at : (t : ℕ) → t < 8 → get_or threads t 0 ≡ t
thread_at zero lt = refl
thread_at (suc zero) lt = refl
thread_at (suc (suc zero)) lt = refl
thread_at (suc (suc (suc zero))) lt = refl
thread_at (suc (suc (suc (suc zero)))) lt = refl
thread_at (suc (suc (suc (suc (suc zero))))) lt = refl
thread_at (suc (suc (suc (suc (suc (suc zero)))))) lt = refl
thread_at (suc (suc (suc (suc (suc (suc (suc zero))))))) lt = refl
thread_at (suc (suc (suc (suc (suc (suc (suc (suc t)))))))) lt = absurd (omega (arith, lt))

-- The nodes of one thread more are those of the threads before it, and then its own.
pub nodes_more : (acts : ℕ → List Action) (t : ℕ) → t < 8 → nodes_of acts (take (t + 1) threads) ≡ nodes_of acts (take t threads) ++ run_of_names t 0 (length (acts t))
nodes_more acts t lt =
    ap (nodes_of acts) (take_more threads t 0 lt ∙ ap (λ u. take t threads ++ u ∷ []) (thread_at t lt))
    ∙ nodes_append acts (take t threads) (t ∷ [])
    ∙ ap (λ l. nodes_of acts (take t threads) ++ l) (append-nil (run_of_names t 0 (length (acts t))))

-- There are as many nodes as the threads have actions.
nodes_length : (acts : ℕ → List Action) (ts : List ℕ) → length (nodes_of acts ts) ≡ sum_over (λ t. length (acts t)) ts
nodes_length acts [] = refl
nodes_length acts (t ∷ ts) =
    let own = run_length t 0 (length (acts t)) in
    let rest = nodes_length acts ts in
    length-append (run_of_names t 0 (length (acts t))) (nodes_of acts ts) ∙ ap (λ k. k + length (nodes_of acts ts)) own ∙ ap (λ k. length (acts t) + k) rest

-- A sum up to a place, and what stands there, is no more than the whole sum.
sum_part : (f : ℕ → ℕ) (ts : List ℕ) (i : ℕ) → i < length ts → sum_over f (take i ts) + f (get_or ts i 0) ≤ sum_over f ts
sum_part f [] i within = absurd (omega (arith, within))
sum_part f (t ∷ ts) zero within = omega arith
sum_part f (t ∷ ts) (suc i) within =
    let rest : sum_over f (take i ts) + f (get_or ts i 0) ≤ sum_over f ts = sum_part f ts i (le_of_suc-le-suc within) in
    omega (arith, rest)

-- The lengths of the actions are those of what is kept of them.
kept_lengths : (p : Present) → sum_over (λ t. length (actions_in p t)) threads ≡ how_many_in p
kept_lengths p = ap (λ f. sum_over f threads) (fun_ext (λ t. length-map (p.noted t) (λ x. x.action)))

-- There are as many nodes as actions.
pub nodes_many : (p : Present) → length (nodes_in p) ≡ how_many_in p
nodes_many p = nodes_length (actions_in p) threads ∙ kept_lengths p

-- The nodes of the threads before one, and its actions, are no more than all actions.
pub nodes_bound : (p : Present) (t : ℕ) → t < 8 → length (nodes_of (actions_in p) (take t threads)) + length (p.noted t) ≤ how_many_in p
nodes_bound p t lt =
    let acts = actions_in p in
    let part = sum_part (λ u. length (acts u)) threads t lt in
    let own : length (acts (get_or threads t 0)) ≡ length (p.noted t) = ap (λ u. length (acts u)) (thread_at t lt) ∙ length-map (p.noted t) (λ x. x.action) in
    omega (arith, part, own, nodes_length acts (take t threads), kept_lengths p)
