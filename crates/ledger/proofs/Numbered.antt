-- The numbering of a trace's actions: every action has one number, lower actions have lower numbers.
use Rattle.std.proofs.Common.{◌≡◌, ℕ, zero, suc, ◌+◌, ◌<◌, ◌≤◌, List, [], ◌∷◌, ◌++◌, length, get_or, sym, refl, ap, ◌∙◌, subst, inl, inr, ⊎_elim, le_of_suc-le-suc, arith}
use Rattle.std.specs.List.{All, Contains}
use Rattle.std.proofs.lemmas.List.Elements.{All-nil, All-cons, All-head, All-tail, All-append, All-get_or, All-weaker, Contains-append_left, Contains-append_right}
use Rattle.std.proofs.lemmas.List.{get_or_default}
use Rattle.std.proofs.lemmas.Bool.{cases_lt}
use Rattle.ledger.specs.Actions.{Action, Name, name}
use Rattle.ledger.specs.Edges.{Trace}
use Rattle.ledger.specs.Nodes.{node_name, nodes, nodes_of, run_of_names}
use Rattle.ledger.specs.Tests.{threads}
use Rattle.ledger.specs.Verdicts.{Lower}
use Rattle.ledger.proofs.Counts.{a_thread, contains_cases}
use Rattle.ledger.proofs.Growing.{Exists}

-- each comes before all that follow, by thread and then by position
abbrev pub Rising : List Name → Type 0
Rising [] = Unit {0}
Rising (a ∷ names) = All (Lower a) names × Rising names

rising_append : (xs ys : List Name) → Rising xs → Rising ys → All (λ a. All (Lower a) ys) xs → Rising (xs ++ ys)
rising_append [] ys up above apart = above
rising_append (a ∷ xs) ys up above apart = (All-append (Lower a) xs ys up.0 (All-head (λ b. All (Lower b) ys) a xs apart), rising_append xs ys up.1 above (All-tail (λ b. All (Lower b) ys) a xs apart))

-- what is known of a run of names
of_run : (P : Name → Type 0) (t p n : ℕ) → ((q : ℕ) → p ≤ q → q < p + n → P (name t q)) → All P (run_of_names t p n)
of_run P t p zero holds = All-nil P
of_run P t p (suc n) holds = All-cons P (name t p) (run_of_names t (suc p) n) (holds p (omega arith) (omega arith)) (of_run P t (suc p) n (λ q low high. holds q (omega (arith, low)) (omega (arith, high))))

run_rises : (t p n : ℕ) → Rising (run_of_names t p n)
run_rises t p zero = tt
run_rises t p (suc n) = (of_run (Lower (name t p)) t (suc p) n (λ q low high. inr (refl, omega (arith, low))), run_rises t (suc p) n)

in_run : (t p n q : ℕ) → p ≤ q → q < p + n → Contains (run_of_names t p n) (name t q)
in_run t p zero q low high = absurd (omega (arith, low, high))
in_run t p (suc n) q low high =
    ⊎_elim
    (λ more. Contains-append_right (name t p ∷ []) (run_of_names t (suc p) n) (name t q) (in_run t (suc p) n q more (omega (arith, high))))
    (λ first. (0, omega arith, ap (name t) (let is : p ≡ q = omega (arith, low, first) in is)))
    (cases_lt p q)

-- Every action has a number.
pub in_nodes : (acts : ℕ → List Action) (ts : List ℕ) (a : Name) → Contains ts a.thread → Exists acts a → Contains (nodes_of acts ts) a
in_nodes acts [] a among there = absurd (omega (arith, among.1))
in_nodes acts (t ∷ ts) a among there =
    ⊎_elim
    (λ is. Contains-append_left (run_of_names t 0 (length (acts t))) (nodes_of acts ts) a (subst (λ v. Contains (run_of_names v 0 (length (acts v))) a) (sym is) (in_run a.thread 0 (length (acts a.thread)) a.position (omega arith) (omega (arith, there)))))
    (λ later. Contains-append_right (run_of_names t 0 (length (acts t))) (nodes_of acts ts) a (in_nodes acts ts a later there))
    (contains_cases t ts a.thread among)

-- Every number is an action's.
pub nodes_exist : (acts : ℕ → List Action) (ts : List ℕ) → All (Exists acts) (nodes_of acts ts)
nodes_exist acts [] = All-nil (Exists acts)
nodes_exist acts (t ∷ ts) = All-append (Exists acts) (run_of_names t 0 (length (acts t))) (nodes_of acts ts) (of_run (Exists acts) t 0 (length (acts t)) (λ q low high. omega (arith, high))) (nodes_exist acts ts)

-- numbers of threads that rise, from p on
abbrev RisingFrom : ℕ → List ℕ → Type 0
RisingFrom p [] = Unit {0}
RisingFrom p (t ∷ ts) = (p ≤ t) × RisingFrom (suc t) ts

later_threads : (acts : ℕ → List Action) (p : ℕ) (ts : List ℕ) → RisingFrom p ts → All (λ a. p ≤ a.thread) (nodes_of acts ts)
later_threads acts p [] up = All-nil (λ a. p ≤ a.thread)
later_threads acts p (t ∷ ts) up =
    All-append (λ a. p ≤ a.thread) (run_of_names t 0 (length (acts t))) (nodes_of acts ts) (of_run (λ a. p ≤ a.thread) t 0 (length (acts t)) (λ q low high. up.0))
    (All-weaker (λ a. suc t ≤ a.thread) (λ a. p ≤ a.thread) (λ a later. let first = up.0 in omega (arith, first, later)) (nodes_of acts ts) (later_threads acts (suc t) ts up.1))

nodes_rise : (acts : ℕ → List Action) (p : ℕ) (ts : List ℕ) → RisingFrom p ts → Rising (nodes_of acts ts)
nodes_rise acts p [] up = tt
nodes_rise acts p (t ∷ ts) up =
    rising_append (run_of_names t 0 (length (acts t))) (nodes_of acts ts) (run_rises t 0 (length (acts t))) (nodes_rise acts (suc t) ts up.1)
    (of_run (λ a. All (Lower a) (nodes_of acts ts)) t 0 (length (acts t)) (λ q low high. All-weaker (λ a. suc t ≤ a.thread) (Lower (name t q)) (λ a later. inl later) (nodes_of acts ts) (later_threads acts (suc t) ts up.1)))

threads_rise : RisingFrom 0 threads
threads_rise = (omega arith, (omega arith, (omega arith, (omega arith, (omega arith, (omega arith, (omega arith, (omega arith, tt))))))))

-- Lower numbers are lower actions.
rising_at : (names : List Name) (d : Name) → Rising names → (i j : ℕ) → i < j → j < length names → Lower (get_or names i d) (get_or names j d)
rising_at [] d up i j lt within = absurd (omega (arith, within))
rising_at (a ∷ names) d up zero zero lt within = absurd (omega (arith, lt))
rising_at (a ∷ names) d up zero (suc j) lt within = All-get_or (Lower a) names j d (le_of_suc-le-suc within) up.0
rising_at (a ∷ names) d up (suc i) zero lt within = absurd (omega (arith, lt))
rising_at (a ∷ names) d up (suc i) (suc j) lt within = rising_at names d up.1 i j (le_of_suc-le-suc lt) (le_of_suc-le-suc within)

pub node_lower : (x : Trace) (i j : ℕ) → i < j → j < length (nodes x) → Lower (node_name x i) (node_name x j)
node_lower x i j lt within = rising_at (nodes x) (name 8 0) (nodes_rise x.actions 0 threads threads_rise) i j lt within

-- No action is lower than itself, and of two only one is lower.
pub lower_self : (a b : Name) → a ≡ b → Lower a b → ⊥
lower_self a b is low = grind arith

pub lower_both : (a b : Name) → Lower a b → Lower b a → ⊥
lower_both a b one other = grind arith

-- Two numbers of one action are one.
pub one_number : (x : Trace) (i j : ℕ) → i < length (nodes x) → j < length (nodes x) → node_name x i ≡ node_name x j → i ≡ j
one_number x i j i_in j_in is =
    ⊎_elim
    (λ lt. absurd (lower_self (node_name x i) (node_name x j) is (node_lower x i j lt j_in)))
    (λ ge. ⊎_elim (λ gt. absurd (lower_self (node_name x j) (node_name x i) (sym is) (node_lower x j i gt i_in))) (λ le. omega (arith, ge, le)) (cases_lt j i))
    (cases_lt i j)

pub number_of : (x : Trace) (a : Name) → a.thread < 8 → Exists x.actions a → (k : ℕ) × (k < length (nodes x)) × (node_name x k ≡ a)
number_of x a in_range there = let r = in_nodes x.actions threads a (a_thread a.thread in_range) there in (r.0, r.1, get_or_default (nodes x) r.0 (name 8 0) a r.1 ∙ r.2)

pub node_exists : (x : Trace) (k : ℕ) → k < length (nodes x) → Exists x.actions (node_name x k)
node_exists x k within = All-get_or (Exists x.actions) (nodes x) k (name 8 0) within (nodes_exist x.actions threads)
