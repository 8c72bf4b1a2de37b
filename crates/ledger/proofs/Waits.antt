-- Waiting stores and drained lists: the oldest, the youngest, the last, and what taking one out leaves.
use Rattle.std.proofs.Common.{◌≡◌, ℕ, ◌<◌, Bool, true, false, cond, eqb, ◌⊎◌, List, [], ◌∷◌, ◌++◌, map, is_some, Some, None, Option, sym, refl, ap, ◌∙◌, subst, inl, inr, ⊎_elim, arith}
use Rattle.std.specs.List.{All}
use Rattle.std.proofs.lemmas.List.Elements.{All-nil, All-cons, All-head, All-tail, All-push, All-weaker}
use Rattle.std.proofs.lemmas.Bool.{eqb-true, true≢false}
use Rattle.buffers.specs.Lists.{oldest_to, waits_to}
use Rattle.ledger.specs.Actions.{Name}
use Rattle.ledger.specs.Ledgers.{Entry}
use Rattle.ledger.specs.Moves.{last_of, less_oldest, oldest, or_else, youngest}

-- The oldest entry to a cell is one of the entries, and is to that cell.
pub oldest_of : (P : Entry → Type 0) (c : ℕ) (es : List Entry) (e : Entry) → oldest c es ≡ Some e → All P es → P e × (e.store.cell ≡ c)
oldest_of P c [] e found all = grind arith
oldest_of P c (f ∷ es) e found all = go (eqb f.store.cell c) refl found (λ later. oldest_of P c es e later (All-tail P f es all))
  where
    go : (b : Bool) → eqb f.store.cell c ≡ b → cond b (Some f) (oldest c es) ≡ Some e → (oldest c es ≡ Some e → P e × (e.store.cell ≡ c)) → P e × (e.store.cell ≡ c)
    go true here is later = let f_is : f ≡ e = cc in subst (λ g. P g × (g.store.cell ≡ c)) f_is (All-head P f es all, eqb-true f.store.cell c here)
    go false other is later = later is

-- The youngest too.
pub youngest_of : (P : Entry → Type 0) (c : ℕ) (es : List Entry) (e : Entry) → youngest c es ≡ Some e → All P es → P e × (e.store.cell ≡ c)
youngest_of P c [] e found all = grind arith
youngest_of P c (f ∷ es) e found all = go (youngest c es) refl (eqb f.store.cell c) refl found (λ later. youngest_of P c es e later (All-tail P f es all))
  where
    go : (o : Option Entry) → youngest c es ≡ o → (b : Bool) → eqb f.store.cell c ≡ b → or_else o (cond b (Some f) None) ≡ Some e → (youngest c es ≡ Some e → P e × (e.store.cell ≡ c)) → P e × (e.store.cell ≡ c)
    go (Some g) is b eq found' later = later (is ∙ found')
    go None is true here found' later = let f_is : f ≡ e = cc in subst (λ g. P g × (g.store.cell ≡ c)) f_is (All-head P f es all, eqb-true f.store.cell c here)
    go None is false other found' later = grind arith

-- What holds of every entry holds of those that are left.
pub all_less : (P : Entry → Type 0) (c : ℕ) (es : List Entry) → All P es → All P (less_oldest c es)
all_less P c [] all = All-nil P
all_less P c (e ∷ es) all = go (eqb e.store.cell c) (all_less P c es (All-tail P e es all))
  where
    go : (b : Bool) → All P (less_oldest c es) → All P (cond b es (e ∷ less_oldest c es))
    go true later = All-tail P e es all
    go false later = All-cons P e (less_oldest c es) (All-head P e es all) later

-- positions strictly rise
abbrev pub Rising : List Entry → Type 0
Rising [] = Unit {0}
Rising (e ∷ es) = All (λ f. e.position < f.position) es × Rising es

pub rising_less : (c : ℕ) (es : List Entry) → Rising es → Rising (less_oldest c es)
rising_less c [] up = tt
rising_less c (e ∷ es) up = go (eqb e.store.cell c) (rising_less c es up.1)
  where
    go : (b : Bool) → Rising (less_oldest c es) → Rising (cond b es (e ∷ less_oldest c es))
    go true later = up.1
    go false later = (all_less (λ f. e.position < f.position) c es up.0, later)

pub rising_push : (es : List Entry) (e : Entry) → Rising es → All (λ f. f.position < e.position) es → Rising (es ++ e ∷ [])
rising_push [] e up below = (All-nil (λ f. e.position < f.position), tt)
rising_push (f ∷ es) e up below = (All-push (λ g. f.position < g.position) es e up.0 (All-head (λ g. g.position < e.position) f es below), rising_push es e up.1 (All-tail (λ g. g.position < e.position) f es below))

-- The entry that is taken out is at another position than those that are left.
pub oldest_apart : (c : ℕ) (es : List Entry) (e : Entry) → oldest c es ≡ Some e → Rising es → All (λ f. f.position ≡ e.position → ⊥) (less_oldest c es)
oldest_apart c [] e found up = All-nil (λ f. f.position ≡ e.position → ⊥)
oldest_apart c (f ∷ es) e found up = go (eqb f.store.cell c) found (λ later. oldest_apart c es e later up.1) (λ later. (oldest_of (λ g. f.position < g.position) c es e later up.0).0)
  where
    go : (b : Bool) → cond b (Some f) (oldest c es) ≡ Some e → (oldest c es ≡ Some e → All (λ g. g.position ≡ e.position → ⊥) (less_oldest c es)) → (oldest c es ≡ Some e → f.position < e.position) → All (λ g. g.position ≡ e.position → ⊥) (cond b es (f ∷ less_oldest c es))
    go true is later before =
        let f_is : f ≡ e = cc in
        All-weaker (λ g. f.position < g.position) (λ g. g.position ≡ e.position → ⊥) (λ g above same. let p : f.position ≡ e.position = ap (λ x. x.position) f_is in omega (arith, above, same, p)) es up.0
    go false is later before = All-cons (λ g. g.position ≡ e.position → ⊥) f (less_oldest c es) (λ same. let lt = before is in omega (arith, lt, same)) (later is)

-- an entry stands at that position
abbrev pub AtPosition : ℕ → List Entry → Type 0
AtPosition p [] = ⊥
AtPosition p (e ∷ es) = (e.position ≡ p) ⊎ AtPosition p es

pub at_position_left : (p : ℕ) (es fs : List Entry) → AtPosition p es → AtPosition p (es ++ fs)
at_position_left p [] fs there = absurd there
at_position_left p (e ∷ es) fs there = ⊎_elim (λ here. inl here) (λ later. inr (at_position_left p es fs later)) there

pub at_position_last : (p : ℕ) (es : List Entry) (e : Entry) → e.position ≡ p → AtPosition p (es ++ e ∷ [])
at_position_last p [] e is = inl is
at_position_last p (f ∷ es) e is = inr (at_position_last p es e is)

-- Taking the oldest out leaves every other position.
pub at_position_less : (p c : ℕ) (es : List Entry) (e : Entry) → oldest c es ≡ Some e → AtPosition p es → (p ≡ e.position) ⊎ AtPosition p (less_oldest c es)
at_position_less p c [] e found there = absurd there
at_position_less p c (f ∷ es) e found there = go (eqb f.store.cell c) found there (λ later. at_position_less p c es e later)
  where
    go : (b : Bool) → cond b (Some f) (oldest c es) ≡ Some e → AtPosition p (f ∷ es) → (oldest c es ≡ Some e → AtPosition p es → (p ≡ e.position) ⊎ AtPosition p (less_oldest c es)) → (p ≡ e.position) ⊎ AtPosition p (cond b es (f ∷ less_oldest c es))
    go true is t later = let f_is : f ≡ e = cc in ⊎_elim (λ here. inl (sym here ∙ ap (λ x. x.position) f_is)) (λ rest. inr rest) t
    go false is t later = ⊎_elim (λ here. inr (inl here)) (λ rest. ⊎_elim (λ taken. inl taken) (λ left. inr (inr left)) (later is rest)) t

-- The last of a list to which a name was added.
pub last_push : (names : List Name) (a : Name) → last_of (names ++ a ∷ []) ≡ Some a
last_push [] a = refl
last_push (b ∷ []) a = refl
last_push (b ∷ d ∷ names) a = last_push (d ∷ names) a

-- The last of a list is one of its names.
pub last_all : (P : Name → Type 0) (names : List Name) (a : Name) → last_of names ≡ Some a → All P names → P a
last_all P [] a found all = grind arith
last_all P (b ∷ []) a found all = let b_is : b ≡ a = cc in subst P b_is (All-head P b [] all)
last_all P (b ∷ d ∷ names) a found all = last_all P (d ∷ names) a found (All-tail P b (d ∷ names) all)

-- An entry to a cell is there where a store to it waits.
pub oldest_there : (c : ℕ) (es : List Entry) → waits_to c (map (λ e. e.store) es) ≡ true → (e : Entry) × (oldest c es ≡ Some e)
oldest_there c [] waits = absurd (true≢false (sym waits))
oldest_there c (e ∷ es) waits = go (eqb e.store.cell c) waits (oldest_there c es)
  where
    go : (b : Bool) → is_some (cond b (Some e.store.value) (oldest_to c (map (λ f. f.store) es))) ≡ true → (waits_to c (map (λ f. f.store) es) ≡ true → (f : Entry) × (oldest c es ≡ Some f)) → (f : Entry) × (cond b (Some e) (oldest c es) ≡ Some f)
    go true w later = (e, refl)
    go false w later = later w
