-- Which store a free drain takes, and that strong cells with nothing chosen change nothing.
use Rattle.std.proofs.Common.{◌≡◌, ℕ, Bool, true, false, cond, not, ◌&&◌, eqb, List, [], ◌∷◌, ◌++◌, get_or, replicate, is_some, Some, sym, refl, ap, ◌∙◌}
use Rattle.std.specs.Option.{ok_or}
use Rattle.std.proofs.Math.Bool.{and-true}
use Rattle.std.proofs.lemmas.Bool.{eqb-true, or_from, true≢false}
use Rattle.refusal.specs.declared.Refusal.TheVariants.{DrainNotFree}
use Rattle.buffers.specs.Kinds.{has_chosen, oldest_is_to}
use Rattle.buffers.specs.Lists.{Lists, list_of, oldest_to, waits_to, without_oldest}
use Rattle.buffers.specs.Theorems.{NothingChosen, OldestTaken, OnlyOldestLeaves, TakesOldest}
use Rattle.buffers.specs.declared.store.Store.{Store}
use Rattle.buffers.proofs.Rows.{at_replicate}

-- The oldest store to the cell c among the stores ss: where it stands, and what is left without it.
record Oldest (c : ℕ) (ss : List Store) : Type 0 where
  before : List Store
  oldest : Store
  after : List Store
  waiting : ss ≡ before ++ oldest ∷ after
  to_cell : oldest.cell ≡ c
  none_older : waits_to c before ≡ false
  value : oldest_to c ss ≡ Some oldest.value
  left : without_oldest c ss ≡ before ++ after

-- The first store, if it is to c.
abbrev oldest_first : (c : ℕ) (s : Store) (ss : List Store) → eqb s.cell c ≡ true → Oldest c (s ∷ ss)
oldest_first c s ss here = record {
  before = [];
  oldest = s;
  after = ss;
  waiting = refl;
  to_cell = eqb-true s.cell c here;
  none_older = refl;
  value = ap (λ b. cond b (Some s.value) (oldest_to c ss)) here;
  left = ap (λ b. cond b ss (s ∷ without_oldest c ss)) here;
}

-- Behind a store to another cell it is the oldest of the others.
oldest_behind : (c : ℕ) (s : Store) (ss : List Store) → eqb s.cell c ≡ false → Oldest c ss → Oldest c (s ∷ ss)
oldest_behind c s ss other o = record {
  before = s ∷ o.before;
  oldest = o.oldest;
  after = o.after;
  waiting = ap (λ l. s ∷ l) o.waiting;
  to_cell = o.to_cell;
  none_older = ap (λ b. is_some (cond b (Some s.value) (oldest_to c o.before))) other ∙ o.none_older;
  value = ap (λ b. cond b (Some s.value) (oldest_to c ss)) other ∙ o.value;
  left = ap (λ b. cond b ss (s ∷ without_oldest c ss)) other ∙ ap (λ l. s ∷ l) o.left;
}

-- Where a store to c waits, there is an oldest.
oldest_of : (c : ℕ) (ss : List Store) → waits_to c ss ≡ true → Oldest c ss
oldest_of c [] waits = absurd (true≢false (sym waits))
oldest_of c (s ∷ ss) waits = go (eqb s.cell c) refl waits (oldest_of c ss)
  where
    go : (b : Bool) → eqb s.cell c ≡ b → is_some (cond b (Some s.value) (oldest_to c ss)) ≡ true → (waits_to c ss ≡ true → Oldest c ss) → Oldest c (s ∷ ss)
    go true here w later = oldest_first c s ss here
    go false other w later = oldest_behind c s ss other (later w)

-- Where the oldest store of all is to c, nothing stands before it.
oldest_of_all : (c : ℕ) (ss : List Store) → oldest_is_to c ss ≡ true → (o : Oldest c ss) × (o.before ≡ [])
oldest_of_all c [] first = absurd (true≢false (sym first))
oldest_of_all c (s ∷ ss) first = (oldest_first c s ss first, refl)

-- A take of the oldest store to c answers its value and leaves the others.
abbrev taken_from : (ls : Lists) (t c : ℕ) → Oldest c (list_of ls t) → OldestTaken ls t c
taken_from ls t c o = record {
  before = o.before;
  oldest = o.oldest;
  after = o.after;
  waiting = o.waiting;
  to_cell = o.to_cell;
  none_older = o.none_older;
  value = ap (λ found. ok_or found DrainNotFree) o.value;
  left = o.left;
}

pub takes_oldest : TakesOldest
takes_oldest r lawful ls t c free = taken_from ls t c (oldest_of c (list_of ls t) (lawful.drain_waits ls t c free))

pub only_oldest_leaves : OnlyOldestLeaves
only_oldest_leaves ls t c free =
    let first = oldest_of_all c (list_of ls t) free in
    (taken_from ls t c first.0, first.1)

-- No store is to a chosen cell, if none was chosen.
none_chosen : (ss : List Store) → has_chosen (replicate 16 false) ss ≡ false
none_chosen [] = refl
none_chosen (s ∷ ss) = or_from (get_or (replicate 16 false) s.cell false) (has_chosen (replicate 16 false) ss) (at_replicate 16 s.cell false) (none_chosen ss)

-- So a step is free as below, and a drain is free as below in any case.
pub nothing_chosen : NothingChosen
nothing_chosen r ls t = (ap (λ b. r.steps ls t && not b) (none_chosen (list_of ls t)) ∙ and-true (r.steps ls t), λ c. refl)
