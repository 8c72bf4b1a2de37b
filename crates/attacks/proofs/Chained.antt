-- A chain of the graph's edges is a path through the code, so what the search reaches from a store are the loads of its
-- attack pairs.
use Rattle.std.proofs.Common.{◌≡◌, ◌≢◌, ℕ, ◌+◌, ◌<◌, ◌≤◌, Bool, true, false, not, ◌&&◌, List, [], length, get_or, replicate, set, Some, None, Option, sym, refl, ap, ◌∙◌, subst, ⊎_elim, arith, length-set}
use lib.ListN.{length-replicate}
use Rattle.std.specs.List.{slice_get}
use Rattle.std.proofs.lemmas.List.{get_or-replicate, get_or-set_other, get_or-set_same, get_or_past}
use Rattle.std.proofs.lemmas.List.Elements.{All-from_get_or}
use Rattle.std.proofs.lemmas.Option.{slice_get_past, gets}
use Rattle.std.proofs.lemmas.Grind.{common_steps}
use Rattle.std.proofs.lemmas.Bool.{cases_eq, true≢false, and_parts, and_from, not-true, not_from_false, cases_lt, both_ways}
use Rattle.graph.specs.Chains.{Chain, edge, onward}
use Rattle.program.specs.declared.forms.Instruction.{Instruction}
use Rattle.program.specs.declared.forms.Instruction.TheVariants.{Load, Store, Fence, Compute, Assert}
use Rattle.program.specs.declared.lines.Line.{Line}
use Rattle.attacks.specs.Attacks.{Path, step, through, follows, has, passes, is_fence, is_load, is_store}
use Rattle.attacks.specs.Paths.{goes_on}
use Rattle.attacks.specs.Tables.{Long, RightRow, RightTable}

-- A chain of edges is a path, and its last line is no fence.
path_from_chain : (ls : List Line) {m n : ℕ} → Chain (goes_on ls) m n → Path ls m n × (has is_fence ls n ≡ false)
path_from_chain ls {m} {n} (edge joined) =
    let both = and_parts (follows ls m n) (not (has is_fence ls n)) joined in
    (step both.0, not-true (has is_fence ls n) both.1)
path_from_chain ls {m} {n} (onward {v = k} chain joined) =
    let before = path_from_chain ls chain in
    let both = and_parts (follows ls k n) (not (has is_fence ls n)) joined in
    (through before.0 before.1 both.0, not-true (has is_fence ls n) both.1)

-- A path whose last line is no fence is a chain of edges.
chain_from_path : (ls : List Line) {m n : ℕ} → Path ls m n → has is_fence ls n ≡ false → Chain (goes_on ls) m n
chain_from_path ls {m} {n} (step behind) bare = edge (and_from (follows ls m n) (not (has is_fence ls n)) behind (not_from_false (has is_fence ls n) bare))
chain_from_path ls {m} {n} (through {k = k} path free behind) bare =
    onward (chain_from_path ls path free) (and_from (follows ls k n) (not (has is_fence ls n)) behind (not_from_false (has is_fence ls n) bare))

-- A load is no fence.
load_instruction : (i : Instruction) → is_load i ≡ true → is_fence i ≡ false
load_instruction (Load register address) load = refl
load_instruction (Store address value) load = refl
load_instruction Fence load = absurd (true≢false (sym load))
load_instruction (Compute register operation a b) load = refl
load_instruction (Assert condition) load = refl

load_line : (o : Option Line) → passes is_load o ≡ true → passes is_fence o ≡ false
load_line None load = refl
load_line (Some l) load = load_instruction l.instruction load

-- A line that is there stands below the number of lines.
below_length : (test : Instruction → Bool) (ls : List Line) (n : ℕ) → has test ls n ≡ true → n < length ls
below_length test ls n there = grind (arith, common_steps, gets)

-- The loads that a search from a store reaches are those of its attack pairs.
pub row_from_reached : (ls : List Line) (s : ℕ) (found marks : List Bool) → has is_store ls s ≡ true → ((n : ℕ) → get_or found n false ≡ true → Chain (goes_on ls) s n) → ((n : ℕ) → Chain (goes_on ls) s n → get_or found n false ≡ true) → (n : ℕ) → length ls ≤ n → length marks ≡ n → ((l : ℕ) → l < n → get_or marks l false ≡ (get_or found l false && has is_load ls l)) → RightRow ls s marks
row_from_reached ls s found marks store sound complete n few long marked = record {
  only = λ l mark.
      ⊎_elim
      (λ below.
      let both = and_parts (get_or found l false) (has is_load ls l) (sym (marked l below) ∙ mark) in
      record { store = store; load = both.1; path = (path_from_chain ls (sound l both.0)).0 })
      (λ past. absurd (both_ways (get_or marks l false) (get_or_past marks l false (omega arith)) mark))
      (cases_lt l n);
  all = λ l attack.
      let below = below_length is_load ls l attack.load in
      marked l (omega (arith, below))
      ∙ and_from (get_or found l false) (has is_load ls l) (complete l (chain_from_path ls attack.path (load_line (slice_get ls l) attack.load))) attack.load;
}

-- A row with no mark is right for a line that is no store.
pub row_of_none : (ls : List Line) (s : ℕ) (marks : List Bool) → has is_store ls s ≡ false → ((l : ℕ) → get_or marks l false ≡ false) → RightRow ls s marks
row_of_none ls s marks none blank = record { only = λ l marked. grind arith; all = λ l attack. grind arith }

-- So it is for a number that no line has.
row_past : (ls : List Line) (s : ℕ) (marks : List Bool) → length ls ≤ s → ((l : ℕ) → get_or marks l false ≡ false) → RightRow ls s marks
row_past ls s marks past = row_of_none ls s marks (ap (passes is_store) (slice_get_past ls s past))

pub blank_row : (n l : ℕ) → get_or (replicate n false) l false ≡ false
blank_row n l = grind (arith, common_steps, get_or-replicate, get_or_past, length-replicate)

-- A table with a right row for each line is right, however many rows it has. No proof here needs it: `table_filled` is of 128 rows.
pub table_from_rows : (ls : List Line) (rows : List (List Bool)) (n : ℕ) → length ls ≤ n → length rows ≡ n → ((s : ℕ) → s < n → Long (get_or rows s []) × RightRow ls s (get_or rows s [])) → RightTable ls rows
table_from_rows ls rows n few many made = record {
  long = All-from_get_or Long rows [] (λ s below. (made s (omega arith)).0);
  right = λ s.
      ⊎_elim (λ below. (made s below).1)
      (λ past. row_past ls s (get_or rows s []) (omega arith) (λ l. ap (λ row. get_or row l false) (get_or_past rows s [] (omega arith))))
      (cases_lt s n);
}

-- A table in the course of being filled: its first n rows are right, and the later ones have no mark.
pub record Filled (ls : List Line) (rows : List (List Bool)) (n : ℕ) : Type 0 where
  pub many : length rows ≡ 128
  pub long : (s : ℕ) → s < 128 → Long (get_or rows s [])
  pub right : (s : ℕ) → s < n → RightRow ls s (get_or rows s [])
  pub blank : (s l : ℕ) → n ≤ s → get_or (get_or rows s []) l false ≡ false

pub filled_none : (ls : List Line) (n : ℕ) → n ≡ 0 → Filled ls (replicate 128 (replicate 128 false)) n
filled_none ls n none = record {
  many = length-replicate 128 (replicate 128 false);
  long = λ s below. ap length (get_or-replicate 128 s (replicate 128 false) [] below) ∙ length-replicate 128 false;
  right = λ s below. absurd (omega arith);
  blank = λ s l past.
      ⊎_elim
      (λ below. ap (λ row. get_or row l false) (get_or-replicate 128 s (replicate 128 false) [] below) ∙ blank_row 128 l)
      (λ past. ap (λ row. get_or row l false) (get_or_past (replicate 128 (replicate 128 false)) s [] (omega (arith, length-replicate 128 (replicate 128 false)))))
      (cases_lt s 128);
}

pub filled_more : (ls : List Line) (rows : List (List Bool)) (n : ℕ) (row : List Bool) → n < 128 → Long row → RightRow ls n row → Filled ls rows n → Filled ls (set rows n row) (n + 1)
filled_more ls rows n row within long right so_far =
    let here : get_or (set rows n row) n [] ≡ row = get_or-set_same rows n row [] (omega (arith, so_far.many)) in
    let other : (s : ℕ) → s ≢ n → get_or (set rows n row) s [] ≡ get_or rows s [] = λ s apart. get_or-set_other rows n s row [] apart in
    record {
      many = length-set rows n row ∙ so_far.many;
      long = λ s below.
          ⊎_elim (λ is. subst (λ k. Long (get_or (set rows n row) k [])) (sym is) (subst Long (sym here) long))
          (λ apart. subst Long (sym (other s apart)) (so_far.long s below)) (cases_eq s n);
      right = λ s below.
          ⊎_elim (λ is. subst (λ k. RightRow ls k (get_or (set rows n row) k [])) (sym is) (subst (RightRow ls n) (sym here) right))
          (λ apart. subst (RightRow ls s) (sym (other s apart)) (so_far.right s (omega arith))) (cases_eq s n);
      blank = λ s l past. ap (λ r. get_or r l false) (other s (λ is. omega (arith, is))) ∙ so_far.blank s l (omega arith);
    }

pub table_filled : (ls : List Line) (rows : List (List Bool)) → Filled ls rows (length ls) → RightTable ls rows
table_filled ls rows filled = record {
  long = All-from_get_or Long rows [] (λ s below. filled.long s (omega (arith, filled.many)));
  right = λ s.
      ⊎_elim (filled.right s)
      (λ past. row_past ls s (get_or rows s []) past (λ l. filled.blank s l past))
      (cases_lt s (length ls));
}
