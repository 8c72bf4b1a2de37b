-- The records of a recording, one behind the other, and how a reading goes on by one of them.
use Rattle.std.proofs.Common.{◌≡◌, ℕ, zero, suc, ◌+◌, ◌≤◌, Bool, true, false, cond, eqb, leb, List, [], ◌∷◌, length, drop, Some, None, Ok, Err, Option, Result, sym, refl, ap, ◌∙◌, arith, length-drop, drop-drop}
use Rattle.std.proofs.lemmas.Bool.{leb-true}
use Rattle.refusal.specs.declared.Refusal.{Refusal}
use Rattle.refusal.specs.declared.Refusal.TheVariants.{RecordCutShort, RecordUnknown}
use Rattle.recording.specs.Layout.{Shape, body_at, body_size, byte, drain, first_record, instruction, kind_at, run, setup, setup_with, shape_of, shaped, size, word}
use Rattle.recording.specs.Meaning.{Phase, ended, fault, read_from, records, records_in, stepped}
use Rattle.recording.specs.declared.records.Kind.{Kind}
use Rattle.recording.specs.declared.records.Record.{Record}
use Rattle.recording.specs.declared.records.Record.TheVariants.{Setup, Instruction, Run, Drain}

-- A record has at least six bytes.
pub at_least : (r : Record) → 6 ≤ size r
at_least (Setup s) = omega arith
at_least (Instruction f) = omega arith
at_least (Run t n) = omega arith
at_least (Drain t c) = omega arith

-- A setup of a known kind has eight bytes,
setup_with_size : (k : Option Kind) (n : ℕ) (r : Record) → setup_with k n ≡ Ok r → size r ≡ 8
setup_with_size None n r is = absurd cc
setup_with_size (Some k) n r is = cc

-- so that every setup that is read has eight bytes,
setup_size : (b : Bool) (k : Option Kind) (n : ℕ) (r : Record) → cond b (setup_with k n) (Err RecordUnknown) ≡ Ok r → size r ≡ 8
setup_size true k n r is = setup_with_size k n r is
setup_size false k n r is = absurd cc

-- and a record of any shape the four bytes in front and those of its shape.
body_sized : (s : Shape) (bs : List ℕ) (r : Record) → body_at s bs ≡ Ok r → size r ≡ 4 + body_size s
body_sized setup bs r is = setup_size (eqb (byte bs 1) 0) (kind_at (byte bs 0)) (word (byte bs 2) (byte bs 3)) r is
body_sized instruction bs r is = cc
body_sized run bs r is = cc
body_sized drain bs r is = cc

-- The record that some bytes begin with lies within them.
pub first_within : (bs : List ℕ) (r : Record) → first_record bs ≡ Ok r → size r ≤ length bs
first_within bs r = go (leb 4 (length bs)) refl (shape_of (word (byte bs 0) (byte bs 1)) (word (byte bs 2) (byte bs 3)))
  where
    fits : (s : Shape) (b : Bool) → leb (body_size s) (length (drop 4 bs)) ≡ b → cond b (body_at s (drop 4 bs)) (Err RecordCutShort) ≡ Ok r → leb 4 (length bs) ≡ true → size r ≤ length bs
    fits s true long is front =
        omega (arith, leb-true (body_size s) (length (drop 4 bs)) long, leb-true 4 (length bs) front, length-drop 4 bs, body_sized s (drop 4 bs) r is)
    fits s false long is front = absurd cc

    go : (b : Bool) → leb 4 (length bs) ≡ b → (o : Option Shape) → cond b (shaped o (drop 4 bs)) (Err RecordCutShort) ≡ Ok r → size r ≤ length bs
    go true front None is = absurd cc
    go true front (Some s) is = fits s (leb (body_size s) (length (drop 4 bs))) refl is front
    go false front o is = absurd cc

-- the records from some bytes on, by what these begin with
abbrev from_first : ℕ → List ℕ → Result Record Refusal → List (Result Record Refusal)
from_first n bs (Err refusal) = Err refusal ∷ []
from_first n bs (Ok r) = Ok r ∷ records_in n (drop (size r) bs)

-- What some bytes begin with says their records,
by_first : (n b : ℕ) (bs : List ℕ) (o : Result Record Refusal) → first_record (b ∷ bs) ≡ o → records_in (suc n) (b ∷ bs) ≡ from_first n (b ∷ bs) o
by_first n b bs (Err refusal) is = rw (is, records_in) refl
by_first n b bs (Ok r) is = rw (is, records_in) refl

-- and these do not depend on how many are asked for, once that is at least the number of bytes.
pub enough : (n m : ℕ) (bs : List ℕ) → length bs ≤ n → length bs ≤ m → records_in n bs ≡ records_in m bs
enough zero zero bs few many = refl
enough zero (suc m) [] few many = refl
enough zero (suc m) (b ∷ bs) few many = absurd (omega arith)
enough (suc n) zero [] few many = refl
enough (suc n) zero (b ∷ bs) few many = absurd (omega arith)
enough (suc n) (suc m) [] few many = refl
enough (suc n) (suc m) (b ∷ bs) few many = go (λ rest. enough n m rest) (first_record (b ∷ bs)) refl
  where
    same : (again : (rest : List ℕ) → length rest ≤ n → length rest ≤ m → records_in n rest ≡ records_in m rest) (o : Result Record Refusal) → from_first n (b ∷ bs) o ≡ from_first m (b ∷ bs) o
    same again (Err refusal) = refl
    same again (Ok r) =
        let shorter = length-drop (size r) (b ∷ bs) in
        let big = at_least r in
        ap (λ rs. Ok r ∷ rs) (again (drop (size r) (b ∷ bs)) (omega arith) (omega arith))

    go : (again : (rest : List ℕ) → length rest ≤ n → length rest ≤ m → records_in n rest ≡ records_in m rest) (o : Result Record Refusal) → first_record (b ∷ bs) ≡ o → records_in (suc n) (b ∷ bs) ≡ records_in (suc m) (b ∷ bs)
    go again o is = by_first n b bs o is ∙ same again o ∙ sym (by_first m b bs o is)

-- The first record comes first, and behind it those of the bytes behind it.
pub records_ok : (bs : List ℕ) (r : Record) → first_record bs ≡ Ok r → records bs ≡ Ok r ∷ records (drop (size r) bs)
records_ok [] r is = absurd cc
records_ok (b ∷ bs) r is =
    let shorter = length-drop (size r) (b ∷ bs) in
    let big = at_least r in
    by_first (length bs) b bs (Ok r) is ∙ ap (λ rs. Ok r ∷ rs) (enough (length bs) (length (drop (size r) (b ∷ bs))) (drop (size r) (b ∷ bs)) (omega arith) (omega arith))

-- A first record that is at fault ends them.
pub records_err : (bs : List ℕ) (refusal : Refusal) → (bs ≡ [] → ⊥) → first_record bs ≡ Err refusal → records bs ≡ Err refusal ∷ []
records_err [] refusal some is = absurd (some refl)
records_err (b ∷ bs) refusal some is = by_first (length bs) b bs (Err refusal) is

-- A list of no length is empty,
pub none_left : (bs : List ℕ) → length bs ≡ 0 → bs ≡ []
none_left [] none = refl
none_left (b ∷ bs) none = absurd (omega arith)

-- and where nothing is left, no more bytes than these were passed.
pub passed_all : (b : ℕ) (bs : List ℕ) → drop b bs ≡ [] → length bs ≤ b
passed_all b bs none = omega (arith, length-drop b bs, ap length none)

module _ (phase : Phase) (n b : ℕ) (bs : List ℕ) where
  -- The records from a byte on, by the first of them.
  from_record : (r : Record) → first_record (drop b bs) ≡ Ok r → records (drop b bs) ≡ Ok r ∷ records (drop (b + size r) bs)
  from_record r is = records_ok (drop b bs) r is ∙ ap (λ rest. Ok r ∷ records rest) (drop-drop (size r) b bs)

  -- A reading goes by its next record: on, if the phase steps by it,
  pub steps_on : (r : Record) (next : Phase) → first_record (drop b bs) ≡ Ok r → stepped phase r ≡ Ok next → read_from phase n b (records (drop b bs)) ≡ read_from next (n + 1) (b + size r) (records (drop (b + size r) bs))
  steps_on r next is so = ap (read_from phase n b) (from_record r is) ∙ rw (so, read_from) refl

  -- no further, if the phase refuses it
  pub stops : (r : Record) (refusal : Refusal) → first_record (drop b bs) ≡ Ok r → stepped phase r ≡ Err refusal → read_from phase n b (records (drop b bs)) ≡ fault refusal n b
  stops r refusal is so = ap (read_from phase n b) (from_record r is) ∙ rw (so, read_from) refl

  -- or it is at fault,
  pub cut : (refusal : Refusal) → records (drop b bs) ≡ Err refusal ∷ [] → read_from phase n b (records (drop b bs)) ≡ fault refusal n b
  cut refusal is = ap (read_from phase n b) is

  -- and to its end, if there is none.
  pub over : drop b bs ≡ [] → read_from phase n b (records (drop b bs)) ≡ ended phase n
  over none = ap (λ rest. read_from phase n b (records rest)) none
