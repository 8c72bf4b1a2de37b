-- Adding the instructions of a recording, record by record.
use Rattle.std.proofs.Common.{◌≡◌, ℕ, Bool, true, false, cond, leb, List, [], ◌∷◌, ◌++◌, length, Some, None, Ok, Err, Option, sym, ap, ◌∙◌, subst}
use Rattle.std.specs.Option.{ok_or}
use Rattle.refusal.specs.declared.Refusal.{Refusal}
use Rattle.refusal.specs.declared.Refusal.TheVariants.{ProgramFull, FieldOutOfRange}
use Rattle.program.specs.Programs.{Added}
use Rattle.program.specs.Ranges.{in_range}
use Rattle.program.specs.declared.lines.Line.{Line}
use Rattle.recording.specs.Meaning.{added, adding, fault, line_at, line_tested, reading}
use Rattle.recording.specs.Steps.{AtFault, Peeked, Starts, adding_from, past_of}
use Rattle.recording.specs.declared.faults.Failure.{Failure}
use Rattle.recording.specs.declared.faults.Failure.TheVariants.{At, Memory}
use Rattle.recording.specs.declared.faults.Place.{Place}
use Rattle.recording.specs.declared.records.Fields.{Fields}
use Rattle.recording.specs.declared.records.Record.TheVariants.{Instruction}
use Rattle.recording.specs.declared.records.Setup.{Setup as Setup'}
use Rattle.recording.proofs.Following.{cut, steps_on, stops}

-- What an option gives was in it.
pub was_some : {A E : Type 0} (o : Option A) (x : A) (e : E) → Ok x ≡ ok_or o e → o ≡ Some x
was_some (Some y) x e is = cc
was_some None x e is = absurd cc

-- A line that the program takes is the one that the record adds,
pub taken : (ls after : List Line) (l : Line) (n : ℕ) → Added ls l (Ok n) after → line_tested ls (Some l) ≡ Ok after
taken ls after l n so = go (leb 128 (length ls)) (in_range l) so.value
  where
    go : (full ranged : Bool) → Ok n ≡ cond full (Err ProgramFull) (cond ranged (Ok (length ls)) (Err FieldOutOfRange)) → cond full (Err ProgramFull) (cond ranged (Ok (ls ++ l ∷ [])) (Err FieldOutOfRange)) ≡ Ok after
    go true ranged is = absurd cc
    go false true is = ap Ok (sym so.lines)
    go false false is = absurd cc

-- and one that it refuses is refused for the record.
pub not_taken : (ls after : List Line) (l : Line) (r : Refusal) → Added ls l (Err r) after → line_tested ls (Some l) ≡ Err r
not_taken ls after l r so = go (leb 128 (length ls)) (in_range l) so.value
  where
    go : (full ranged : Bool) → Err r ≡ cond full (Err ProgramFull) (cond ranged (Ok (length ls)) (Err FieldOutOfRange)) → cond full (Err ProgramFull) (cond ranged (Ok (ls ++ l ∷ [])) (Err FieldOutOfRange)) ≡ Err r
    go true ranged is = cc
    go false true is = absurd cc
    go false false is = cc

-- the records from start to place were instructions, and with their lines added the meaning goes on at place
pub record AddingOn (bs : List ℕ) (start : Place) (before : List Line) (place : Place) (ls : List Line) : Type 0 where
  pub reads : (s : Setup') → adding_from bs start before s ≡ adding_from bs place ls s

module _ (bs : List ℕ) (start : Place) (before : List Line) (place : Place) (ls : List Line) (so : AddingOn bs start before place ls) where
  -- One instruction more,
  pub adding_more : (f : Fields) (after : List Line) → Peeked bs place (Ok (Some (Instruction f))) → line_tested ls (line_at f) ≡ Ok after → AddingOn bs start before (past_of place (Instruction f)) after
  adding_more f after here is = record {
    reads = λ s. so.reads s ∙ steps_on (adding s ls) place.index place.byte bs (Instruction f) (adding s after) here.0 (ap (added s) is);
  }

  -- or its line is refused;
  pub adding_refused : (f : Fields) (r : Refusal) → Peeked bs place (Ok (Some (Instruction f))) → line_tested ls (line_at f) ≡ Err r → (s : Setup') → adding_from bs start before s ≡ fault r place.index place.byte
  adding_refused f r here is s = so.reads s ∙ stops (adding s ls) place.index place.byte bs (Instruction f) r here.0 (ap (added s) is)

  -- a record may be at fault;
  pub adding_cut : (e : Failure) → Peeked bs place (Err e) → (s : Setup') → AtFault (adding_from bs start before s) e
  adding_cut (At f) here s =
      subst (λ f. adding_from bs start before s ≡ fault f.refusal f.place.index f.place.byte) (sym here.1)
      (so.reads s ∙ cut (adding s ls) place.index place.byte bs here.0 here.2)
  adding_cut Memory here s = absurd here

-- A recording that begins with a setup means what its instructions mean from behind it on, in a program with no line.
pub reads_on : (bs : List ℕ) (p : Place) (s : Setup') (ls : List Line) → Starts bs p s → ls ≡ [] → reading bs ≡ adding_from bs p ls s
reads_on bs p s ls starts none = starts ∙ ap (λ lines. adding_from bs p lines s) (sym none)
