-- What a move that passes its tests has passed.
use Rattle.std.proofs.Common.{◌≡◌, ℕ, ◌<◌, Bool, true, false, not, eqb, leb, List, length, Some, None, Option, refl, ap, ◌∙◌, arith}
use Rattle.std.specs.List.{slice_get}
use Rattle.std.proofs.lemmas.Bool.{eqb-true, leb-false, not-false, not_from_true, lt-leb, eq-eqb}
use Rattle.refusal.specs.declared.Refusal.{Refusal}
use Rattle.refusal.specs.declared.Refusal.TheVariants.{ThreadOutOfRange, NoSuchInstruction, AtAnotherLabel, RunFull, ThreadNotFree, CellOutOfRange, DrainNotFree}
use Rattle.program.specs.declared.lines.Line.{Line}
use Rattle.buffers.specs.Laws.{Rules}
use Rattle.ledger.specs.Ledgers.{Ledger}
use Rattle.ledger.specs.Tests.{Passes, form_tested, guard, how_many, line_tested, lists_in}
use Rattle.ledger.specs.declared.moves.Move.TheVariants.{Run, Drain}

-- A chain of tests answers none exactly where each of them is passed.
pub guard_passed : (b : Bool) (r : Refusal) (rest : Option Refusal) → guard b r rest ≡ None → (b ≡ false) × (rest ≡ None)
guard_passed true r rest e = grind arith
guard_passed false r rest e = (refl, e)

pub pass_guard : (b : Bool) (r : Refusal) (rest : Option Refusal) → b ≡ false → rest ≡ None → guard b r rest ≡ None
pass_guard true r rest b_is rest_is = grind arith
pass_guard false r rest b_is rest_is = rest_is

-- what a run has passed
pub record RunPasses (rules : Rules) (ls : List Line) (l : Ledger) (t n : ℕ) : Type 0 where
  pub in_range : t < 8
  pub line : Line
  pub there : slice_get ls n ≡ Some line
  pub thread : line.thread ≡ t
  pub label : line.label ≡ (l.locals t).label
  pub room : how_many l < 256
  pub free : rules.steps (lists_in l) t ≡ true
  pub form : form_tested (l.locals t).registers (length (l.waiting t)) line.instruction ≡ None

pub run_passes : (rules : Rules) (ls : List Line) (l : Ledger) (t n : ℕ) → Passes rules ls l (Run t n) → RunPasses rules ls l t n
run_passes rules ls l t n passed =
    let first = guard_passed (leb 8 t) ThreadOutOfRange (line_tested rules l t (slice_get ls n)) passed in
    go (slice_get ls n) refl first.0 first.1
  where
    go : (o : Option Line) → slice_get ls n ≡ o → leb 8 t ≡ false → line_tested rules l t o ≡ None → RunPasses rules ls l t n
    go None is small passed' = grind arith
    go (Some line) is small passed' =
        let a = guard_passed (not (eqb line.thread t)) NoSuchInstruction _ passed' in
        let b = guard_passed (not (eqb line.label (l.locals t).label)) AtAnotherLabel _ a.1 in
        let c = guard_passed (leb 256 (how_many l)) RunFull _ b.1 in
        let d = guard_passed (not (rules.steps (lists_in l) t)) ThreadNotFree _ c.1 in
        record {
          in_range = leb-false 8 t small;
          line = line;
          there = is;
          thread = eqb-true line.thread t (not-false (eqb line.thread t) a.0);
          label = eqb-true line.label (l.locals t).label (not-false (eqb line.label (l.locals t).label) b.0);
          room = leb-false 256 (how_many l) c.0;
          free = not-false (rules.steps (lists_in l) t) d.0;
          form = d.1;
        }

-- and the other way round
pub passes_run : (rules : Rules) (ls : List Line) (l : Ledger) (t n : ℕ) → RunPasses rules ls l t n → Passes rules ls l (Run t n)
passes_run rules ls l t n p =
    pass_guard (leb 8 t) ThreadOutOfRange (line_tested rules l t (slice_get ls n)) (lt-leb 8 t p.in_range)
    (ap (line_tested rules l t) p.there
    ∙ pass_guard (not (eqb p.line.thread t)) NoSuchInstruction _ (not_from_true (eqb p.line.thread t) (eq-eqb p.line.thread t p.thread))
    (pass_guard (not (eqb p.line.label (l.locals t).label)) AtAnotherLabel _ (not_from_true (eqb p.line.label (l.locals t).label) (eq-eqb p.line.label (l.locals t).label p.label))
    (pass_guard (leb 256 (how_many l)) RunFull _ (lt-leb 256 (how_many l) p.room)
    (pass_guard (not (rules.steps (lists_in l) t)) ThreadNotFree _ (not_from_true (rules.steps (lists_in l) t) p.free) p.form))))

-- what a drain has passed
pub record DrainPasses (rules : Rules) (l : Ledger) (t c : ℕ) : Type 0 where
  pub in_range : t < 8
  pub cell : c < 16
  pub free : rules.drains (lists_in l) t c ≡ true

pub drain_passes : (rules : Rules) (ls : List Line) (l : Ledger) (t c : ℕ) → Passes rules ls l (Drain t c) → DrainPasses rules l t c
drain_passes rules ls l t c passed =
    let a = guard_passed (leb 8 t) ThreadOutOfRange _ passed in
    let b = guard_passed (leb 16 c) CellOutOfRange _ a.1 in
    let d = guard_passed (not (rules.drains (lists_in l) t c)) DrainNotFree None b.1 in
    record { in_range = leb-false 8 t a.0; cell = leb-false 16 c b.0; free = not-false (rules.drains (lists_in l) t c) d.0 }

pub passes_drain : (rules : Rules) (ls : List Line) (l : Ledger) (t c : ℕ) → DrainPasses rules l t c → Passes rules ls l (Drain t c)
passes_drain rules ls l t c p =
    pass_guard (leb 8 t) ThreadOutOfRange _ (lt-leb 8 t p.in_range)
    (pass_guard (leb 16 c) CellOutOfRange _ (lt-leb 16 c p.cell)
    (pass_guard (not (rules.drains (lists_in l) t c)) DrainNotFree None (not_from_true (rules.drains (lists_in l) t c) p.free) refl))
