-- The moves of a recording are accepted under the rules of its store buffer, and these rules are lawful.
use Rattle.std.proofs.Common.{◌≡◌, ℕ, ◌+◌, true, cond, List, [], ◌∷◌, is_some, Some, None, Ok, Err, Option, Result, sym, refl, ap, subst}
use Rattle.std.proofs.lemmas.Bool.{ltb-true, true≢false}
use Rattle.refusal.specs.declared.Refusal.{Refusal}
use Rattle.program.specs.declared.lines.Line.{Line}
use Rattle.buffers.specs.Kinds.{oldest_is_to, per_cell, queue}
use Rattle.buffers.specs.Laws.{Lawful}
use Rattle.buffers.specs.Lists.{list_of, oldest_to, waits_to}
use Rattle.buffers.specs.declared.store.Store.{Store}
use Rattle.buffers.specs.KindLaws.{strong_lawful}
use Rattle.ledger.specs.Ledgers.{start}
use Rattle.ledger.specs.Moves.{ledger_of}
use Rattle.ledger.specs.Runs.{Accepted}
use Rattle.ledger.specs.Tests.{tested}
use Rattle.ledger.specs.declared.moves.Move.{Move}
use Rattle.ledger.specs.declared.moves.Move.TheVariants.{Run as Runs, Drain as Drains}
use Rattle.ledger.proofs.Forward.{direct_lawful}
use Rattle.ledger.proofs.Ordered.{accepted_append}
use Rattle.recording.specs.Accepted.{AcceptedMoves}
use Rattle.recording.specs.Layout.{size}
use Rattle.recording.specs.Meaning.{Phase, Reading, added, adding, begun, chosen_by, ended, fault, kind_rules, line_at, line_tested, moved, moved_by, moving, read_from, records, rules_of, stepped, whole}
use Rattle.recording.specs.declared.records.Kind.{Kind}
use Rattle.recording.specs.declared.records.Kind.TheVariants.{Direct, Queue, PerCell}
use Rattle.recording.specs.declared.records.Record.{Record}
use Rattle.recording.specs.declared.records.Record.TheVariants.{Setup, Instruction, Run, Drain}
use Rattle.recording.specs.declared.records.Setup.{Setup as Setup'}

-- Where the oldest store is to a cell, a store to that cell waits.
oldest_waits : (c : ℕ) (ss : List Store) → oldest_is_to c ss ≡ true → waits_to c ss ≡ true
oldest_waits c [] is = absurd (true≢false (sym is))
oldest_waits c (s ∷ ss) is = ap (λ b. is_some (cond b (Some s.value) (oldest_to c ss))) is

-- Under queue's rules every drain finds its store.
queue_lawful : Lawful queue
queue_lawful = record {
  step_in_range = λ ls t free. ltb-true t 8 free;
  drain_waits = λ ls t c free. oldest_waits c (list_of ls t) free;
}

-- So it does under per-cell's.
per_cell_lawful : Lawful per_cell
per_cell_lawful = record {
  step_in_range = λ ls t free. ltb-true t 8 free;
  drain_waits = λ ls t c free. free;
}

-- The rules of each kind are lawful.
kind_lawful : (k : Kind) → Lawful (kind_rules k)
kind_lawful Direct = direct_lawful
kind_lawful Queue = queue_lawful
kind_lawful PerCell = per_cell_lawful

-- The rules of a setup are lawful.
pub rules_lawful : (s : Setup') → Lawful (rules_of s)
rules_lawful s = strong_lawful (chosen_by s.strong) (kind_rules s.kind) (kind_lawful s.kind)

-- the moves so far are accepted
abbrev Going : Phase → Type 0
Going begun = Unit {0}
Going (adding s ls) = Unit {0}
Going (moving s ls ms) = Accepted (rules_of s) ls start ms

-- the moves of what was read are accepted
abbrev Ended : Reading → Type 0
Ended (fault r n b) = Unit {0}
Ended (whole s ls ms n) = Accepted (rules_of s) ls start ms

-- What is as the phase that a step answers is that phase.
ok_same : {A : Type 0} (x y : A) → ◌≡◌ {A = Result A Refusal} (Ok x) (Ok y) → x ≡ y
ok_same x y e = cc

-- A refusal answers no phase.
err_not : {A : Type 0} (r : Refusal) (y : A) → ◌≡◌ {A = Result A Refusal} (Err r) (Ok y) → ⊥
err_not r y e = cc

-- One move more, which was not refused.
going_moved : (s : Setup') (ls : List Line) (ms : List Move) (m : Move) (next : Phase) → Accepted (rules_of s) ls start ms → moved s ls ms m ≡ Ok next → Going next
going_moved s ls ms m next so_far = go (tested (rules_of s) ls (ledger_of ls ms) m) refl
  where
    go : (o : Option Refusal) → tested (rules_of s) ls (ledger_of ls ms) m ≡ o → moved_by s ls ms m o ≡ Ok next → Going next
    go None passes is = subst Going (ok_same _ next is) (accepted_append (rules_of s) ls start ms (m ∷ []) so_far (passes, tt))
    go (Some r) passes is = absurd (err_not r next is)

-- One line more.
going_added : (s : Setup') (o : Result (List Line) Refusal) (next : Phase) → added s o ≡ Ok next → Going next
going_added s (Ok ls) next is = subst Going (ok_same (adding s ls) next is) tt
going_added s (Err r) next is = absurd (err_not r next is)

-- One record more.
going_step : (phase : Phase) (r : Record) (next : Phase) → Going phase → stepped phase r ≡ Ok next → Going next
going_step begun (Setup s) next so_far is = subst Going (ok_same (adding s []) next is) tt
going_step begun (Instruction f) next so_far is = absurd (err_not _ next is)
going_step begun (Run t n) next so_far is = absurd (err_not _ next is)
going_step begun (Drain t c) next so_far is = absurd (err_not _ next is)
going_step (adding s ls) (Setup again) next so_far is = absurd (err_not _ next is)
going_step (adding s ls) (Instruction f) next so_far is = going_added s (line_tested ls (line_at f)) next is
going_step (adding s ls) (Run t n) next so_far is = going_moved s ls [] (Runs t n) next tt is
going_step (adding s ls) (Drain t c) next so_far is = going_moved s ls [] (Drains t c) next tt is
going_step (moving s ls ms) (Setup again) next so_far is = absurd (err_not _ next is)
going_step (moving s ls ms) (Instruction f) next so_far is = absurd (err_not _ next is)
going_step (moving s ls ms) (Run t n) next so_far is = going_moved s ls ms (Runs t n) next so_far is
going_step (moving s ls ms) (Drain t c) next so_far is = going_moved s ls ms (Drains t c) next so_far is

-- Behind the last record.
ended_going : (phase : Phase) (n : ℕ) → Going phase → Ended (ended phase n)
ended_going begun n so_far = tt
ended_going (adding s ls) n so_far = tt
ended_going (moving s ls ms) n so_far = so_far

-- From any phase on.
ended_from : (phase : Phase) (n b : ℕ) (rs : List (Result Record Refusal)) → Going phase → Ended (read_from phase n b rs)
ended_from phase n b [] so_far = ended_going phase n so_far
ended_from phase n b (Err r ∷ rs) so_far = tt
ended_from phase n b (Ok r ∷ rs) so_far = go (stepped phase r) refl (λ next. ended_from next (n + 1) (b + size r) rs)
  where
    go : (o : Result Phase Refusal) → stepped phase r ≡ o → ((next : Phase) → Going next → Ended (read_from next (n + 1) (b + size r) rs)) → Ended (elim o [ Err refusal ↦ fault refusal n b | Ok next ↦ read_from next (n + 1) (b + size r) rs ])
    go (Err refusal) is on = tt
    go (Ok next) is on = on next (going_step phase r next so_far is)

-- The moves of a recording that is read to its end are accepted.
pub accepted_moves : AcceptedMoves
accepted_moves bs s ls ms n is = subst Ended is (ended_from begun 0 0 (records bs) tt)
