use Rattle.std.proofs.Common.{◌≡◌, Some, Ok, Err, sym, ap, ◌∙◌, subst}
use Rattle.std.proofs.lemmas.Result.{err_from_is_err_and}
use Rattle.program.specs.Programs.{lines_of}
use Rattle.recording.specs.Meaning.{line_at, line_tested}
use Rattle.recording.specs.Steps.{Adds, LineAdded, Peeked}
use Rattle.recording.specs.declared.faults.Place.{Place}
use Rattle.recording.specs.declared.records.Record.TheVariants.{Instruction}
use Rattle.recording.proofs.Adding.{AddingOn, adding_more, adding_refused}
use Rattle.recording.proofs.Placing.{placed_err, placed_ok}
use Rattle.recording.proofs.reader.Reader.add_instructions.Goals as goal

pub returns-in_err-placed-clause-added : goal.returns-in_err-placed-clause-added
returns-in_err-placed-clause-added c =
    let bs = c.args.self.now.recording.now in
    let start = c.args.self.now.place in
    let before = lines_of c.args.program.now in
    let ls = lines_of c.loop-found.program in
    let after = lines_of c.add_line.new.program in
    let place = c.loop-found.self.place in
    let f = c.in-Instruction.fields in
    let here : Peeked bs place (Ok (Some (Instruction f))) =
    subst (λ xs. Peeked xs place (Ok (Some (Instruction f)))) c.loop-found.invariant.0 (subst (λ o. Peeked c.loop-found.self.recording.now place (Ok o)) (c.in-Some.is ∙ ap Some c.in-Instruction.is) c.in_ok-found.ensures) in
    let told = placed_err place c.add_line.result c.in_err-placed.field-0.0 c.in_err-placed.ensures in
    let so : LineAdded ls f (Err told.0) after = subst (λ o. LineAdded ls f o after) told.1 c.add_line.ensures in
    let p = err_from_is_err_and c.from_residual-in_err-placed.result c.from_residual-in_err-placed.ensures.1 in
    subst (λ r. Adds bs start before r place after) (sym (p.1 ∙ ap Err (p.2 ∙ told.2)))
    (adding_refused bs start before place ls c.loop-found.invariant.1 f told.0 here so.0)

pub loop-found-preserved : goal.loop-found-preserved
loop-found-preserved c =
    let bs = c.args.self.now.recording.now in
    let start = c.args.self.now.place in
    let before = lines_of c.args.program.now in
    let ls = lines_of c.loop-found.program in
    let after = lines_of c.add_line.new.program in
    let place = c.loop-found.self.place in
    let f = c.in-Instruction.fields in
    let here : Peeked bs place (Ok (Some (Instruction f))) =
    subst (λ xs. Peeked xs place (Ok (Some (Instruction f)))) c.loop-found.invariant.0 (subst (λ o. Peeked c.loop-found.self.recording.now place (Ok o)) (c.in-Some.is ∙ ap Some c.in-Instruction.is) c.in_ok-found.ensures) in
    let line : line_tested ls (line_at f) ≡ Ok after = subst (λ o. LineAdded ls f o after) (placed_ok place c.add_line.result c.in_ok-placed.field-0 c.in_ok-placed.ensures) c.add_line.ensures in (
      c.pass.ensures.recording ∙ c.loop-found.invariant.0,
      subst (λ (next : Place). AddingOn bs start before next after) (sym c.pass.ensures.place) (adding_more bs start before place ls c.loop-found.invariant.1 f after here line),
    )
