use Rattle.std.proofs.Common.{◌≡◌, Some, Err, sym, ap, ◌∙◌, subst}
use Rattle.std.proofs.lemmas.Result.{err_from_is_err_and}
use Rattle.refusal.specs.declared.Refusal.TheVariants.{FieldOutOfRange}
use Rattle.program.specs.Programs.{lines_of}
use Rattle.recording.specs.Meaning.{line_at, line_tested}
use Rattle.recording.specs.Steps.{LineAdded}
use Rattle.recording.proofs.Adding.{not_taken, taken, was_some}
use Rattle.recording.proofs.reading.add_line.Goals as goal

pub returns-in_err-add : goal.returns-in_err-add
returns-in_err-add c =
    let before = lines_of c.args.program.now in
    let after = lines_of c.add.new.self in
    let line : line_at c.args.fields ≡ Some c.in_ok-line.line = was_some (line_at c.args.fields) c.in_ok-line.line FieldOutOfRange c.in_ok-line.ensures in
    let so = c.in_err-add.ensures in
    let p = err_from_is_err_and c.from_residual-in_err-add.result c.from_residual-in_err-add.ensures.1 in
    subst (λ r. LineAdded before c.args.fields r after) (sym (p.1 ∙ ap Err p.2))
    (ap (line_tested before) line ∙ not_taken before after c.in_ok-line.line c.in_err-add.field-0.0 so, so.lines)

pub returns : goal.returns
returns c =
    let before = lines_of c.args.program.now in
    let after = lines_of c.add.new.self in
    let line : line_at c.args.fields ≡ Some c.in_ok-line.line = was_some (line_at c.args.fields) c.in_ok-line.line FieldOutOfRange c.in_ok-line.ensures in
    ap (line_tested before) line ∙ taken before after c.in_ok-line.line c.in_ok-add.field-0 c.in_ok-add.ensures
