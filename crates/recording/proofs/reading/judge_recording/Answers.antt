use Rattle.std.proofs.Common.{length, Err, sym, ap, ◌∙◌, subst}
use Rattle.std.proofs.lemmas.Result.{err_from_is_err_and}
use Rattle.program.specs.Programs.{lines_of}
use Rattle.recording.specs.Meaning.{reading}
use Rattle.recording.specs.Steps.{AtFault, Starts, adding_from}
use Rattle.recording.specs.Verdicts.{ReadAs}
use Rattle.recording.proofs.Adding.{reads_on}
use Rattle.recording.proofs.Moving.{fault_read}
use Rattle.recording.proofs.reading.judge_recording.Goals as goal

pub returns-in_err-add_instructions : goal.returns-in_err-add_instructions
returns-in_err-add_instructions c =
    let bs = c.args.recording.now in
    let list = c.args.list.now in
    let s = c.in_ok-setup.setup in
    let e = c.in_err-add_instructions.field-0.0 in
    let p = c.read_setup.new.self.place in
    let ls = lines_of c.in_ok-program.program in
    let on = reads_on bs p s ls (subst (λ xs. Starts xs p s) c.new-reader.ensures.recording c.in_ok-setup.ensures.setup) c.in_ok-program.ensures in
    let at : AtFault (adding_from bs p ls s) e =
    subst (λ xs. AtFault (adding_from xs p ls s) e) (c.in_ok-setup.ensures.recording ∙ c.new-reader.ensures.recording) (c.in_err-add_instructions.ensures.added s) in
    let is = err_from_is_err_and c.from_residual-in_err-add_instructions.result c.from_residual-in_err-add_instructions.ensures.1 in
    subst (λ r. ReadAs (reading bs) (length bs) list r list) (sym (is.1 ∙ ap Err is.2)) (fault_read (reading bs) (length bs) list e (subst (λ read. AtFault read e) (sym on) at))
