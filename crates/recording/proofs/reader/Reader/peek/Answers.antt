use Rattle.std.proofs.Common.{◌≡◌, [], length, drop, Ok, Err, sym, refl, ap, ◌∙◌, subst, arith, length-drop}
use Rattle.std.proofs.lemmas.List.{take_rest}
use Rattle.std.proofs.lemmas.Bool.{eqb-false}
use Rattle.std.proofs.lemmas.Result.{err_from_is_err_and}
use Rattle.recording.specs.Layout.{first_record}
use Rattle.recording.specs.Steps.{Peeked}
use Rattle.recording.proofs.Following.{first_within, records_err}
use Rattle.recording.proofs.Placing.{placed_err, placed_ok}
use Rattle.recording.proofs.reader.Reader.peek.Goals as goal

pub returns-in_err-found : goal.returns-in_err-found
returns-in_err-found c =
    let bs = c.args.self.now.recording.now in
    let place = c.args.self.now.place in
    let rest = drop place.byte bs in
    let told = placed_err place c.first_record.result c.in_err-found.field-0.0 c.in_err-found.ensures in
    let found : first_record rest ≡ Err told.0 = ap first_record (sym (take_rest bs place.byte)) ∙ sym c.first_record.ensures ∙ told.1 in
    let some : rest ≡ [] → ⊥ = λ none. eqb-false _ 0 (sym c.is_empty.ensures ∙ c.if-is_empty.false) (ap length (take_rest bs place.byte ∙ none)) in
    let p = err_from_is_err_and c.from_residual.result c.from_residual.ensures.1 in
    subst (λ e. Peeked bs place e) (sym (p.1 ∙ ap Err (p.2 ∙ told.2))) (told.0, refl, records_err rest told.0 some found)

pub returns : goal.returns
returns c =
    let bs = c.args.self.now.recording.now in
    let place = c.args.self.now.place in
    let rest = drop place.byte bs in
    let found : first_record rest ≡ Ok c.in_ok-found.found = ap first_record (sym (take_rest bs place.byte)) ∙ sym c.first_record.ensures ∙ placed_ok place c.first_record.result c.in_ok-found.found c.in_ok-found.ensures in
    (found, omega (arith, first_within rest c.in_ok-found.found found, length-drop place.byte bs, c.args.self.now.byte))
