use Rattle.std.proofs.Common.{◌≡◌, [], Some, Ok, sym, refl, ap, ◌∙◌, subst}
use Rattle.recording.specs.Meaning.{adding, begun}
use Rattle.recording.specs.Steps.{Peeked, Starts, past_of}
use Rattle.recording.specs.declared.faults.Place.{Place}
use Rattle.recording.specs.declared.records.Record.TheVariants.{Setup}
use Rattle.recording.proofs.Following.{steps_on}
use Rattle.recording.proofs.reader.Reader.read_setup.Goals as goal

pub returns-clause-setup : goal.returns-clause-setup
returns-clause-setup c =
    let bs = c.args.self.now.recording.now in
    let s = c.in-Some-Setup.setup in
    let inner : c.in-Some-Setup.field-0 ≡ Setup s = rw c.in-Some-Setup.is at c.in-Some-Setup.field-0-is in
    let found : c.in_ok-found.found ≡ Some (Setup s) = c.in-Some-Setup.is ∙ ap Some inner in
    let here : Peeked bs (record { index = 0; byte = 0 }) (Ok (Some (Setup s))) =
    subst (λ (p : Place). Peeked bs p (Ok (Some (Setup s)))) c.requires (subst (λ o. Peeked bs c.args.self.now.place (Ok o)) found c.in_ok-found.ensures) in
    subst (λ (p : Place). Starts bs p s) (sym (c.pass.ensures.place ∙ ap (λ (p : Place). past_of p (Setup s)) c.requires)) (steps_on begun 0 0 bs (Setup s) (adding s []) here.0 refl)
