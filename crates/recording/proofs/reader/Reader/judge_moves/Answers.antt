use Rattle.std.proofs.Common.{◌≡◌, ◌≤◌, List, [], length, Some, None, Ok, Err, sym, refl, ap, ◌∙◌, subst}
use Rattle.std.proofs.lemmas.Result.{err_from_is_err_and}
use Rattle.refusal.specs.declared.Refusal.TheVariants.{RecordOutOfPlace}
use Rattle.program.specs.Programs.{lines_of}
use Rattle.program.specs.declared.lines.Line.{Line}
use Rattle.buffers.specs.Laws.{Rules}
use Rattle.present.specs.Data.{Held}
use Rattle.replay.specs.Offers.{Offered}
use Rattle.replay.specs.Views.{held}
use Rattle.recording.specs.Meaning.{move_of}
use Rattle.recording.specs.Steps.{Peeked, moving_from}
use Rattle.recording.specs.Verdicts.{ReadAs, fault_at}
use Rattle.recording.specs.declared.faults.Failure.TheVariants.{At}
use Rattle.recording.specs.declared.faults.Place.{Place}
use Rattle.recording.proofs.Adding.{was_some}
use Rattle.recording.proofs.Moving.{Going, fault_read, going_more, going_none, going_refused, judged_told}
use Rattle.recording.proofs.Placing.{placed_err, placed_ok}
use Rattle.recording.proofs.reader.Reader.judge_moves.Goals as goal

pub loop-replay-init : goal.loop-replay-init
loop-replay-init g c =
    let rules = g.B.StoreBuffer.rules c.args.replay.buffer in
    let ls = lines_of c.args.replay.program in
    let bs = c.args.self.now.recording.now in
    let start = c.args.self.now.place in
    (refl, subst (λ (h : Held). Going rules ls bs start start h) (sym c.requires) (going_none rules ls bs start), refl, refl)

pub returns-in_err-placed : goal.returns-in_err-placed
returns-in_err-placed g c s rule =
    let rules = g.B.StoreBuffer.rules c.args.replay.buffer in
    let lawful = g.met.B.StoreBuffer.lawful c.args.replay.buffer in
    let ls = lines_of c.args.replay.program in
    let bs = c.args.self.now.recording.now in
    let start = c.args.self.now.place in
    let list = c.args.list.now in
    let place = c.loop-replay.self.place in
    let h = held (g.B.StoreBuffer.lists c.loop-replay.replay.buffer) c.loop-replay.replay.state in
    let after = held (g.B.StoreBuffer.lists c.offer.new.self.buffer) c.offer.new.self.state in
    let m = c.in_ok-offered.offered in
    let r = c.in-Some.found in
    let here : Peeked bs place (Ok (Some r)) =
    subst (λ xs. Peeked xs place (Ok (Some r))) c.loop-replay.invariant.0 (subst (λ o. Peeked c.loop-replay.self.recording.now place (Ok o)) c.in-Some.is c.in_ok-found.ensures) in
    let offered : move_of r ≡ Some m = was_some (move_of r) m RecordOutOfPlace (sym (placed_ok place c.try_from.result m c.in_ok-offered.ensures) ∙ c.try_from.ensures) in
    let told = placed_err place c.offer.result c.in_err-placed.field-0.0 c.in_err-placed.ensures in
    let so : Offered rules ls h m (Err told.0) after =
    subst (λ (k : Rules). Offered k ls h m (Err told.0) after) c.loop-replay.invariant.2
    (subst (λ (lines : List Line). Offered (g.B.StoreBuffer.rules c.loop-replay.replay.buffer) lines h m (Err told.0) after) c.loop-replay.invariant.3
    (subst (λ o. Offered (g.B.StoreBuffer.rules c.loop-replay.replay.buffer) (lines_of c.loop-replay.replay.program) h m o after) told.1 c.offer.ensures.answer)) in
    let refused = going_refused rules lawful ls bs start place h c.loop-replay.invariant.1 r m told.0 after here offered so s rule in
    let p = err_from_is_err_and c.from_residual-in_err-placed.result c.from_residual-in_err-placed.ensures.1 in
    subst (λ o. ReadAs (moving_from bs start ls [] s) (length bs) list o list) (sym (p.1 ∙ ap Err (p.2 ∙ told.2)))
    (fault_read (moving_from bs start ls [] s) (length bs) list (At (fault_at told.0 place.index place.byte)) refused)

pub loop-replay-preserved : goal.loop-replay-preserved
loop-replay-preserved g c =
    let rules = g.B.StoreBuffer.rules c.args.replay.buffer in
    let lawful = g.met.B.StoreBuffer.lawful c.args.replay.buffer in
    let ls = lines_of c.args.replay.program in
    let bs = c.args.self.now.recording.now in
    let start = c.args.self.now.place in
    let place = c.loop-replay.self.place in
    let h = held (g.B.StoreBuffer.lists c.loop-replay.replay.buffer) c.loop-replay.replay.state in
    let after = held (g.B.StoreBuffer.lists c.offer.new.self.buffer) c.offer.new.self.state in
    let m = c.in_ok-offered.offered in
    let v = c.in_ok-placed.field-0 in
    let r = c.in-Some.found in
    let here : Peeked bs place (Ok (Some r)) =
    subst (λ xs. Peeked xs place (Ok (Some r))) c.loop-replay.invariant.0 (subst (λ o. Peeked c.loop-replay.self.recording.now place (Ok o)) c.in-Some.is c.in_ok-found.ensures) in
    let offered : move_of r ≡ Some m = was_some (move_of r) m RecordOutOfPlace (sym (placed_ok place c.try_from.result m c.in_ok-offered.ensures) ∙ c.try_from.ensures) in
    let so : Offered rules ls h m (Ok v) after =
    subst (λ (k : Rules). Offered k ls h m (Ok v) after) c.loop-replay.invariant.2
    (subst (λ (lines : List Line). Offered (g.B.StoreBuffer.rules c.loop-replay.replay.buffer) lines h m (Ok v) after) c.loop-replay.invariant.3
    (subst (λ o. Offered (g.B.StoreBuffer.rules c.loop-replay.replay.buffer) (lines_of c.loop-replay.replay.program) h m o after) (placed_ok place c.offer.result v c.in_ok-placed.ensures) c.offer.ensures.answer)) in (
      c.pass.ensures.recording ∙ c.loop-replay.invariant.0,
      subst (λ (next : Place). Going rules ls bs start next after) (sym c.pass.ensures.place) (going_more rules lawful ls bs start place h c.loop-replay.invariant.1 r m v after here offered so),
      c.offer.ensures.rules ∙ c.loop-replay.invariant.2,
      c.offer.ensures.program ∙ c.loop-replay.invariant.3,
    )

pub returns : goal.returns
returns g c s rule =
    let rules = g.B.StoreBuffer.rules c.args.replay.buffer in
    let lawful = g.met.B.StoreBuffer.lawful c.args.replay.buffer in
    let ls = lines_of c.args.replay.program in
    let bs = c.args.self.now.recording.now in
    let start = c.args.self.now.place in
    let list = c.args.list.now in
    let place = c.loop-replay.self.place in
    let h = held (g.B.StoreBuffer.lists c.loop-replay.replay.buffer) c.loop-replay.replay.state in
    let here : Peeked bs place (Ok None) =
    subst (λ xs. Peeked xs place (Ok None)) c.loop-replay.invariant.0 (subst (λ o. Peeked c.loop-replay.self.recording.now place (Ok o)) c.in_default.is c.in_ok-found.ensures) in
    let within = subst (λ xs. place.byte ≤ length xs) c.loop-replay.invariant.0 c.loop-replay.self.byte in
    subst (λ o. ReadAs (moving_from bs start ls [] s) (length bs) list o c.judge.new.list) (sym c.placed-2.ensures)
    (judged_told rules lawful ls bs start place h c.loop-replay.invariant.1 within here list c.judge.new.list c.judge.result c.judge.ensures s rule)
