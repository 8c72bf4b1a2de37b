use Rattle.std.proofs.Common.{sym, ◌∙◌}
use Rattle.buffers.proofs.Stores.{placed, unplaced}
use Rattle.buffers.proofs.row.Row.take.Goals as goal

pub returns-in_err-place : goal.returns-in_err-place
returns-in_err-place c =
    let none = unplaced c.args.cell c.args.self.now (sym c.place.ensures ∙ c.in_err-place.was) in
    record { value = c.from_residual.ensures ∙ sym none.0; stores = sym none.1 }

pub returns : goal.returns
returns c =
    let at = placed c.args.cell c.args.self.now c.in_ok-place.place c.remove-store.result (sym c.place.ensures ∙ c.in_ok-place.was) in
    record { value = cc; stores = cc }
