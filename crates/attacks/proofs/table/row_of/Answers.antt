use Rattle.std.proofs.Common.{◌≡◌, ℕ, Bool, false, ◌&&◌, get_or, sym, arith, rules}
use Rattle.program.specs.Programs.{lines_of}
use Rattle.attacks.specs.Attacks.{has, is_load}
use Rattle.attacks.proofs.Chained.{blank_row, row_from_reached, row_of_none}
use Rattle.attacks.proofs.Made.{made_at}
use Rattle.attacks.proofs.table.row_of.Goals as goal

pub returns-then-not-is_store-clause-right : goal.returns-then-not-is_store-clause-right
returns-then-not-is_store-clause-right c = row_of_none (lines_of c.args.program.now) c.args.store _ (sym c.if-not-is_store.ensures) (blank_row 128)

pub returns-clause-right : goal.returns-clause-right
returns-clause-right c =
    let ls = lines_of c.args.program.now in
    let found = c.reached-reached.result in
    let marks = c.from_fn.result in
    row_from_reached ls c.args.store found marks (sym c.if-not-is_store.ensures) c.reached-reached.ensures.sound c.reached-reached.ensures.complete 128 (omega (arith, c.args.program.now.few)) c.from_fn.ensures.items.long
    (made_at c.from_fn.ensures.items (λ (l : ℕ) (mark : Bool). mark ≡ (get_or found l false && has is_load ls l)) false (λ i y q called. search rules))
