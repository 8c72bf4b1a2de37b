use Rattle.std.proofs.Common.{◌≡◌, length, subst, arith}
use Rattle.program.specs.Programs.{lines_of}
use Rattle.attacks.proofs.Chained.{Filled, filled_more, filled_none, table_filled}
use Rattle.attacks.proofs.table.attack_table.Goals as goal

pub loop-store-init : goal.loop-store-init
loop-store-init c = filled_none (lines_of c.args.program.now) _ (omega arith)

pub loop-store-preserved : goal.loop-store-preserved
loop-store-preserved c =
    let made = c.row_of.ensures in
    filled_more (lines_of c.args.program.now) c.loop-store.table c.loop-store.store c.row_of.result (omega (arith, c.args.program.now.few)) made.long made.right c.loop-store.invariant

pub returns : goal.returns
returns c =
    let ls = lines_of c.args.program.now in
    let end : c.loop-store.store ≡ length ls = omega arith in
    table_filled ls c.loop-store.table (subst (Filled ls c.loop-store.table) end c.loop-store.invariant)
