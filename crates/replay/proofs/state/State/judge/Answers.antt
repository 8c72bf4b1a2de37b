use Rattle.std.proofs.Common.{◌≡◌, ◌≤◌, map, min, length, take, ap, ◌∙◌, arith, length-take, rules}
use Rattle.refusal.specs.declared.Refusal.TheVariants.{TooShort}
use Rattle.replay.specs.Names.{name_of}
use Rattle.replay.specs.Views.{present_of}
use Rattle.replay.proofs.Judged.{Placed, all_numbered, found_below, names_listed, order_placed, ring_placed, too_few}
use Rattle.replay.proofs.Stating.{few_in}
use Rattle.replay.proofs.Steps.{ok_or_gone, ok_or_told}
use Rattle.replay.proofs.state.State.judge.Goals as goal
use Rattle.replay.proofs.state.State.judge.Goals.{in-Order, in-Ring}

pub invariant_of-graph : goal.invariant_of-graph
invariant_of-graph c = record { few = c.deref.ensures.1 }

pub write-requires : goal.write-requires
write-requires c =
    let own = present_of c.args.self.now in
    let is = ap (map name_of) c.deref.ensures.0 ∙ c.names.ensures in
    let told = c.match-written.word in
    let new = c.order_or_ring.new.list in
    let some = ok_or_told c.order_or_ring.result TooShort c.in_ok-written.written c.in_ok-written.ensures.value in
    let placed : Placed own told (length new) (take told.1 new) =
    elim c.match-written.branch [
      | in-Order w ↦ order_placed own c.deref.result.now is _ new c.order_or_ring.result c.order_or_ring.ensures c.in_ok-written.written told w.in-Order.entries some w.word-is w.in-Order.is c.order_or_ring.auto.list
      | in-Ring w ↦ ring_placed own c.deref.result.now is _ new c.order_or_ring.result c.order_or_ring.ensures c.in_ok-written.written told w.in-Ring.entries some w.word-is w.in-Ring.is c.order_or_ring.auto.list
    ] in
    let size : length new ≡ min (length c.args.list.now) 256 = search rules in
    let fits = length-take told.1 new in
    let all = all_numbered own c.deref-2.result.now (ap (map name_of) c.deref-2.ensures.0 ∙ c.names.ensures) in
    record {
      below = λ k within. let node = found_below own told.0 (take told.1 new) placed.found k within in omega (arith, node, all);
      room = omega (arith, fits, size);
    }

pub returns-in_err-written : goal.returns-in_err-written
returns-in_err-written c =
    let own = present_of c.args.self.now in
    let is = ap (map name_of) c.deref.ensures.0 ∙ c.names.ensures in
    let gone = ok_or_gone c.order_or_ring.result TooShort c.in_err-written.field-0.0 c.in_err-written.ensures.value in
    let short = too_few own c.deref.result.now is _ c.order_or_ring.new.list c.order_or_ring.result c.order_or_ring.ensures gone.0 in
    let size : length c.order_or_ring.new.list ≡ min (length c.args.list.now) 256 = search rules in
    absurd (omega (arith, short, size, few_in c.args.self.now, c.count.ensures))

pub returns : goal.returns
returns c =
    let own = present_of c.args.self.now in
    let is = ap (map name_of) c.deref.ensures.0 ∙ c.names.ensures in
    let is_too = ap (map name_of) c.deref-2.ensures.0 ∙ c.names.ensures in
    let told = c.match-written.word in
    let new = c.order_or_ring.new.list in
    let some = ok_or_told c.order_or_ring.result TooShort c.in_ok-written.written c.in_ok-written.ensures.value in
    let placed : Placed own told (length new) (take told.1 new) =
    elim c.match-written.branch [
      | in-Order w ↦ order_placed own c.deref.result.now is _ new c.order_or_ring.result c.order_or_ring.ensures c.in_ok-written.written told w.in-Order.entries some w.word-is w.in-Order.is c.order_or_ring.auto.list
      | in-Ring w ↦ ring_placed own c.deref.result.now is _ new c.order_or_ring.result c.order_or_ring.ensures c.in_ok-written.written told w.in-Ring.entries some w.word-is w.in-Ring.is c.order_or_ring.auto.list
    ] in
    let size : length new ≡ min (length c.args.list.now) 256 = search rules in
    let fits = length-take told.1 new in
    let room : length (take told.1 new) ≤ length c.args.list.now = omega (arith, fits, size) in
    (omega (arith, c.count.ensures), names_listed own c.deref-2.result.now is_too c.args.list.now c.write.new.list _ (take told.1 new) placed.found placed.many room c.write.ensures c.delaying.ensures)
