use Rattle.std.proofs.Common.{ℕ, ◌≤◌, Bool, List, length, sym, ap, ◌∙◌, arith}
use Rattle.std.proofs.lemmas.List.{length-take-le}
use Rattle.graph.specs.Sorting.{Ordered}
use Rattle.graph.specs.declared.ordering.Sorting.{Sorting}
use Rattle.graph.proofs.Placing.{begun_ordered, copied_front, found_unplaced, stuck_edge, stuck_closed}
use Rattle.graph.proofs.Turning.{written_ringed}
use Rattle.graph.proofs.ordering.order_or_ring.Goals as goal

-- The order is as long as the part of the list that it is copied to.
pub copy_from_slice-requires : goal.copy_from_slice-requires
copy_from_slice-requires g c =
    let order : Ordered (g.G.Graph.joins c.args.graph.now) (g.G.Graph.size c.args.graph.now) c.new-sorting.result.order.items =
    begun_ordered _ _ c.new-sorting.result c.new-sorting.ensures.begun (sym c.in-None.ensures) in
    length-take-le _ _ (omega arith) ∙ c.nodes-size.ensures ∙ sym order.many
    ∙ ap (λ (ns : List ℕ). length ns) (sym c.deref.ensures.0)

-- Every node is placed, and the order is copied.
pub returns-in-None : goal.returns-in-None
returns-in-None g c =
    let joins : ℕ → ℕ → Bool = g.G.Graph.joins c.args.graph.now in
    let size : ℕ = g.G.Graph.size c.args.graph.now in
    let s : Sorting = c.new-sorting.result in
    let order : Ordered joins size s.order.items = begun_ordered joins size s c.new-sorting.ensures.begun (sym c.in-None.ensures) in
    let copied = c.copy_from_slice.ensures.after ∙ c.deref.ensures.0 in (
      omega (arith, c.nodes-size.ensures),
      rw copied (copied_front (Ordered joins size) c.nodes-size.result c.args.list.now s.order.items (order.many ∙ sym c.nodes-size.ensures) order),
    )

-- The node that is found is not placed.
pub on_ring-requires : goal.on_ring-requires
on_ring-requires g c = found_unplaced _ _ (sym c.in-Some.ensures)

-- The way back from a node that is not placed has come to a ring, and this is written.
pub returns-in-Some : goal.returns-in-Some
returns-in-Some g c =
    let joins : ℕ → ℕ → Bool = g.G.Graph.joins c.args.graph.now in
    let s : Sorting = c.new-sorting.result in
    let begun = c.new-sorting.ensures.begun in
    let stuck = c.new-sorting.ensures.stuck in
    let turn = c.ring_of-ring.ensures in
    let same = c.write_back.auto.list in
    let size = c.nodes-size.ensures in
    let fits : c.ring_of-ring.result.count ≤ length c.write_back.new.list = omega (arith, turn.within, begun.sized) in
    let edges = stuck_edge _ _ s begun stuck in
    let ring = written_ringed joins s.standings.items _ _ _ (stuck_closed _ _ s begun stuck) edges turn fits c.write_back.ensures.written in
    (omega (arith, c.nodes-size.ensures), record { within = fits; front = ring; later = c.write_back.ensures.later })
