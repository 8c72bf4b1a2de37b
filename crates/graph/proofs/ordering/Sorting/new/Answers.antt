use Rattle.std.proofs.Common.{◌≡◌, ℕ, Bool, sym, subst, arith}
use Rattle.graph.proofs.Placing.{First, first_none, first_more, first_blocked, nothing_begun, ready_next, none_ready}
use Rattle.graph.proofs.ordering.Sorting.new.Goals as goal

pub loop-place-init : goal.loop-place-init
loop-place-init g c = first_none _ _ _ c.new-standings.ensures

pub loop-place-preserved : goal.loop-place-preserved
loop-place-preserved g c =
    rw c.push.ensures.items
    (first_more _ _ _ _ _ c.loop-place.invariant c.first_standing.ensures.unplaced c.first_standing.ensures.stands)

pub loop-node-init : goal.loop-node-init
loop-node-init g c =
    let joins : ℕ → ℕ → Bool = g.G.Graph.joins c.args.graph.now in
    let size : ℕ = g.G.Graph.size c.args.graph.now in
    let all : c.loop-place.place ≡ size = omega (arith, c.nodes-place-end.ensures) in
    let first : First joins size size c.loop-place.standings.items =
    subst (λ (n : ℕ). First joins size n c.loop-place.standings.items) all c.loop-place.invariant in
    nothing_begun _ _ _ (g.G.Graph.laws.few c.args.graph.now) c.new.ensures first.unmarked (first_blocked _ _ _ first)

-- The lowest node that is ready comes next.
pub place-requires-clause-next : goal.place-requires-clause-next
place-requires-clause-next g c =
    ready_next _ _ _ _ c.loop-node.invariant (λ u w leads. (g.G.Graph.laws.inside c.args.graph.now u w leads).0) (sym c.in-Some.ensures)

pub returns-clause-stuck : goal.returns-clause-stuck
returns-clause-stuck g c = none_ready _ (sym c.in_default.ensures)
