use Rattle.std.proofs.Common.{◌≡◌, ℕ, Bool, List, get_or, subst, refl, arith, rules}
use Rattle.graph.specs.declared.ordering.Standing.{Standing}
use Rattle.graph.specs.declared.ordering.Standing.TheVariants.{Placed, Behind}
use Rattle.graph.specs.Placing.{marks, Stands}
use Rattle.graph.proofs.Blocking.{moved_set, moved_stay, written}
use Rattle.graph.proofs.ordering.Sorting.move_up.Goals as goal
use Rattle.graph.proofs.ordering.Sorting.move_up.Goals.{then-eq, else-eq}

-- The node stands behind `at`, and moves, or it stands elsewhere.
pub loop-node-preserved : goal.loop-node-preserved
loop-node-preserved g c =
    let joins : ℕ → ℕ → Bool = g.G.Graph.joins c.args.graph.now in
    let size : ℕ = g.G.Graph.size c.args.graph.now in
    let placed : List Bool = marks c.args.self.now.standings.items in
    let node : ℕ = c.loop-node.node in
    let standings : List Standing = c.loop-node.self.standings.items in
    elim c.if-eq.branch [
      | then-eq w ↦
          let was : get_or standings node Placed ≡ Behind c.args.at = search rules in
          record {
            moved = rw (w.self-is, written _ _ _ node w.standing_from.result w.deref_mut.ensures.value refl)
                (moved_set joins size placed c.args.at node standings w.standing_from.result c.loop-node.invariant.moved (omega arith) was
                w.standing_from.ensures.unplaced (subst (λ (ms : List Bool). Stands joins size ms node w.standing_from.result) c.loop-node.invariant.moved.same w.standing_from.ensures.stands));
            order = rw w.self-is c.loop-node.invariant.order;
          }
      | else-eq w ↦
          let apart : get_or standings node Placed ≡ Behind c.args.at → ⊥ = search rules in
          record {
            moved = rw w.self-is (moved_stay joins size placed c.args.at node standings c.loop-node.invariant.moved (omega arith) apart);
            order = rw w.self-is c.loop-node.invariant.order;
          }
    ]
