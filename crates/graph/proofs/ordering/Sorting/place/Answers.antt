use Rattle.std.proofs.Common.{ℕ, ap, ◌∙◌, refl}
use Rattle.arrayvec.specs.ArrayVec.{ArrayVec}
use Rattle.graph.specs.declared.ordering.Standing.TheVariants.{Placed}
use Rattle.graph.specs.Placing.{marks}
use Rattle.graph.proofs.Blocking.{written}
use Rattle.graph.proofs.Placing.{put_movable, put_begun}
use Rattle.graph.proofs.ordering.Sorting.place.Goals as goal

-- Every blocker blocks still, unless it stands at the node.
pub move_up-requires-clause-movable : goal.move_up-requires-clause-movable
move_up-requires-clause-movable g c =
    rw (written _ _ _ c.args.node Placed c.deref_mut.ensures.value refl)
    (put_movable _ _ c.args.self.now c.args.node c.requires.begun c.requires.next.could.node)

pub returns-clause-begun : goal.returns-clause-begun
returns-clause-begun g c =
    put_begun _ _ c.args.self.now c.move_up.new.self c.args.node c.requires.begun c.requires.next
    (ap (λ (o : ArrayVec ℕ). o.items) c.move_up.ensures.order ∙ c.push.ensures.items)
    (c.move_up.ensures.placed ∙ ap marks (written _ _ _ c.args.node Placed c.deref_mut.ensures.value refl))
    c.move_up.ensures.blocked
