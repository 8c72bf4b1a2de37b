use Rattle.std.proofs.Common.{◌≡◌, ℕ, ◌+◌, ◌<◌, Bool, true, List, ◌∷◌, [], length, get_or, drop, set, sym, ap, subst, arith}
use Rattle.graph.specs.Placing.{missing}
use Rattle.std.proofs.lemmas.List.{drop-append-le, length-append, length-drop}
use Rattle.graph.proofs.Counting.{missing_all, missing_some, missing_mark}
use Rattle.graph.proofs.Reaching.{searched_first, next_of, searched_taken, searched_followed, searched_all, Following, following_put, following_start, following_marked, following_apart}
use Rattle.graph.proofs.search.reached.Goals as goal
use Rattle.graph.proofs.search.reached.Goals.{then-not-marks-to+then-edge+then-to-start, then-not-marks-to+then-edge+else-to-start, else-not-marks-to}
use Rattle.graph.proofs.search.reached.Goals.{else-not-marks-to-via-then-not-marks-to+else-edge, else-not-marks-to-via-else-not-marks-to}

pub loop-next-init : goal.loop-next-init
loop-next-init g c = record {
  searched = searched_first _ _ _ _ c.new-found.ensures c.push.ensures.items;
  inside = omega arith;
  room = omega (arith, missing_all 256 256 (omega arith), ap (λ (ns : List ℕ). length ns) c.new-found.ensures);
}

-- The edges out of the node that was taken are followed now.
pub loop-to-init : goal.loop-to-init
loop-to-init g c =
    let within : c.loop-next.next < length c.loop-next.found.items = omega arith in
    record {
      following = record {
        searched = searched_taken _ _ _ _ _ _ (next_of _ _ _ 0 c.deref.ensures.0 within) c.loop-next.invariant.searched;
        edges = λ w l leads. absurd (omega arith);
        room = omega arith;
      };
      inside = omega (arith, within);
      room = c.loop-next.invariant.room;
    }

-- No edge leads past the last node.
pub loop-next-preserved : goal.loop-next-preserved
loop-next-preserved g c = record {
  searched = searched_followed _ _ _ _ _ c.loop-to.invariant.following.searched
      (λ w leads. c.loop-to.invariant.following.edges w (omega (arith, g.G.Graph.laws.inside c.args.graph.now _ w leads)) leads);
  inside = c.loop-to.invariant.inside;
  room = c.loop-to.invariant.room;
}

-- A node that is not marked leaves room for one more on the list.
pub push-requires-then-to-start : goal.push-requires-then-to-start
push-requires-then-to-start g c =
    let some = missing_some 256 c.loop-to.marks c.loop-to.to (omega (arith, c.loop-to.invariant.following.searched.size))
    (omega (arith, g.G.Graph.laws.few c.args.graph.now)) c.if-not-marks-to.true in
    (omega arith, omega (arith, some, c.loop-to.invariant.room))

-- A node that is not marked, and to which an edge leads, is marked and put on the list, unless the search began there. Any
-- other is passed over.
pub loop-to-preserved : goal.loop-to-preserved
loop-to-preserved g c =
    let joins : ℕ → ℕ → Bool = g.G.Graph.joins c.args.graph.now in
    let start : ℕ = c.args.start in
    let at : ℕ = c.loop-to.to in
    let marks : List Bool = c.loop-to.marks in
    let next : ℕ = c.loop-next.next + 1 in
    let found : List ℕ = c.loop-to.found.items in
    let from : ℕ = get_or c.deref.result.now c.loop-next.next 0 in
    let n : ℕ = length (drop next c.loop-next.found.items) + missing 256 c.loop-next.marks in
    let few : at < 256 = omega (arith, g.G.Graph.laws.few c.args.graph.now) in
    let i = c.loop-to.invariant in
    let size : length marks ≡ 256 = i.following.searched.size in
    elim c.if-not-marks-to.branch [
      | then-not-marks-to+then-edge+then-to-start w ↦
          let new = w.if-not-marks-to.true in
          rw (w.marks-is, w.found-is, w.push-then-to-start.ensures.items) (record {
            following = subst (λ (ns : List ℕ). Following joins start from n (at + 1) (set marks at true) ns)
                (sym (drop-append-le next found (at ∷ []) i.inside))
                (following_put joins start from n at marks (drop next found) i.following few new w.if-edge.ensures);
            inside = omega (arith, length-append found (at ∷ []), i.inside);
            room = omega (arith, length-append found (at ∷ []), i.room, missing_mark 256 marks at (omega (arith, size)) few new);
          })
      | then-not-marks-to+then-edge+else-to-start w ↦
          let new = w.if-not-marks-to.true in
          rw (w.marks-is, w.found-is) (record {
            following = following_start joins start from n at marks (drop next found) i.following few new w.if-edge.ensures w.if-to-start.false;
            inside = i.inside;
            room = omega (arith, i.room, missing_mark 256 marks at (omega (arith, size)) few new);
          })
      | else-not-marks-to w ↦
          rw (w.marks-is, w.found-is) (record {
            following = elim w.else-not-marks-to.branch [
              | else-not-marks-to-via-then-not-marks-to+else-edge w' ↦
                  following_apart joins start from n at marks (drop next found) i.following w'.if-edge.ensures
              | else-not-marks-to-via-else-not-marks-to w' ↦
                  following_marked joins start from n at marks (drop next found) i.following w'.if-not-marks-to.false
            ];
            inside = i.inside;
            room = i.room;
          })
    ]

-- No node is left whose edges are still to be followed.
pub returns-clause-complete : goal.returns-clause-complete
returns-clause-complete g c =
    searched_all _ _ _ _ c.loop-next.invariant.searched
    (λ v at. absurd (omega (arith, at.1, length-drop c.loop-next.next c.loop-next.found.items)))
