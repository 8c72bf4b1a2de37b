use Rattle.std.proofs.Common.{◌≡◌, ◌<◌, ◌++◌, [], map, length, get_or, take, sym, ap, ◌∙◌, lit<, arith}
use Rattle.std.proofs.lemmas.List.{length-map, map_push}
use Rattle.ledger.specs.Nodes.{nodes_of, run_of_names}
use Rattle.ledger.specs.Tests.{threads}
use Rattle.present.specs.Data.{actions_in}
use Rattle.replay.specs.Names.{name_of}
use Rattle.replay.specs.Views.{noted_in, present_of}
use Rattle.replay.proofs.Numbered.{nodes_bound, nodes_more, run_counted, run_goes_on}
use Rattle.replay.proofs.Stating.{few_in, thread_viewed}
use Rattle.replay.proofs.state.State.names.Goals as goal

pub push-requires : goal.push-requires
push-requires c =
    let state = c.args.self.now in
    let own = present_of state in
    let t = c.loop-thread.thread in
    let below : t < 8 = omega arith in
    let noted = ap length (thread_viewed noted_in state t (get_or state.threads t c.own-item.result) [] (omega (arith, c.type_inv.own-items, c.loop-thread-test.true)) (ap (get_or state.threads t) c.own-item.is)) in
    let counted = run_counted (nodes_of (actions_in own) (take t threads)) c.loop-position.names.items t c.loop-position.position c.loop-position.invariant in
    (lit< tt, omega (arith, counted, noted, c.len-position-end.ensures, nodes_bound own t below, few_in state, c.loop-position-test.true))

pub loop-position-preserved : goal.loop-position-preserved
loop-position-preserved c =
    let names = c.loop-position.names.items in
    let t = c.loop-thread.thread in
    let p = c.loop-position.position in
    run_goes_on (nodes_of (actions_in (present_of c.args.self.now)) (take t threads)) (map name_of names) _ t p c.loop-position.invariant
    (ap (map name_of) c.push.ensures.items ∙ map_push name_of names (record { thread = t; position = p }))

pub loop-thread-preserved : goal.loop-thread-preserved
loop-thread-preserved c =
    let state = c.args.self.now in
    let own = present_of state in
    let t = c.loop-thread.thread in
    let below : t < 8 = omega (arith, c.type_inv.own-items) in
    let noted = ap length (thread_viewed noted_in state t (get_or state.threads t c.own-item.result) [] (omega (arith, c.type_inv.own-items, c.loop-thread-test.true)) (ap (get_or state.threads t) c.own-item.is)) in
    let all : c.loop-position.position ≡ length (actions_in own t) = omega (arith, noted, c.len-position-end.ensures, length-map (own.noted t) (λ x. x.action)) in
    c.loop-position.invariant
    ∙ ap (λ n. nodes_of (actions_in own) (take t threads) ++ run_of_names t 0 n) all
    ∙ sym (nodes_more (actions_in own) t below)
