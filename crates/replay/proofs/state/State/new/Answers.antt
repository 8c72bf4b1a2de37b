use Rattle.std.proofs.Common.{ℕ, ◌<◌, length, get_or, rules, arith}
use Rattle.replay.proofs.Stating.{AtStart, fresh_from, none_kept}
use Rattle.replay.specs.declared.thread.Thread.{Thread}
use Rattle.replay.proofs.state.State.new.Goals as goal

pub invariant_of-result : goal.invariant_of-result
invariant_of-result c =
    let threads = c.in_ok-threads.threads in
    let made = c.in_ok-threads.ensures.ok in
    let each : (i : ℕ) (e : Thread) → i < length threads → AtStart (get_or threads i e) =
    λ i e within. let one = made.at i e (omega (arith, within, made.long)) in record { local = search rules; noted = search rules } in
    record { few = none_kept threads made.long each }

pub returns : goal.returns
returns c =
    let threads = c.in_ok-threads.threads in
    let made = c.in_ok-threads.ensures.ok in
    let each : (i : ℕ) (e : Thread) → i < length threads → AtStart (get_or threads i e) =
    λ i e within. let one = made.at i e (omega (arith, within, made.long)) in record { local = search rules; noted = search rules } in
    fresh_from threads each
