use Rattle.std.proofs.Common.{◌≡◌, ◌||◌, [], length, get_or, map, sym, refl, ap, ◌∙◌, arith}
use Rattle.ledger.specs.Ledgers.{update}
use Rattle.ledger.proofs.Counts.{one_of_all}
use Rattle.replay.specs.Views.{has_bit, noted_in}
use Rattle.replay.proofs.Bits.{bit_written, none_written}
use Rattle.replay.proofs.Stating.{few_more, local_ran, noted_more, present_same, thread_viewed}
use Rattle.replay.proofs.state.State.ran.Goals as goal

pub run-requires : goal.run-requires
run-requires c =
    let state = c.args.self.now in
    let t = c.args.turn.thread in
    let eight : length state.threads ≡ 8 = omega arith in
    let noted = thread_viewed noted_in state t c.index-self-turn.result [] (omega (arith, eight, c.args.turn.below)) c.index-self-turn.is in
    let no_more = one_of_all (λ u. length (get_or (map noted_in state.threads) u [])) t c.args.turn.below in
    let same = ap (λ own. length (noted_in own)) c.index-self-turn.is in
    omega (arith, ap length noted, no_more, c.requires, same)

pub invariant_of-self : goal.invariant_of-self
invariant_of-self c = record { few = few_more c.args.self.now c.args.turn.thread c.index-self-turn.result c.run.new.self _ (omega arith) c.args.turn.below c.run.ensures.noted c.requires }

pub invariant_of-self-else-delays : goal.invariant_of-self-else-delays
invariant_of-self-else-delays c = record { few = few_more c.args.self.now c.args.turn.thread c.index-self-turn.result c.run.new.self _ (omega arith) c.args.turn.below c.run.ensures.noted c.requires }

pub returns-then-delays : goal.returns-then-delays
returns-then-delays c =
    let state = c.args.self.now in
    let t = c.args.turn.thread in
    let eight : length state.threads ≡ 8 = omega arith in
    let before = get_or state.threads t c.index-self-turn.result in
    let is : before ≡ get_or state.threads t before = ap (get_or state.threads t) c.index-self-turn.is in
    present_same
    (local_ran state t before c.run.new.self c.args.action (omega (arith, eight, c.args.turn.below)) is c.args.turn.line c.run.ensures.local)
    refl
    (noted_more state t before c.run.new.self c.args.action (omega (arith, eight, c.args.turn.below)) is c.run.ensures.noted)
    (bit_written state.delayed t c.args.turn.below ∙ ap (λ b. update (λ u. has_bit u state.delayed) t (has_bit t state.delayed || b)) (sym c.if-delays.true))

pub returns-else-delays : goal.returns-else-delays
returns-else-delays c =
    let state = c.args.self.now in
    let t = c.args.turn.thread in
    let eight : length state.threads ≡ 8 = omega arith in
    let before = get_or state.threads t c.index-self-turn.result in
    let is : before ≡ get_or state.threads t before = ap (get_or state.threads t) c.index-self-turn.is in
    present_same
    (local_ran state t before c.run.new.self c.args.action (omega (arith, eight, c.args.turn.below)) is c.args.turn.line c.run.ensures.local)
    refl
    (noted_more state t before c.run.new.self c.args.action (omega (arith, eight, c.args.turn.below)) is c.run.ensures.noted)
    (none_written (λ u. has_bit u state.delayed) t ∙ ap (λ b. update (λ u. has_bit u state.delayed) t (has_bit t state.delayed || b)) (sym c.if-delays.false))
