use Rattle.std.proofs.Common.{◌≡◌, ◌≤◌, ◌++◌, map, length, drop, ap, ◌∙◌, arith}
use Rattle.std.proofs.lemmas.List.{take_all}
use Rattle.replay.specs.GraphLaws.{named}
use Rattle.replay.proofs.Numbered.{write_more}
use Rattle.replay.proofs.judging.write.Goals as goal

pub loop-place-preserved : goal.loop-place-preserved
loop-place-preserved c =
    write_more (named c.args.names.now) c.args.numbers.now c.args.list.now c.loop-place.list c.loop-place.place c.loop-place-test.true c.requires.room c.loop-place.invariant

pub returns : goal.returns
returns c =
    let numbers = c.args.numbers.now in
    let past : length numbers ≤ c.loop-place.place = omega arith in
    let end : c.loop-place.place ≡ length numbers = omega arith in
    c.loop-place.invariant
    ∙ ap (λ l. map (named c.args.names.now) l ++ drop c.loop-place.place c.args.list.now) (take_all c.loop-place.place numbers past)
    ∙ ap (λ k. map (named c.args.names.now) numbers ++ drop k c.args.list.now) end
