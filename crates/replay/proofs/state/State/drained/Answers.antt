use Rattle.std.proofs.Common.{◌≡◌, ◌<◌, [], map, length, get_or, sym, refl, ap, ◌∙◌, arith}
use Rattle.std.proofs.lemmas.List.{get_or-map}
use Rattle.ledger.specs.Ledgers.{start_local}
use Rattle.present.specs.Calls.{overwriting}
use Rattle.present.specs.Data.{untouched}
use Rattle.replay.specs.Views.{local_of, noted_in, read_of}
use Rattle.replay.proofs.Stating.{blank, changed, has_there, present_same, thread_viewed, unchanged}
use Rattle.replay.proofs.state.State.drained.Goals as goal

pub returns : goal.returns
returns c =
    let state = c.args.self.now in
    let threads = state.threads in
    let t = c.args.name.thread in
    let p = c.args.name.position in
    let before = get_or threads t c.index-self-name.result in
    let is : before ≡ get_or threads t before = ap (get_or threads t) c.index-self-name.is in
    let after = c.overwrite.new.self in
    let here : t < length threads = has_there threads t p c.requires.there in
    let within : c.args.cell < length state.cells = omega arith in
    let local = thread_viewed local_of state t before start_local here is in
    let noted = thread_viewed noted_in state t before [] here is in
    let source = ap (λ r. r.source) (sym (get_or-map read_of state.cells c.args.cell blank untouched within)) in
    present_same
    (unchanged local_of threads t after start_local (c.overwrite.ensures.local ∙ local))
    (changed read_of state.cells c.args.cell _ _ untouched within refl)
    (changed noted_in threads t after _ [] here (c.overwrite.ensures.noted ∙ ap (overwriting _ p) noted ∙ ap (λ s. overwriting s p (get_or (map noted_in threads) t [])) source))
    refl
