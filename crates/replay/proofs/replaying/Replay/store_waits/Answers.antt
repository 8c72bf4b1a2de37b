use Rattle.std.proofs.Common.{◌≡◌, ◌<◌, length, refl, rules}
use Rattle.std.proofs.lemmas.Iterator.{YieldsList-from_range, cases_from_any}
use Rattle.buffers.specs.Lists.{list_of}
use Rattle.replay.proofs.Waiting.{whether_waits}
use Rattle.replay.proofs.replaying.Replay.store_waits.Goals as goal

pub returns : goal.returns
returns g c =
    let lists = g.B.StoreBuffer.lists c.args.self.now.buffer in
    whether_waits lists c.any.result (g.met.B.StoreBuffer.good c.args.self.now.buffer).eight
    (cases_from_any _ _ c.any.result (λ t. 0 < length (list_of lists t)) (λ t. length (list_of lists t) ≡ 0) c.any.ensures.ran (YieldsList-from_range 0 8 8 refl refl) (λ x q k. search rules) (λ x q k. search rules))
