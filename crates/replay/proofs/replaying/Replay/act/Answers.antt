use Rattle.std.proofs.Common.{sym, refl, subst}
use Rattle.replay.specs.Offers.{Acted}
use Rattle.replay.specs.Views.{held}
use Rattle.replay.proofs.Steps.{load_held}
use Rattle.replay.proofs.replaying.Replay.act.Goals as goal

pub returns-in-Load : goal.returns-in-Load
returns-in-Load g c =
    let h = held (g.B.StoreBuffer.lists c.args.self.now.buffer) c.args.self.now.state in
    let t = c.args.turn in
    record {
      action =
          subst (λ i. Acted h t.thread t.number i c.load.result h) (sym c.in-Load.is)
          (record { alone = c.load.ensures c.in-Load.register; held = load_held h t.thread t.number c.in-Load.register c.in-Load.address c.load.result });
      rules = refl;
      program = refl;
    }
