use Rattle.wcp_relay.proofs.Words.{◌≡◌, arith, common_steps, OnErr, Received, LiveAccepts, LiveSide}
use Rattle.std.specs.Prelude.{false, IsTrue, IfOk}
use Rattle.wcp_relay.proofs.LiveProbes.{HasLog-takes}
use Rattle.wcp_relay.proofs.live_probe.LiveProbe.take_open.Goals as goal

pub invariant_of-self : goal.invariant_of-self
invariant_of-self g c =
    let old : LiveSide = record { core = c.self.inside.core; link = c.self.inside.putter } in
    let new : LiveSide = record { core = c.take_open.new.self; link = c.self.inside.putter } in
    let accepts : IfOk c.take_open.result (λ counted. IsTrue counted
    → LiveAccepts old (Received c.args.message.now.clock) new) = grind (arith, common_steps) in
    let own : IfOk c.take_open.result (λ counted. counted ≡ false → new ≡ old) = grind (arith, common_steps) in
    let same : OnErr c.take_open.result (new ≡ old) = grind (arith, common_steps) in
    let logged = HasLog-takes c.take_open.result old new
    (Received c.args.message.now.clock) c.self.invariant.logged accepts own same in
    grind (arith, common_steps, logged)
