use Rattle.wcp_relay.proofs.Words.{◌≡◌, arith, refl, common_steps, OnOk, OnErr, Received, LiveAccepts, LiveSide}
use Rattle.wcp_relay.proofs.LiveProbes.{HasLog-answers}
use Rattle.wcp_relay.proofs.live_probe.LiveProbe.receive.Goals as goal

pub invariant_of-self : goal.invariant_of-self
invariant_of-self g c =
    let old : LiveSide = record { core = c.self.inside.core; link = c.self.inside.putter } in
    let new : LiveSide = record { core = c.receive.new.self; link = c.self.inside.putter } in
    let accepts : OnOk c.receive.result (LiveAccepts old (Received c.args.message.clock) new) =
    grind (arith, common_steps) in
    let same : OnErr c.receive.result (new.core ≡ old.core) = grind (arith, common_steps) in
    let logged = HasLog-answers c.receive.result old new
    (Received c.args.message.clock) c.self.invariant.logged accepts same refl in
    grind (arith, common_steps, logged)
