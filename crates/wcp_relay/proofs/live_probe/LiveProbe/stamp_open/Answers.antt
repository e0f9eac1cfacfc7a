use Rattle.wcp_relay.proofs.Words.{◌≡◌, arith, refl, common_steps, OnOk, OnErr, Sent, LiveAccepts, LiveSide}
use Rattle.wcp_relay.proofs.LiveProbes.{HasLog-answers}
use Rattle.wcp_relay.proofs.live_probe.LiveProbe.stamp_open.Goals as goal

pub invariant_of-self : goal.invariant_of-self
invariant_of-self g c =
    let old : LiveSide = record { core = c.self.inside.core; link = c.self.inside.putter } in
    let new : LiveSide = record { core = c.stamp_open.new.self; link = c.self.inside.putter } in
    let accepts : OnOk c.stamp_open.result (LiveAccepts old Sent new) = grind (arith, common_steps) in
    let same : OnErr c.stamp_open.result (new.core ≡ old.core) = grind (arith, common_steps) in
    let logged = HasLog-answers c.stamp_open.result old new Sent c.self.invariant.logged accepts same refl in
    grind (arith, common_steps, logged)
