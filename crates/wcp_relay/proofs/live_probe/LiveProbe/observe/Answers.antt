use Rattle.wcp_relay.proofs.Words.{arith, common_steps, Observed, LiveAccepts, LiveSide}
use Rattle.wcp_relay.proofs.LiveProbes.{HasLog-accepts}
use Rattle.wcp_relay.proofs.live_probe.LiveProbe.observe.Goals as goal

pub invariant_of-self : goal.invariant_of-self
invariant_of-self c =
    let old : LiveSide = record { core = c.self.inside.core; link = c.self.inside.putter } in
    let new : LiveSide = record { core = c.observe.new.self; link = c.self.inside.putter } in
    let accepts : LiveAccepts old (Observed c.args.holds) new = grind (arith, common_steps) in
    grind (arith, common_steps, HasLog-accepts old new (Observed c.args.holds) c.self.invariant.logged accepts)
