use Rattle.wcp_relay.proofs.Words.{List, arith, common_steps, Call, LiveFor, LiveSide}
use Rattle.wcp_relay.proofs.LiveProbes.{HasLog-stays, closed_rises}
use Rattle.wcp_relay.proofs.live_probe.LiveProbe.close.Goals as goal

pub invariant_of-result : goal.invariant_of-result
invariant_of-result c =
    let probe : LiveSide = record { core = c.self.inside.core; link = c.self.inside.putter } in
    grind (
      arith,
      common_steps,
      closed_rises probe c.end.result.put c.self.inside.core.emitted c.self.invariant.within c.self.invariant.logged,
    )

pub invariant_of-self : goal.invariant_of-self
invariant_of-self c =
    let old : LiveSide = record { core = c.self.inside.core; link = c.self.inside.putter } in
    let new : LiveSide = record { core = c.self.inside.core; link = c.try_put.new.self } in
    let stands : (log : List Call) → LiveFor old log → LiveFor new log = grind (arith, common_steps) in
    grind (arith, common_steps, HasLog-stays old new c.self.invariant.logged stands)
