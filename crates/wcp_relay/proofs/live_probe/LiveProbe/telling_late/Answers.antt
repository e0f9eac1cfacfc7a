use Rattle.wcp_relay.proofs.Words.{List, arith, common_steps, Call, LiveFor, LiveSide}
use Rattle.wcp_relay.proofs.LiveProbes.{HasLog-stays}
use Rattle.wcp_relay.proofs.live_probe.LiveProbe.telling_late.Goals as goal

pub invariant_of-result : goal.invariant_of-result
invariant_of-result c =
    let old : LiveSide = record { core = c.self.inside.core; link = c.self.inside.putter } in
    let new : LiveSide = record { core = c.self.inside.core; link = c.ringing_late.result } in
    let stands : (log : List Call) → LiveFor old log → LiveFor new log = grind (arith, common_steps) in
    grind (arith, common_steps, HasLog-stays old new c.self.invariant.logged stands)
