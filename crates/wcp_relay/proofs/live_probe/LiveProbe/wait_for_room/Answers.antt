use Rattle.wcp_relay.proofs.Words.{List, arith, common_steps, Call, LiveFor, LiveSide}
use Rattle.wcp_relay.proofs.LiveProbes.{HasLog-stays}
use Rattle.wcp_relay.proofs.live_probe.LiveProbe.wait_for_room.Goals as goal

pub invariant_of-self : goal.invariant_of-self
invariant_of-self g c =
    let old : LiveSide = record { core = c.self.inside.core; link = c.self.inside.putter } in
    let new : LiveSide = record { core = c.self.inside.core; link = c.linked.new.self } in
    let stands : (log : List Call) → LiveFor old log → LiveFor new log = grind (arith, common_steps) in
    grind (arith, common_steps, HasLog-stays old new c.self.invariant.logged stands)

pub invariant_of-self-2 : goal.invariant_of-self-2
invariant_of-self-2 g c =
    let old : LiveSide = record { core = c.self.inside.core; link = c.self.inside.putter } in
    let new : LiveSide = record { core = c.self.inside.core; link = c.linked.new.self } in
    let stands : (log : List Call) → LiveFor old log → LiveFor new log = grind (arith, common_steps) in
    grind (arith, common_steps, HasLog-stays old new c.self.invariant.logged stands)
