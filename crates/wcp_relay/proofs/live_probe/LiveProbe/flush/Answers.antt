use Rattle.wcp_relay.proofs.Words.{List, arith, common_steps, Call, LiveFor, LiveSide}
use Rattle.wcp_relay.proofs.LiveProbes.{HasLog-stays}
use Rattle.wcp_relay.proofs.live_probe.LiveProbe.flush.Goals as goal

pub invariant_of-self : goal.invariant_of-self
invariant_of-self c =
    let old : LiveSide = record { core = c.self.inside.core; link = c.self.inside.putter } in
    let new : LiveSide = record { core = c.was_put.new.self; link = c.try_put.new.self } in
    let stands : (log : List Call) → LiveFor old log → LiveFor new log = grind (arith, common_steps) in
    grind (arith, common_steps, HasLog-stays old new c.self.invariant.logged stands)

pub invariant_of-self-in-Err : goal.invariant_of-self-in-Err
invariant_of-self-in-Err c =
    let old : LiveSide = record { core = c.self.inside.core; link = c.self.inside.putter } in
    let new : LiveSide = record { core = c.self.inside.core; link = c.try_put.new.self } in
    let stands : (log : List Call) → LiveFor old log → LiveFor new log = grind (arith, common_steps) in
    grind (arith, common_steps, HasLog-stays old new c.self.invariant.logged stands)
