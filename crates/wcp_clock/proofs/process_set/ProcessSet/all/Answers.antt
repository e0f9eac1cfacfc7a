use Rattle.std.proofs.Common.{arith}
use Rattle.wcp_clock.proofs.Marks.{none_below, all_with}
use Rattle.wcp_clock.proofs.process_set.ProcessSet.all.Goals as goal

pub loop-p-init : goal.loop-p-init
loop-p-init c = rw (c.none-all.ensures) none_below

pub loop-p-preserved : goal.loop-p-preserved
loop-p-preserved c = rw (c.with-all.ensures.more (omega arith)) (all_with c.loop-p.all c.loop-p.p c.loop-p.invariant)
