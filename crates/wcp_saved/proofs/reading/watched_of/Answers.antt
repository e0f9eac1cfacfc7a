use Rattle.std.proofs.Common.{arith}
use Rattle.wcp_saved.proofs.Marks.{none_marked, more_marked, same_marked, all_marked}
use Rattle.wcp_saved.proofs.reading.watched_of.Goals as goal
use Rattle.wcp_saved.proofs.reading.watched_of.Goals.{then-marks-p, else-marks-p}

pub loop-p-init : goal.loop-p-init
loop-p-init c = rw (c.none-watched.ensures) (none_marked c.args.marks.now)

pub returns : goal.returns
returns c = λ watched few e. all_marked c.loop-p.watched watched c.args.marks.now c.loop-p.p (omega arith) few e
    c.loop-p.invariant

pub loop-p-preserved : goal.loop-p-preserved
loop-p-preserved c = elim c.if-marks-p.branch [
  | then-marks-p w ↦ rw (w.watched-is, w.with-watched.ensures.more (omega (arith, c.loop-p-test.true)))
      (more_marked c.loop-p.watched c.args.marks.now c.loop-p.p (w.if-marks-p.true) c.loop-p.invariant)
  | else-marks-p w ↦ rw w.watched-is
      (same_marked c.loop-p.watched c.args.marks.now c.loop-p.p (w.if-marks-p.false) c.loop-p.invariant)
]
