use Rattle.std.proofs.Common.{arith}
use Rattle.wcp_clock.proofs.Marks.{first_none, first_more, first_all, first_within}
use Rattle.wcp_clock.proofs.process_set.ProcessSet.these.Goals as goal

pub loop-p-init : goal.loop-p-init
loop-p-init c = rw (c.none-these.ensures) (first_none c.args.numbers.now)

pub loop-p-preserved : goal.loop-p-preserved
loop-p-preserved c = rw (c.with-these.ensures.more (omega arith))
    (first_more c.args.numbers.now c.loop-p.p-index c.loop-p.these c.loop-p.invariant c.if-p-ge-MAX_PROCS.false)

pub returns-clause-all : goal.returns-clause-all
returns-clause-all c = λ within. first_all c.args.numbers.now c.loop-p.p-index c.loop-p.these c.loop-p.invariant
    (omega arith)

pub returns-clause-none : goal.returns-clause-none
returns-clause-none c = λ any. absurd (first_within c.args.numbers.now c.loop-p.p-index c.loop-p.these
    c.loop-p.invariant (omega arith) any)
