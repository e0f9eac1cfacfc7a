use Rattle.std.proofs.Common.{arith}
use Rattle.wcp_saved.proofs.Marks.{marks_by_places}
use Rattle.wcp_saved.proofs.writing.marks_of.Goals as goal

pub returns : goal.returns
returns c = marks_by_places c.loop-p.marks c.args.watched.now c.loop-p.invariant.long
    (λ k within. c.loop-p.invariant.done k (omega arith))
