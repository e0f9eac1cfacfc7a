use Rattle.std.proofs.Common.{arith}
use Rattle.wcp_saved.proofs.Marks.{flags_back}
use Rattle.wcp_saved.proofs.reading.marks_of.Goals as goal

pub returns : goal.returns
returns c = λ marks e. flags_back c.loop-p.marks marks c.args.words.now c.loop-p.invariant.long (omega arith) e
    (λ k within. c.loop-p.invariant.done k (omega arith))
