use Rattle.std.proofs.Common.{arith}
use Rattle.trace_rewrite.proofs.Waits.{given}
use Rattle.trace_rewrite.proofs.reader.RewritingReader.give.Goals as goal

pub returns-clause-bytes : goal.returns-clause-bytes
returns-clause-bytes g c =
    given c.args.self.now.taken c.min-count.result c.args.self.now.said.items c.waiting-waiting.result.now
    c.copy_from_slice.new.self _ c.waiting-waiting.ensures
    c.copy_from_slice.ensures.after (omega arith)
