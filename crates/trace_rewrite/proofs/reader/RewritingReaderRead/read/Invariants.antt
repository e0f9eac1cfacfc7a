use Rattle.std.specs.Io.KnownBytes.{Keeps}
use Rattle.trace_rewrite.specs.Remaining.{said_remaining}
use Rattle.trace_rewrite.proofs.reader.RewritingReaderRead.read.Given as goal

abbrev pub invariant-loop : goal.invariant-loop
invariant-loop g l = Keeps (said_remaining g.I.Read.remaining g.R.Rewrite.said l.fn.self)
    (said_remaining g.I.Read.remaining g.R.Rewrite.said l.self)
