use Rattle.trace_log.proofs.Words.{arith}
use Rattle.trace_log.proofs.Renumbered.{plain-next}
use Rattle.trace_log.proofs.host.is_plain.Goals as goal

pub loop-byte-preserved : goal.loop-byte-preserved
loop-byte-preserved c = plain-next c.args.name.now c.loop-byte.byte-index c.loop-byte-test.true
    (omega arith) c.if-byte-eq34.false c.if-byte-eq92.false c.loop-byte.invariant
