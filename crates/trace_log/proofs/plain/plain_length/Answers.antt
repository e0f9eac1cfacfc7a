use Rattle.trace_log.proofs.Words.{arith}
use Rattle.trace_log.proofs.Renumbered.{plain-next}
use Rattle.trace_log.proofs.plain.plain_length.Goals as goal

pub loop-place-preserved : goal.loop-place-preserved
loop-place-preserved c = plain-next c.args.text.now c.loop-place.place c.loop-place-test.true
    (omega arith) c.if-byte-eq34.false c.if-byte-eq92.false c.loop-place.invariant
