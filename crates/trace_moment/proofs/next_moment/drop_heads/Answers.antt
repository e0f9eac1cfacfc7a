use Rattle.trace_moment.proofs.Words.{arith}
use Rattle.trace_moment.proofs.KeptRest.{all_dropped}
use Rattle.trace_moment.proofs.next_moment.drop_heads.Goals as goal

pub returns : goal.returns
returns c = all_dropped c.args.queues.now c.loop-q.queues c.loop-q.q c.loop-q.invariant.many
    (omega (arith, c.loop-q.auto.q-end, c.loop-q-test.false, c.loop-q.invariant.many)) c.loop-q.invariant.dropped
