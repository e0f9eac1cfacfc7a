use Rattle.trace_moment.proofs.Words.{◌<◌, length, arith}
use Rattle.trace_moment.proofs.KeptRest.{AreLeft-rises, IsUnderFloors-rises}
use Rattle.trace_moment.proofs.elimination.raise_all.Goals as goal

pub loop-q-preserved : goal.loop-q-preserved
loop-q-preserved c =
    let within : c.loop-q.q < length c.args.queues.now = omega (arith, c.loop-q.auto.q-end, c.loop-q-test.true) in
    record {
      left = λ taken all are last left. AreLeft-rises c.args.queues.now c.loop-q.q c.loop-q.floors c.raise.new.floors
          within c.raise.ensures all are taken last (c.loop-q.invariant.left taken all are last left);
      under = λ all are. IsUnderFloors-rises c.args.queues.now c.loop-q.q c.loop-q.floors c.raise.new.floors within
          c.raise.ensures all are (c.loop-q.invariant.under all are);
    }
