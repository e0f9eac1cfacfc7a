use Rattle.std.proofs.Common.{◌∙◌, ◌<◌, ap, arith, length, true}
use Rattle.std.proofs.lemmas.List.{length-set}
use Rattle.trace_runs.specs.Kept.{watch_kept}
use Rattle.trace_runs.proofs.KeptSteps.{watched_set}
use Rattle.trace_runs.proofs.KeptNext.{waiting_dropped}
use Rattle.trace_runs.proofs.KeptTouched.{left_dropped, touched_dropped}
use Rattle.trace_runs.proofs.elimination.eliminate.Goals as goal

pub loop-host-smaller-in-Some-first_passed : goal.loop-host-smaller-in-Some-first_passed
loop-host-smaller-in-Some-first_passed c =
    let inside : c.in-Some-first_passed.passed < length c.loop-host.touched =
    omega (arith, c.in-Some-first_passed.ensures.within, c.loop-host.invariant.in_step) in
    left_dropped c.loop-host.touched c.loop-host.queues c.in-Some-first_passed.passed c.index-queues-passed.result
    c.drop_first.new.self c.in-Some-first_passed.ensures.within inside c.in-Some-first_passed.ensures.passed
    c.drop_first.ensures

pub loop-host-preserved-in-Some-first_passed : goal.loop-host-preserved-in-Some-first_passed
loop-host-preserved-in-Some-first_passed c =
    let inside : c.in-Some-first_passed.passed < length c.loop-host.touched =
    omega (arith, c.in-Some-first_passed.ensures.within, c.loop-host.invariant.in_step) in
    record {
      in_step =
          omega (
            arith,
            c.loop-host.invariant.in_step,
            length-set c.loop-host.touched c.in-Some-first_passed.passed true,
            length-set c.loop-host.queues c.in-Some-first_passed.passed c.drop_first.new.self,
          );
      settled = λ but. touched_dropped c.loop-host.touched c.loop-host.queues c.in-Some-first_passed.passed
          c.index-queues-passed.result c.drop_first.new.self c.in-Some-first_passed.ensures.within inside
          (c.loop-host.invariant.settled but);
      waiting = λ taken has. waiting_dropped c.loop-host.queues c.in-Some-first_passed.passed
          c.index-queues-passed.result c.drop_first.new.self c.in-Some-first_passed.ensures.within taken
          (c.loop-host.invariant.waiting taken has) c.in-Some-first_passed.ensures.passed c.drop_first.ensures;
      watched = watched_set c.loop-host.queues c.in-Some-first_passed.passed c.index-queues-passed.result
          c.drop_first.new.self (ap watch_kept c.drop_first.ensures) ∙ c.loop-host.invariant.watched;
    }
