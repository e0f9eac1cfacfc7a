use Rattle.std.proofs.lemmas.Grind.{common_steps}
use Rattle.trace_detect.proofs.Words.{ap, arith, Judged}
use Rattle.trace_detect.proofs.Silence.{all_log, log_next, silent_at}
use Rattle.trace_detect.proofs.detection.first_silent.Goals as goal

pub returns-then-judges-place-eq0-clause-first : goal.returns-then-judges-place-eq0-clause-first
returns-then-judges-place-eq0-clause-first c conditions logged are =
    let is = ap (λ (j : Judged). j.tally.events) c.index-judges-place.is in
    silent_at conditions logged c.args.judges.now c.loop-place.place c.index-judges-place.result are (omega arith)
    (omega arith) (c.loop-place.invariant conditions logged are)

pub loop-place-preserved : goal.loop-place-preserved
loop-place-preserved c conditions logged are =
    grind (arith, common_steps, c.index-judges-place.is, log_next, c.loop-place.invariant)

pub returns-clause-first : goal.returns-clause-first
returns-clause-first c conditions logged are =
    all_log conditions logged c.args.judges.now c.loop-place.place are (omega arith)
    (c.loop-place.invariant conditions logged are)
