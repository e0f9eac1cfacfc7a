use Rattle.trace_detect.proofs.Detecting.{counted_by, last_found, none_at_end}
use Rattle.trace_detect.proofs.detection.last_answer.Goals as goal

pub returns-then-end-clause-answer : goal.returns-then-end-clause-answer
returns-then-end-clause-answer c conditions logged watching =
    last_found conditions logged c.args.watcher.now c.end.new.self c.end.result _ watching c.end.ensures.moment
    c.if-end.true c.end.ensures.watched c.in_ok-found_answer.ensures

pub returns-clause-answer : goal.returns-clause-answer
returns-clause-answer c conditions logged watching =
    c.no_moment_answer.ensures conditions logged
    (counted_by conditions logged c.args.watcher.now c.end.new.self watching)
    (none_at_end conditions logged c.args.watcher.now c.end.new.self c.end.result watching c.end.ensures.moment
    c.if-end.false c.end.ensures.watched)
