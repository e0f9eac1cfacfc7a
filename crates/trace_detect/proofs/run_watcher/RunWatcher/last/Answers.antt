use Rattle.trace_detect.proofs.Words.{ap}
use Rattle.trace_detect.specs.Told.{possible}
use Rattle.trace_detect.proofs.Detecting.{counted_by, none_at_end}
use Rattle.trace_detect.proofs.RunsTaken.{last_definite, last_none, last_possible, no_runs_last}
use Rattle.trace_detect.proofs.run_watcher.RunWatcher.last.Goals as goal

pub returns-then-end : goal.returns-then-end
returns-then-end c conditions logged is =
    last_definite conditions logged c.args.self.now c.end.new.self c.end.result _ is c.end.ensures.runs c.if-end.true
    c.end.ensures.watched c.in_ok-found.ensures

pub returns-then-end-2 : goal.returns-then-end-2
returns-then-end-2 c conditions logged is =
    last_possible conditions logged c.args.self.now.watcher c.end-2.new.self c.end-2.result _
    (no_runs_last conditions logged c.args.self.now c.end.new.self c.end.result is c.end.ensures.runs c.if-end.false
    c.end.ensures.watched)
    is.watching c.end-2.ensures.moment c.if-end-2.true c.end-2.ensures.watched
    (λ moment kept. ap possible (c.in_ok-moment.ensures moment kept))

pub returns : goal.returns
returns c conditions logged is =
    let watcher = c.args.self.now.watcher in
    let no_moment = none_at_end conditions logged watcher c.end-2.new.self c.end-2.result is.watching
    c.end-2.ensures.moment c.if-end-2.false c.end-2.ensures.watched in
    last_none conditions logged c.no_moment_answer.result
    (no_runs_last conditions logged c.args.self.now c.end.new.self c.end.result is c.end.ensures.runs c.if-end.false
    c.end.ensures.watched)
    no_moment
    (c.no_moment_answer.ensures conditions logged (counted_by conditions logged watcher c.end-2.new.self is.watching)
    no_moment)
