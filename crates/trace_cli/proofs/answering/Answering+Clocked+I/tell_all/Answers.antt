use Rattle.std.proofs.Common.{Err, ap, refl}
use Rattle.trace_source.specs.Clocked.{left_of, log_story}
use Rattle.trace_asking.specs.Asking.{answered_by}
use Rattle.trace_asking.proofs.Bridge.{answers_one, stop_all}
use Rattle.trace_cli.proofs.Telling.{can_tell_more, ends, has_told_some, is_cut_off, stops, tells_more}
use Rattle.trace_cli.proofs.answering.Answering+Clocked+I.tell_all.Goals as goal

pub returns-in-Err-clause-tells : goal.returns-in-Err-clause-tells
returns-in-Err-clause-tells g c log format questions before is =
    let remaining = g.I.Read.remaining in
    let some = c.loop.invariant.2 log format questions before is in
    c.tell_unknown.ensures.tells log.form format questions log.bytes before (answered_by c.loop.self.asking)
    (has_told_some (log_story remaining log) log.form format questions log.bytes before _ c.loop.self some
    (record c.loop.self { asking = c.next_answer.new.self }) refl refl)
    (stop_all remaining log questions (answered_by c.loop.self.asking) c.in-Err.fault
    (c.in-Err.ensures.answer log questions some.is.is))
    (λ what same. c.in-Err.ensures.stays what (ap Err same))

pub returns-in_default-clause-tells : goal.returns-in_default-clause-tells
returns-in_default-clause-tells g c log format questions before is =
    let some = c.loop.invariant.2 log format questions before is in
    let all = rw c.in_default.is at (c.in-Ok.ensures.answer log questions some.is.is) in
    ends (log_story g.I.Read.remaining log) log.form format questions log.bytes before _ c.loop.self some _ all.0 all.1

pub tell-requires-clause-place : goal.tell-requires-clause-place
tell-requires-clause-place g c =
    let can = c.loop.invariant.0 in
    let one = rw c.in-Some.is at (c.in-Ok.ensures.answer can.whole c.loop.self.questions.now can.is) in
    one.within

pub returns-in_err-tell-clause-tells : goal.returns-in_err-tell-clause-tells
returns-in_err-tell-clause-tells g c log format questions before is =
    let remaining = g.I.Read.remaining in
    let asking = c.next_answer.new.self in
    let some = c.loop.invariant.2 log format questions before is in
    let one = answers_one remaining log questions asking.source _ c.in-Some.told _
    (rw c.in-Some.is at (c.in-Ok.ensures.answer log questions some.is.is)) in
    is_cut_off (log_story remaining log) log.form format questions log.bytes before _ c.loop.self some asking
    (left_of remaining asking.source) (g.O.Write.contents c.tell.new.output) c.in-Some.told one
    c.from_residual.result c.tell.new.self c.from_residual.ensures.0 c.in_err-tell.ensures.cut_off

pub loop-preserved : goal.loop-preserved
loop-preserved g c =
    let remaining = g.I.Read.remaining in
    let asking = c.next_answer.new.self in
    let can = c.loop.invariant.0 in (
      can_tell_more (log_story remaining) c.loop.self c.tell.new.self asking can.whole
          c.in_ok-tell.ensures.questions c.in_ok-tell.ensures.asking
          (c.in-Ok.ensures.asking can.whole c.loop.self.questions.now can.is),
      c.in_ok-tell.ensures.few,
      λ log format questions before is.
          let some = c.loop.invariant.2 log format questions before is in
          let one = answers_one remaining log questions asking.source _ c.in-Some.told _
          (rw c.in-Some.is at (c.in-Ok.ensures.answer log questions some.is.is)) in
          tells_more (log_story remaining log) log.form format questions log.bytes before _ c.loop.self some asking
          (left_of remaining asking.source) (g.O.Write.contents c.tell.new.output) c.in-Some.told one c.tell.new.self
          c.in_ok-tell.ensures.questions c.in_ok-tell.ensures.format c.in_ok-tell.ensures.asking
          (c.in-Ok.ensures.asking log questions some.is.is) c.in_ok-tell.ensures.written c.in_ok-tell.ensures.status,
    )

pub returns-clause-tells : goal.returns-clause-tells
returns-clause-tells g c log format questions before is =
    stops (log_story g.I.Read.remaining log) log.form format questions log.bytes before _ c.loop.self
    (c.loop.invariant.2 log format questions before is)
