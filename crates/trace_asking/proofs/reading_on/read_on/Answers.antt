use Rattle.trace_asking.proofs.Words.{arith}
use Rattle.trace_asking.proofs.ReadingOn.{ends_behind, goes_on_behind, has_read_none, reads_last, stops_behind}
use Rattle.trace_asking.proofs.reading_on.read_on.Goals as goal

pub loop-more-init : goal.loop-more-init
loop-more-init g c whole logged gave = has_read_none (g.S.Source.story whole) logged _ gave

pub loop-more-preserved : goal.loop-more-preserved
loop-more-preserved g c whole logged gave =
    let had = c.loop-more.invariant whole logged gave in
    let next = c.in-Ok-true.ensures whole _ had.gave in
    reads_last (g.S.Source.story whole) logged _ _ c.loop-more.more _ had (rw (c.in-Ok-true.field-0-test) at next)

pub returns-in-Ok-false : goal.returns-in-Ok-false
returns-in-Ok-false g c whole logged gave =
    let had = c.loop-more.invariant whole logged gave in
    let ended = rw c.in-Ok-false.field-0-test at (c.in-Ok-false.ensures whole _ had.gave) in
    ends_behind (g.S.Source.story whole) logged c.args.most _ _ c.loop-more.more (omega arith) had ended

pub returns : goal.returns
returns g c whole logged gave =
    goes_on_behind (g.S.Source.story whole) logged c.args.most _ c.loop-more.more (omega arith)
    (c.loop-more.invariant whole logged gave)

pub returns-in-Err : goal.returns-in-Err
returns-in-Err g c whole logged gave =
    stops_behind (g.S.Source.story whole) logged c.args.most c.loop-more.source c.loop-more.more (omega arith)
    (c.loop-more.invariant whole logged gave)
