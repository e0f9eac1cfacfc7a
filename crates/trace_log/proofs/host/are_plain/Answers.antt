use Rattle.trace_log.proofs.Words.{sym, subst}
use Rattle.trace_log.specs.Look.{ArePlain}
use Rattle.trace_log.proofs.Falls.{seen_clock-next}
use Rattle.trace_log.proofs.Renumbered.{ArePlain-append}
use Rattle.trace_log.proofs.host.are_plain.Goals as goal

pub loop-member-preserved : goal.loop-member-preserved
loop-member-preserved c =
    subst ArePlain (sym (seen_clock-next c.args.clock.now c.loop-member.member-index c.member-item.result
    c.loop-member-test.true c.member-item.is)) (ArePlain-append _ _ c.loop-member.invariant
    (rw (← c.as_bytes.ensures.value) (c.is_plain.ensures c.if-not-is_plain.false), tt))
