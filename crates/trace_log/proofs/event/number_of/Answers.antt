use Rattle.std.proofs.Common.{sym, ◌∙◌}
use Rattle.trace_log.proofs.Clocks.{no_number_of, number_same, number_other}
use Rattle.trace_log.proofs.event.number_of.Goals as goal
use Rattle.trace_log.proofs.event.number_of.Goals.{then-eq, else-eq}

pub loop-member-init : goal.loop-member-init
loop-member-init c = no_number_of c.args.host.now

pub loop-member-preserved : goal.loop-member-preserved
loop-member-preserved c = elim c.if-eq.branch [
  | then-eq w ↦
      w.number-is ∙ w.max-number.ensures
      ∙ number_same c.args.host.now c.args.clock.now c.loop-member.member-index c.member-item.result c.as_str.result.now
      c.loop-member.number c.loop-member-test.true c.member-item.is c.as_str.ensures.value
      (sym w.if-eq.true ∙ c.eq.ensures) c.loop-member.invariant
  | else-eq w ↦
      w.number-is
      ∙ number_other c.args.host.now c.args.clock.now c.loop-member.member-index c.member-item.result
      c.as_str.result.now c.loop-member.number c.loop-member-test.true c.member-item.is c.as_str.ensures.value
      (sym w.if-eq.false ∙ c.eq.ensures) c.loop-member.invariant
]
