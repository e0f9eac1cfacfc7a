use Rattle.trace_log.proofs.Words.{◌∙◌, ap, sym, Ok, seen_clock}
use Rattle.std.specs.Prelude.{not}
use Rattle.trace_log.specs.Event.{own_in}
use Rattle.trace_log.specs.Hosts.{clock_among}
use Rattle.trace_log.specs.Judgement.{ask}
use Rattle.trace_log.specs.Order.{follows, is_in_cycle}
use Rattle.trace_log.specs.declared.fault.LogFaultKind.TheVariants.{Cycle}
use Rattle.trace_log.proofs.Keeps.{keeps-next, stamp_is}
use Rattle.trace_log.proofs.Stamps.{stamp_follows}
use Rattle.trace_log.proofs.stamp.clock_kept.Goals as goal

pub returns-clause-stamp : goal.returns-clause-stamp
returns-clause-stamp c earlier kept =
    let host = c.args.host.now in
    let hosts = c.args.hosts.now in
    let clock = seen_clock c.args.clock.items in
    let is = c.in_ok-number.ensures.kept in
    let own = ap (λ l. own_in host (seen_clock l)) (sym c.as_slice.ensures.value) ∙ sym c.own_in.ensures
    ∙ c.in_ok-own_in.was in
    let follows_last = ap (λ l. follows host (seen_clock c.last_clock.result.now) (seen_clock l))
    (sym c.as_slice-2.ensures.value) ∙ c.in_ok-judge.ensures in
    let no_cycle = ap (λ l. ask (not (is_in_cycle (λ name. clock_among name hosts) host (seen_clock l))) Cycle)
    (sym c.as_slice-3.ensures.value) ∙ sym c.in_no_cycle.ensures ∙ c.in_ok-in_no_cycle.was in
    let may = stamp_follows earlier hosts host (seen_clock c.last_clock.result.now) clock kept own
    (c.last_clock.ensures.clock ∙ kept host) follows_last no_cycle in (
      may ∙ ap Ok (stamp_is hosts c.keep.new.self host clock c.in_ok-number.number is),
      keeps-next hosts c.keep.new.self host clock c.in_ok-number.number earlier kept is,
    )
