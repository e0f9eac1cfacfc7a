use Rattle.std.proofs.Math.ListN.{get_or-map}
use Rattle.std.specs.Prelude.{◌&&◌, ◌≤◌, nat_lt}
use Rattle.trace_log.proofs.Words.{ap, sym, refl, subst, ◌∙◌, arith, get_or, string_bytes, seen_clock, seen_member}
use Rattle.trace_log.proofs.Words.{Member, number_of}
use Rattle.trace_log.specs.Hosts.{clock_among}
use Rattle.trace_log.specs.Order.{know_each_other}
use Rattle.trace_log.proofs.Cycles.{closes-below, renumbered-back-next}
use Rattle.trace_log.proofs.Falls.{le-number_of, seen-length}
use Rattle.trace_log.proofs.cycle.any_next_closes_cycle.Goals as goal

pub loop-place-preserved : goal.loop-place-preserved
loop-place-preserved c same =
    let hosts = c.args.hosts.now in
    let host = c.args.host.now in
    let clock = c.args.clock.now in
    let next = c.args.next.now in
    let i = c.loop-place.place in
    let d = c.index-clock-place.result in
    let size = seen-length clock in
    let one : Member = record { name = string_bytes d.name; number = get_or next i 0 } in
    let at = get_or-map seen_member clock i d ∙ ap seen_member (sym c.index-clock-place.is) in
    let none = ap (λ name. nat_lt d.number (get_or next i 0) && know_each_other host c.args.own (record {
      name = name;
      number = get_or next i 0;
    }) (clock_among name hosts)) (sym c.as_str.ensures.value) ∙ sym c.closes_cycle.ensures ∙ c.if-closes_cycle.false in
    let few = subst (λ l. d.number ≤ number_of (string_bytes d.name) l) (sym same)
    (le-number_of clock i d c.loop-place-test.true c.index-clock-place.is) in
    renumbered-back-next (λ name. clock_among name hosts) host c.args.own (seen_clock clock) next i
    (seen_member d) one (omega (arith, size)) (omega arith) (sym (ap (λ (m : Member). m.name) at)) refl
    (c.loop-place.invariant same)
    (closes-below d.number (get_or next i 0) (number_of (string_bytes d.name) (clock_among host hosts)) _ few none)
