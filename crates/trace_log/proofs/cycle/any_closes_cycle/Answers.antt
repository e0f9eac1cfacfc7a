use Rattle.trace_log.proofs.Words.{ap, sym, ◌∙◌, number_of, string_bytes}
use Rattle.std.specs.Prelude.{◌&&◌, nat_lt}
use Rattle.trace_log.specs.Hosts.{clock_among}
use Rattle.trace_log.specs.Order.{know_each_other}
use Rattle.trace_log.proofs.Cycles.{back-next, back-some}
use Rattle.trace_log.proofs.cycle.any_closes_cycle.Goals as goal

pub returns-then-closes_cycle : goal.returns-then-closes_cycle
returns-then-closes_cycle c =
    let hosts = c.args.hosts.now in
    let host = c.args.host.now in
    let one = c.index-clock-place.result in
    let earlier = clock_among host hosts in
    let numbered = c.number_by-before.ensures c.last_clock-earlier.ensures.distinct
    ∙ ap (number_of c.as_str.result.now) c.last_clock-earlier.ensures.clock
    ∙ ap (λ name. number_of name earlier) c.as_str.ensures.value in
    let closes = c.closes_cycle.ensures
    ∙ ap (λ before. nat_lt before one.number && know_each_other host c.args.own (record {
      name = c.as_str-in-loop-place.result.now;
      number = one.number;
    }) (clock_among c.as_str-in-loop-place.result.now hosts)) numbered
    ∙ ap (λ name. nat_lt (number_of (string_bytes one.name) earlier) one.number
    && know_each_other host c.args.own (record { name = name; number = one.number }) (clock_among name hosts))
    c.as_str-in-loop-place.ensures.value in
    sym (back-some (λ name. clock_among name hosts) host c.args.own c.args.clock.now c.loop-place.place one
    c.loop-place-test.true c.index-clock-place.is (sym closes ∙ c.if-closes_cycle.true))

pub loop-place-preserved : goal.loop-place-preserved
loop-place-preserved c =
    let hosts = c.args.hosts.now in
    let host = c.args.host.now in
    let one = c.index-clock-place.result in
    let earlier = clock_among host hosts in
    let numbered = c.number_by-before.ensures c.last_clock-earlier.ensures.distinct
    ∙ ap (number_of c.as_str.result.now) c.last_clock-earlier.ensures.clock
    ∙ ap (λ name. number_of name earlier) c.as_str.ensures.value in
    let closes = c.closes_cycle.ensures
    ∙ ap (λ before. nat_lt before one.number && know_each_other host c.args.own (record {
      name = c.as_str-in-loop-place.result.now;
      number = one.number;
    }) (clock_among c.as_str-in-loop-place.result.now hosts)) numbered
    ∙ ap (λ name. nat_lt (number_of (string_bytes one.name) earlier) one.number
    && know_each_other host c.args.own (record { name = name; number = one.number }) (clock_among name hosts))
    c.as_str-in-loop-place.ensures.value in
    back-next (λ name. clock_among name hosts) host c.args.own c.args.clock.now c.loop-place.place one
    c.loop-place-test.true c.index-clock-place.is c.loop-place.invariant (sym closes ∙ c.if-closes_cycle.false)
