use Rattle.std.proofs.Math.ListN.{set, get_or-map}
use Rattle.std.proofs.lemmas.List.{length-set}
use Rattle.trace_log.proofs.Words.{sym, ap, ◌<◌, ◌∙◌, add-one, length, get_or, seen_clock, seen_member, arith, List}
use Rattle.trace_log.proofs.Words.{Member, take, drop, ◌++◌}
use Rattle.trace_log.specs.Look.{renumbered}
use Rattle.trace_log.proofs.Falls.{seen-length}
use Rattle.trace_log.proofs.Renumbered.{renumber-next, seen_clock-set}
use Rattle.trace_log.proofs.host.renumber.Goals as goal

pub loop-place-preserved : goal.loop-place-preserved
loop-place-preserved c =
    let i = c.loop-place.place in
    let d = seen_member c.index-clock-place.result in
    let before = c.loop-place.invariant.1 in
    let numbers = c.args.numbers.now in
    let within : i < length (seen_clock c.args.clock.now) =
    omega (arith, seen-length c.args.clock.now, c.loop-place.invariant.0) in
    let room : i < length numbers = omega (arith, seen-length c.args.clock.now, c.loop-place.invariant.0) in
    let named = sym (get_or-map seen_member c.loop-place.clock i c.index-clock-place.result)
    ∙ ap (λ l. get_or l i d) before in
    let number = get_or numbers i 0 in
    let all = seen_clock c.args.clock.now in
    let so_far : List Member = renumbered (take i all) numbers ++ drop i all in (
      length-set c.loop-place.clock i _ ∙ c.loop-place.invariant.0,
      seen_clock-set c.loop-place.clock i _ ∙ ap (λ l. set l i (record {
        name = (seen_member (get_or
            c.loop-place.clock i c.index-clock-place.result)).name;
        number = number;
      })) before
          ∙ ap (λ (m : Member). set so_far i (record { name = m.name; number = number })) named
          ∙ rw add-one (renumber-next all numbers i d within room),
    )
