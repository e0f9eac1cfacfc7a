use Rattle.std.proofs.Math.ListN.{get_or-map}
use Rattle.trace_log.proofs.Words.{◌∙◌, ap, sym, arith, seen_clock, seen_member, number_of, Member, bytes_eq-Decides}
use Rattle.trace_log.proofs.Falls.{seen-length}
use Rattle.trace_log.proofs.Renumbered.{number_at}
use Rattle.trace_log.proofs.event.number_at.Goals as goal

pub returns : goal.returns
returns c distinct =
    let one = seen_member c.index-clock-place.result in
    let clock = seen_clock c.args.clock.now in
    let size = seen-length c.args.clock.now in
    let at = get_or-map seen_member c.args.clock.now c.args.place c.index-clock-place.result
    ∙ ap seen_member (sym c.index-clock-place.is) in
    let named = (bytes_eq-Decides _ c.args.host.now).0 (sym c.has_name.ensures ∙ c.if-not-has_name.false) in
    let is = number_at clock c.args.place one (omega (arith, size)) distinct in
    sym (ap (λ n. number_of n clock) (sym named ∙ sym (ap (λ (m : Member). m.name) at)) ∙ is
    ∙ ap (λ (m : Member). m.number) at)
