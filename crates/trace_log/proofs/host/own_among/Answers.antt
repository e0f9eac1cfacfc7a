use Rattle.std.proofs.Math.ListN.{get_or-map}
use Rattle.trace_log.proofs.Words.{sym, ap, ◌∙◌, arith, seen_clock, seen_member, Member, bytes_eq-Decides}
use Rattle.trace_log.proofs.Falls.{seen-length}
use Rattle.trace_log.proofs.Renumbered.{own_at}
use Rattle.trace_log.proofs.host.own_among.Goals as goal

pub returns : goal.returns
returns c distinct few =
    let named = (bytes_eq-Decides _ c.args.name.now).0 (sym c.has_name.ensures ∙ c.if-not-has_name.false) in
    let size = seen-length c.args.clock.now in
    let at = get_or-map seen_member c.args.clock.now c.args.own c.index-clock-own.result
    ∙ ap seen_member (sym c.index-clock-own.is) in
    own_at c.args.name.now (seen_clock c.args.clock.now) c.args.next.now c.args.own
    (seen_member c.index-clock-own.result) (omega (arith, size)) distinct few (ap (λ (m : Member). m.name) at ∙ named)
