use Rattle.std.proofs.Math.ListN.{get_or-map}
use Rattle.std.proofs.lemmas.Bool.{ltb-true}
use Rattle.trace_log.proofs.Words.{sym, ap, ◌∙◌, seen_clock, seen_member}
use Rattle.trace_log.proofs.Words.{arith}
use Rattle.trace_log.proofs.Words.{Member, bytes_eq-Decides}
use Rattle.trace_log.proofs.Falls.{seen-length}
use Rattle.trace_log.proofs.Renumbered.{rises_at}
use Rattle.trace_log.proofs.host.rises.Goals as goal

pub returns-then-has_name : goal.returns-then-has_name
returns-then-has_name c is distinct few =
    let named = (bytes_eq-Decides _ c.args.name.now).0 (sym c.has_name.ensures ∙ c.if-has_name.true) in
    let one = seen_member c.index-clock-own.result in
    let size = seen-length c.args.clock.now in
    let at = get_or-map seen_member c.args.clock.now c.args.own c.index-clock-own.result
    ∙ ap seen_member (sym c.index-clock-own.is) in
    rises_at c.args.name.now (seen_clock c.args.clock.now) c.args.next.now c.args.own one (omega (arith, size)) distinct
    few (ap (λ (m : Member). m.name) at ∙ named) (omega (arith, ap (λ (m : Member). m.number) at, ltb-true _ _ is))
