use Rattle.std.proofs.Common.{◌≡◌, All, Some, slice_get, sym, ap, subst, ◌∙◌}
use Rattle.std.proofs.lemmas.List.Elements.{All-pop, All-push}
use Rattle.wcp_watch.specs.Settling.{IsEndOfSomeProbe}
use Rattle.test_watch.proofs.tests.settling.close_all.Goals as goal

pub loop-probe-preserved-in-Continue-branch-2 : goal.loop-probe-preserved-in-Continue-branch-2
loop-probe-preserved-in-Continue-branch-2 c =
    let all = c.args.probes.items in
    let split = All-pop (λ probe. slice_get all probe.core.id ≡ Some probe) _ _
    (Some c.in-Some.probe) c.in-Some.ensures.items c.loop-probe.invariant.0 in (
      split.0,
      subst (All (IsEndOfSomeProbe all)) (sym c.in_ok-push.ensures.items) (All-push
          (IsEndOfSomeProbe all) c.loop-probe.ends.items c.in-Some-emit_or_lose.end c.loop-probe.invariant.1 (record {
            probe = c.in-Some.probe;
            is_probe = ap (slice_get all) c.in-Some-emit_or_lose.ensures.0 ∙ split.1;
            one_ring = c.in-Some-emit_or_lose.ensures.1;
          })),
    )

pub loop-probe-preserved : goal.loop-probe-preserved
loop-probe-preserved c = (
  (All-pop (λ probe. slice_get c.args.probes.items probe.core.id ≡ Some probe) _ _
      (Some c.in-Some.probe) c.in-Some.ensures.items c.loop-probe.invariant.0).0,
  c.loop-probe.invariant.1,
)
