use Rattle.std.proofs.Common.{◌≡◌, ◌∷◌, [], ◌++◌, All, append_assoc, sym, ap, subst, ◌∙◌}
use Rattle.std.proofs.lemmas.List.Elements.{All-head, All-tail}
use Rattle.std.specs.Vec.Iter.{into_iter_items}
use Rattle.wcp_relay.specs.LiveProbe.{LiveSide}
use Rattle.wullaphi.proofs.OwnWatches.{pushed_more}
use Rattle.wullaphi.specs.Opened.{HasOpened, IsProbeOf}
use Rattle.wullaphi.proofs.opening.name_probes.Goals as goal

pub new-requires : goal.new-requires
new-requires g c =
    let its : LiveSide → Type 0 = λ probe. HasOpened (IsProbeOf probe) g.W.Opening.opened in
    All-head its c.in-Some.probe _
    (subst (All its) c.in-Some.ensures.steps.0 c.loop-probe.invariant.rest)

pub loop-probe-preserved : goal.loop-probe-preserved
loop-probe-preserved g c =
    let its : LiveSide → Type 0 = λ probe. HasOpened (IsProbeOf probe) g.W.Opening.opened in
    let old = c.loop-probe.invariant in
    let rest = into_iter_items c.next.new.self in
    let next : into_iter_items c.loop-probe.probe-iterator ≡ c.in-Some.probe ∷ rest = c.in-Some.ensures.steps.0 in
    record {
      whole = append_assoc c.loop-probe.yielded (c.in-Some.probe ∷ []) rest
          ∙ ap (λ xs. c.loop-probe.yielded ++ xs) (sym next)
          ∙ old.whole;
      rest = All-tail its c.in-Some.probe _ (subst (All its) next old.rest);
      named = pushed_more c.in_ok-push.ensures.items c.new.ensures old.named;
    }

pub loop-probe-init : goal.loop-probe-init
loop-probe-init g c =
    let its : LiveSide → Type 0 = λ probe. HasOpened (IsProbeOf probe) g.W.Opening.opened in
    let same = c.into_iter-probe-iterator.ensures.into_iter_gives.0 in
    record { whole = same; rest = subst (All its) (sym same) c.requires; named = c.in_ok-named.ensures.items }
