use Rattle.wcp_relay.proofs.Words.{◌≡◌, get_or, set, sym, ◌∙◌, refl, subst, arith, map-set_same, Feed, Outlet}
use Rattle.wcp_relay.proofs.Words.{IsLeafAtWork, IsSameOutlet}
use Rattle.std.proofs.lemmas.Result.{err_from_is_err_and}
use Rattle.wcp_relay.proofs.Fed.{fed-gap, processes-set, rings_at_gap}
use Rattle.wcp_relay.proofs.Faithful.{only_none}
use Rattle.wcp_relay.proofs.Passing.{if_none}
use Rattle.wcp_relay.proofs.LeafWork.{if_some, leaf_owned, leaf_next, leaf_taken, leaf_quiet}
use Rattle.wcp_relay.proofs.leaf.take_burst.Goals as goal
use Rattle.wcp_relay.proofs.leaf.take_burst.Goals.{in-Some, in_default}

pub returns-in_err-item-clause-same_feeds : goal.returns-in_err-item-clause-same_feeds
returns-in_err-item-clause-same_feeds g c =
    let same = c.in_err-item.ensures.same in (
      processes-set c.loop.feeds c.args.place c.take.new.self c.index-feeds-place.result same.0
          ∙ c.loop.invariant.feeds.0,
      map-set_same
          (λ (f : Feed). f.taker.ring) c.loop.feeds c.args.place c.take.new.self c.index-feeds-place.result same.1
          ∙ c.loop.invariant.feeds.1,
    )

pub returns-in_err-item-clause-gap : goal.returns-in_err-item-clause-gap
returns-in_err-item-clause-gap g c =
    let p = err_from_is_err_and c.from_residual.result c.from_residual.ensures.1 in
    let gap = c.in_err-item.ensures.gap in
    let feeds = c.loop.feeds in
    let i = c.args.place in
    let d = c.index-feeds-place.result in
    rw p.1 (
      record { process = (get_or feeds i d).process; cut = c.loop.outlet.cut },
      p.2 ∙ gap.0,
      fed-gap feeds i c.take.new.self d gap.1.0 c.loop.outlet (omega arith) c.loop.invariant.work.apart
          c.in_err-item.ensures.same.0 gap.1.1 gap.1.2 c.loop.invariant.work.faithful,
    )

pub accept-requires-clause-owned : goal.accept-requires-clause-owned
accept-requires-clause-owned g c =
    let got = if_some _ _ _ c.in-Some.is c.in_ok-item.ensures.some in
    only_none _ _ (λ none.
    leaf_owned c.loop.feeds c.args.place c.index-feeds-place.result c.loop.outlet c.in-Some.item.from
    c.loop.invariant.work (omega arith) got.0)

pub accept-requires-clause-next : goal.accept-requires-clause-next
accept-requires-clause-next g c =
    let got = if_some _ _ _ c.in-Some.is c.in_ok-item.ensures.some in
    leaf_next c.loop.feeds c.args.place c.index-feeds-place.result c.loop.outlet c.in-Some.item
    c.loop.invariant.work (omega arith) got.0 got.2

pub loop-preserved : goal.loop-preserved
loop-preserved g c =
    let old = c.loop.invariant in
    let same = c.in_ok-item.ensures.same in
    let feeds = c.loop.feeds in
    let i = c.args.place in
    let new = c.take.new.self in
    let d = c.index-feeds-place.result in
    let step : (o : Outlet) → c.match-branch-2.outlet ≡ o → IsLeafAtWork (set feeds i new) o
    → IsSameOutlet c.loop.outlet o
    → IsLeafAtWork (set feeds i new) c.match-branch-2.outlet × IsSameOutlet c.args.outlet.now c.match-branch-2.outlet =
    λ o is work outlet. (
      subst (IsLeafAtWork (set feeds i new)) (sym is) work,
      subst (IsSameOutlet c.args.outlet.now) (sym is) (outlet.0 ∙ old.outlet.0, outlet.1 ∙ old.outlet.1),
    ) in
    let both : IsLeafAtWork (set feeds i new) c.match-branch-2.outlet
    × IsSameOutlet c.args.outlet.now c.match-branch-2.outlet = elim c.match-branch-2.branch [
      | in-Some w ↦ (
          let got = if_some _ _ _ w.in-Some.is c.in_ok-item.ensures.some in
          step w.accept.new.self w.outlet-is
          (leaf_taken feeds i new d c.loop.outlet w.accept.new.self w.in-Some.item old.work
          (omega arith) same.0 got.1 got.0 c.in_ok-item.ensures.in_order
          w.accept.ensures.same w.accept.ensures.sound w.accept.ensures.handed w.accept.ensures.let_go)
          w.accept.ensures.same)
      | in_default w ↦ step c.loop.outlet w.outlet-is
          (leaf_quiet feeds i new d c.loop.outlet old.work same.0
          (if_none _ _ w.in_default.is c.in_ok-item.ensures.none) c.in_ok-item.ensures.in_order)
          (refl, refl)
    ] in
    record {
      work = both.0;
      feeds = (
        processes-set feeds i new d same.0 ∙ old.feeds.0,
        map-set_same (λ (f : Feed). f.taker.ring) feeds i new d same.1 ∙ old.feeds.1,
      );
      outlet = both.1;
    }

pub returns-in_err-item-clause-rings : goal.returns-in_err-item-clause-rings
returns-in_err-item-clause-rings g c =
    let p = err_from_is_err_and c.from_residual.result c.from_residual.ensures.1 in
    let came = rings_at_gap c.loop.feeds c.args.place c.take.new.self c.index-feeds-place.result (omega arith)
    c.loop.invariant.work.apart c.loop.invariant.work.in_order c.in_err-item.ensures.same.0
    c.in_err-item.ensures.ring in
    rw p.1 (rw (p.2 ∙ c.in_err-item.ensures.gap.0) came)
