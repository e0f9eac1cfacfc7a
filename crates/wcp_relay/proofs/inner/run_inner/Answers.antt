use Rattle.wcp_relay.proofs.Words.{◌≡◌, sym, refl, ap, ◌∙◌, subst, Item, TakeEnd, Numbers, Bundle, items_of, AreEnded}
use Rattle.std.specs.FinSet as set
use Rattle.wcp_relay.proofs.Passing.{if_none}
use Rattle.wcp_relay.proofs.LeafWork.{if_some}
use Rattle.wcp_relay.proofs.InnerWork.{inner_follows, inner_taken, inner_passed, ended_kept, ended_more, none_ended}
use Rattle.wcp_relay.proofs.Accepting.{follow_owned}
use Rattle.wcp_relay.proofs.inner.run_inner.Goals as goal

pub loop-init : goal.loop-init
loop-init g c =
    record {
      goes_on = tt;
      ends = tt;
      work = c.requires;
      taker = (refl, refl);
      outlet = (refl, refl);
      below = c.members-below.ensures;
      within = c.are_among-finished.ensures.within;
      ended = none_ended (λ p. items_of p c.args.taker.now.taken) c.none-ended.result c.none-ended.ensures;
      finished = c.are_among-finished.ensures.among.0;
    }

pub loop-preserved-in_default : goal.loop-preserved-in_default
loop-preserved-in_default g c =
    let old = c.loop.invariant in
    let same = c.pass_on.ensures.same in
    let kept = c.in_ok-bundle.ensures.same in
    let is : c.next_bundle.new.taker ≡ c.loop.taker = if_none _ _ c.in_default.is c.in_ok-bundle.ensures.none in
    record {
      goes_on = tt;
      ends = tt;
      work = inner_passed c.loop.taker c.next_bundle.new.taker c.loop.outlet c.pass_on.new.self old.work is same
          c.pass_on.ensures.sound c.pass_on.ensures.handed (λ none. (if_none _ _ none c.pass_on.ensures.empty).0);
      taker = (kept.0 ∙ old.taker.0, kept.1 ∙ old.taker.1);
      outlet = (same.0 ∙ old.outlet.0, same.1 ∙ old.outlet.1);
      below = old.below ∙ sym same.1;
      within = old.within;
      ended = subst (λ (e : TakeEnd Bundle Item). AreEnded c.loop.ended (λ p. items_of p e.taken)) (sym is) old.ended;
      finished = old.finished;
    }

pub accept_all-requires-clause-follow : goal.accept_all-requires-clause-follow
accept_all-requires-clause-follow g c =
    let got = if_some _ _ _ c.in-Some-2.is c.in_ok-bundle.ensures.some in
    inner_follows c.loop.taker c.loop.outlet c.in-Some-2.bundle c.loop.invariant.work got.0

pub loop-preserved-then-last : goal.loop-preserved-then-last
loop-preserved-then-last g c =
    let old = c.loop.invariant in
    let same = c.accept_all.ensures.same in
    let kept = c.in_ok-bundle.ensures.same in
    let items = c.in-Some-2.bundle in
    let got = if_some _ _ _ c.in-Some-2.is c.in_ok-bundle.ensures.some in
    let more = ended_more c.loop.ended c.loop.taker c.next_bundle.new.taker items c.last_item-end.ensures.0
    c.last_item-end.result old.ended got.0 got.1 c.last_item-end.ensures.1 (sym c.last.ensures ∙ c.if-last.true) in
    let end = c.last_item-end in
    let own = follow_owned c.loop.taker.members c.loop.taker.taken items end.ensures.0 end.result got.0
    end.ensures.1 in
    let number = old.within end.result.from
    (ap (λ (s : Numbers). set.contains s end.result.from) old.below ∙ old.work.among end.result.from own) in
    record {
      goes_on = tt;
      ends = tt;
      work =
          inner_taken c.loop.taker c.next_bundle.new.taker c.loop.outlet c.accept_all.new.self items old.work got.1 same
          c.accept_all.ensures.sound c.accept_all.ensures.faithful;
      taker = (kept.0 ∙ old.taker.0, kept.1 ∙ old.taker.1);
      outlet = (same.0 ∙ old.outlet.0, same.1 ∙ old.outlet.1);
      below = old.below ∙ sym same.1;
      within = old.within;
      ended = subst (λ (s : Numbers). AreEnded s (λ p. items_of p c.next_bundle.new.taker.taken))
          (sym (c.with-ended.ensures.more number)) more;
      finished = c.are_among-finished-then-last.ensures.among.0;
    }

pub loop-preserved : goal.loop-preserved
loop-preserved g c =
    let old = c.loop.invariant in
    let same = c.accept_all.ensures.same in
    let kept = c.in_ok-bundle.ensures.same in
    let items = c.in-Some-2.bundle in
    let got = if_some _ _ _ c.in-Some-2.is c.in_ok-bundle.ensures.some in
    record {
      goes_on = tt;
      ends = tt;
      work =
          inner_taken c.loop.taker c.next_bundle.new.taker c.loop.outlet c.accept_all.new.self items old.work got.1 same
          c.accept_all.ensures.sound c.accept_all.ensures.faithful;
      taker = (kept.0 ∙ old.taker.0, kept.1 ∙ old.taker.1);
      outlet = (same.0 ∙ old.outlet.0, same.1 ∙ old.outlet.1);
      below = old.below ∙ sym same.1;
      within = old.within;
      ended = ended_kept c.loop.ended c.loop.taker c.next_bundle.new.taker items old.ended got.0 got.1;
      finished = old.finished;
    }

pub returns-clause-work : goal.returns-clause-work
returns-clause-work g c =
    inner_passed c.loop.taker c.loop.taker c.loop.outlet c.pass_on-2.new.self c.loop.invariant.work refl
    c.pass_on-2.ensures.same c.pass_on-2.ensures.sound c.pass_on-2.ensures.handed
    (λ none. (if_none _ _ none c.pass_on-2.ensures.empty).0)
