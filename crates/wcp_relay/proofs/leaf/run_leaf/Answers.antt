use Rattle.wcp_relay.proofs.Words.{List, sym, ◌∙◌, subst, Feed, Outlet, IsLeafAtWork, IsSound}
use Rattle.wcp_relay.proofs.Passing.{if_none}
use Rattle.wcp_relay.proofs.LeafWork.{leaf_passed}
use Rattle.wcp_relay.proofs.leaf.run_leaf.Goals as goal
use Rattle.wcp_relay.proofs.leaf.run_leaf.Goals.{in-None, in-Some+in_ok-any+then-all}

pub loop-preserved : goal.loop-preserved
loop-preserved g c =
    record {
      goes_on = tt;
      ends = tt;
      work = leaf_passed c.take_round.new.feeds c.take_round.new.outlet c.pass_on.new.self c.in_ok-any.ensures.work
          c.pass_on.ensures.same c.pass_on.ensures.sound c.pass_on.ensures.handed
          (λ none. (if_none _ _ none c.pass_on.ensures.empty).0);
      feeds = (
        c.in_ok-any.ensures.same_feeds.0 ∙ c.loop.invariant.feeds.0,
        c.in_ok-any.ensures.same_feeds.1 ∙ c.loop.invariant.feeds.1,
      );
      outlet = (
        c.pass_on.ensures.same.0 ∙ c.in_ok-any.ensures.same_outlet.0 ∙ c.loop.invariant.outlet.0,
        c.pass_on.ensures.same.1 ∙ c.in_ok-any.ensures.same_outlet.1 ∙ c.loop.invariant.outlet.1,
      );
    }

pub pass_on-requires-2 : goal.pass_on-requires-2
pass_on-requires-2 g c =
    elim c.match-next.branch [
      | in-None w ↦ subst IsSound (sym w.outlet-is) c.loop.invariant.work.sound
      | in-Some+in_ok-any+then-all w ↦ subst IsSound (sym w.outlet-is) w.in_ok-any.ensures.work.sound
    ]

pub returns-clause-work : goal.returns-clause-work
returns-clause-work g c =
    let work : IsLeafAtWork c.match-next.feeds c.match-next.outlet =
    elim c.match-next.branch [
      | in-None w ↦ subst (λ (v : List Feed × Outlet). IsLeafAtWork v.0 v.1)
          (λ i. (sym w.feeds-is i, sym w.outlet-is i)) c.loop.invariant.work
      | in-Some+in_ok-any+then-all w ↦ subst (λ (v : List Feed × Outlet). IsLeafAtWork v.0 v.1)
          (λ i. (sym w.feeds-is i, sym w.outlet-is i)) w.in_ok-any.ensures.work
    ] in
    leaf_passed c.match-next.feeds c.match-next.outlet c.pass_on-2.new.self work
    c.pass_on-2.ensures.same c.pass_on-2.ensures.sound c.pass_on-2.ensures.handed
    (λ none. (if_none _ _ none c.pass_on-2.ensures.empty).0)
