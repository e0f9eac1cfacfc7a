use Rattle.std.proofs.Common.{sym, ◌∙◌, true≢false, IsTrue}
use Rattle.wcp_lane.proofs.Hands.{matched}
use Rattle.wcp_lane.proofs.Steps.{joins, balances}
use Rattle.wcp_lane.proofs.receipts.reconcile.Goals as goal

pub returns-then-not-agree-clause-exact : goal.returns-then-not-agree-clause-exact
returns-then-not-agree-clause-exact g c = (
  (λ e. absurd (true≢false (sym e))),
  (λ all.
      let same = rw (← c.put.view_is, ← c.putter.view_is, ← c.taken.view_is) at all in
      let agreed : IsTrue c.agree.result = c.agree.ensures.1 (λ p below member. c.putter.invariant.3.1 p below
      ∙ sym (same p member) ∙ sym (c.taken.invariant.2.1 p below)) in
      absurd (true≢false (sym agreed ∙ c.if-not-agree.true))),
)

pub absorb-requires-clause-rule : goal.absorb-requires-clause-rule
absorb-requires-clause-rule g c =
    joins g.M.Origin.items g.M.Origin.origin g.M.Origin.place g.M.Origin.last _ _ _ _ _ _ c.taken.invariant.0
    c.putter.invariant.1

pub learn_as-requires-clause-rule : goal.learn_as-requires-clause-rule
learn_as-requires-clause-rule g c = balances g.M.Origin.items g.M.Origin.origin g.M.Origin.place g.M.Origin.last _ _

pub returns-clause-all : goal.returns-clause-all
returns-clause-all g c = rw (← c.put.view_is, ← c.putter.view_is, ← c.taken.view_is) (λ p own.
    let below = c.putter.invariant.2 p own in
    matched g.M.Origin.items g.M.Origin.origin _ _ _ _ c.learn_as.ensures.rule.0 c.taken.invariant.0
    c.putter.invariant.1 c.absorb.ensures.rule c.learn_as.ensures.rule.1 p below own
    (sym (c.taken.invariant.2.1 p below) ∙ sym (c.agree.ensures.0 c.if-not-agree.false p below own)
    ∙ c.putter.invariant.3.1 p below))
