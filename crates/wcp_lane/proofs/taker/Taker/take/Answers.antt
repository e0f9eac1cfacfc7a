use Rattle.wcp_lane.proofs.Words.{ap, arith, common_steps, Hand}
use Rattle.wcp_lane.proofs.Counting.{span_below}
use Rattle.wcp_lane.proofs.Hands.{take_more}
use Rattle.wcp_lane.proofs.Steps.{takes}
use Rattle.wcp_lane.proofs.taker.Taker.take.Goals as goal

pub recv_as-requires-clause-rule : goal.recv_as-requires-clause-rule
recv_as-requires-clause-rule g c =
    (takes _ _ _ _ _ _ (ap (λ (v : Hand _). v.takes) c.self.invariant.1), λ items ends h at. tt)

pub count_up-requires : goal.count_up-requires
count_up-requires g c = span_below _ _ _ _ c.of.ensures (c.in-Ok.ensures.rule.1 _ _ c.self.invariant.1).numbered

pub invariant_of-self : goal.invariant_of-self
invariant_of-self g c =
    let may = (c.in-Ok.ensures.rule.1 _ _ c.self.invariant.1).follows _ c.self.invariant.2 in
    let (is, rest, counted) = take_more _ _ _ _ _ _ _ c.self.invariant.1 c.self.invariant.2 c.in-Ok.ensures.rule.0
    (c.count_up.ensures _ _ _ c.of.ensures c.self.invariant.3 may) in
    (c.recv_as.ensures.channel.0, is, rest, counted)

pub returns-in-Ok-clause-ok : goal.returns-in-Ok-clause-ok
returns-in-Ok-clause-ok g c = (
  rw (← c.self.view_is) ((c.in-Ok.ensures.rule.1 _ _ c.self.invariant.1).follows _ c.self.invariant.2),
  grind (arith, common_steps),
)
