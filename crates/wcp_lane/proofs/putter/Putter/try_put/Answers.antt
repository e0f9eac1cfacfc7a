use Rattle.wcp_lane.proofs.Counting.{span_below}
use Rattle.wcp_lane.proofs.Hands.{put_more}
use Rattle.wcp_lane.proofs.Steps.{all_below, puts}
use Rattle.wcp_lane.proofs.putter.Putter.try_put.Goals as goal

pub try_send_as-requires-clause-rule : goal.try_send_as-requires-clause-rule
try_send_as-requires-clause-rule g c = (
  puts _ _ _ _ _ _ _ _ _ _ c.self.invariant.1 c.self.invariant.2 (rw (← c.self.view_is) at c.requires),
  λ items ends h at. tt,
)

pub count_up-requires : goal.count_up-requires
count_up-requires g c = span_below _ _ _ _ c.of-span.ensures
    (all_below _ _ _ _ _ _ c.self.invariant.2 (rw (← c.self.view_is) at c.requires))

pub invariant_of-self : goal.invariant_of-self
invariant_of-self g c =
    let (is, counted) = put_more _ _ _ _ _ _ _ c.self.invariant.1 c.in-Ok.ensures.rule
    (c.count_up.ensures _ _ _ c.of-span.ensures c.self.invariant.3 (rw (← c.self.view_is) at c.requires)) in
    (c.try_send_as.ensures.channel.0, is, c.self.invariant.2, counted)
