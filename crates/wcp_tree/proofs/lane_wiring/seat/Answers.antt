use Rattle.std.proofs.Common.{sym, ◌∙◌, true≢false, arith}
use Rattle.wcp_tree.proofs.Seating.{one_seated, none_seated}
use Rattle.wcp_tree.proofs.lane_wiring.seat.Goals as goal

pub loop-putter-preserved-then-is_child : goal.loop-putter-preserved-then-is_child
loop-putter-preserved-then-is_child c =
    one_seated _ _ _ _ _ _ _ _ c.loop-putter.invariant c.in-Some.ensures.items c.len-relay.result
    (omega (arith, c.pop.new.self.ok)) (c.is_child.ensures.0 c.if-is_child.true)

pub loop-putter-preserved-then-is_child-2 : goal.loop-putter-preserved-then-is_child-2
loop-putter-preserved-then-is_child-2 c =
    one_seated _ _ _ _ _ _ _ _ c.loop-putter.invariant c.in-Some.ensures.items c.len-relay.result
    (omega (arith, c.pop.new.self.ok)) (c.is_child.ensures.0 c.if-is_child.true)

pub loop-putter-preserved : goal.loop-putter-preserved
loop-putter-preserved c =
    none_seated _ _ _ _ _ _ _ _ c.loop-putter.invariant c.in-Some.ensures.items c.len-relay.result
    (omega (arith, c.pop.new.self.ok)) (λ child. true≢false (sym (c.is_child.ensures.1 child) ∙ c.if-is_child.false))
