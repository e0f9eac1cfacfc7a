use Rattle.std.proofs.Common.{arith}
use Rattle.wcp_world.proofs.AnsweredMoves.{admit_moves, pull_moves, pass_moves}
use Rattle.wcp_world.proofs.transport.Transport.way.Goals as goal

pub returns-else-not-is_attached : goal.returns-else-not-is_attached
returns-else-not-is_attached c = rw c.in-Admit.is (admit_moves c.args.self.now c.in-Admit.relay c.in-Admit.p
    c.hold.result (rw (← c.self.view_is) (grind arith)) c.hold.ensures)

pub returns-else-is_leaf : goal.returns-else-is_leaf
returns-else-is_leaf c =
    rw c.in-Pull.is (pull_moves c.args.self.now c.in-Pull.relay c.inbox.result c.hold-in-Pull.result
    (rw (← c.self.view_is) (grind arith)) (rw (← c.self.view_is) (grind arith)) c.inbox.ensures c.hold-in-Pull.ensures)

pub returns-in_ok-parent-in-Pass : goal.returns-in_ok-parent-in-Pass
returns-in_ok-parent-in-Pass c =
    rw c.in-Pass.is (pass_moves c.args.self.now c.in-Pass.relay c.hold-in-Pass.result c.inbox-in-Pass.result
    c.in_ok-parent-in-Pass.parent (rw (← c.self.view_is) (grind arith)) c.hold-in-Pass.ensures c.inbox-in-Pass.ensures)
