use Rattle.std.proofs.Common.{◌∙◌, arith, sym}
use Rattle.trace_order.specs.State.{sent_of}
use Rattle.trace_order.proofs.Kept.{ready_is, none_ready}
use Rattle.trace_order.proofs.order.MessageOrder.first_ready.Goals as goal

pub returns-then-is_ready-clause-first : goal.returns-then-is_ready-clause-first
returns-then-is_ready-clause-first c =
    ready_is (sent_of c.args.self.now) c.args.self.now.hosts.items c.loop-number.number
    (omega (arith, c.loop-number-test.true, c.len-number-end.ensures)) c.loop-number.invariant
    (sym c.is_ready.ensures ∙ c.if-is_ready.true)

pub returns-clause-first : goal.returns-clause-first
returns-clause-first c =
    none_ready (sent_of c.args.self.now) c.args.self.now.hosts.items
    (λ k within. c.loop-number.invariant k (omega (arith, within, c.loop-number-test.false, c.len-number-end.ensures)))
