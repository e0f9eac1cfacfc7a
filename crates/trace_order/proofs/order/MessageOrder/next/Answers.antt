use Rattle.std.proofs.Common.{◌∙◌, ap, refl, sym}
use Rattle.trace_order.specs.Giving.{next_at, next_in, state_of}
use Rattle.trace_order.proofs.Noting.{handed_fault}
use Rattle.trace_order.proofs.Ordering.{all_wait}
use Rattle.trace_order.proofs.Steps.{next_fault}
use Rattle.trace_order.proofs.order.MessageOrder.next.Goals as goal

pub returns-in_default-clause-all_wait : goal.returns-in_default-clause-all_wait
returns-in_default-clause-all_wait c = λ log given ordered.
    all_wait log given c.args.self.now ordered c.in_default.ensures.none

pub returns-in_default-clause-next : goal.returns-in_default-clause-next
unfolding next_in
returns-in_default-clause-next c =
    (ap (next_at (state_of c.args.self.now)) (sym c.first_ready.ensures.first ∙ c.in_default.is), refl)

pub returns-in_err-give-clause-next : goal.returns-in_err-give-clause-next
unfolding next_in
returns-in_err-give-clause-next c =
    next_fault c.in_err-give.field-0.0 _ _ (state_of c.args.self.now) (state_of c.give.new.self)
    (ap (next_at (state_of c.args.self.now)) (sym c.first_ready.ensures.first ∙ c.in-Some.is))
    c.in_err-give.ensures.next c.from_residual.result
    (handed_fault c.from_residual.result c.in_err-give.field-0.0 c.from_residual.ensures)

pub returns-clause-next : goal.returns-clause-next
unfolding next_in
returns-clause-next c =
    ap (next_at (state_of c.args.self.now)) (sym c.first_ready.ensures.first ∙ c.in-Some.is) ∙ c.in_ok-give.ensures.next
