use Rattle.wcp_order.proofs.Words.{arith, false, get_or_from_slice_get, Observe}
use Rattle.wcp_order.proofs.Concluding.{IsFirstLeft_at}
use Rattle.wcp_order.proofs.order.first_left.Goals as goal

pub returns-then-left-eq0-clause-first : goal.returns-then-left-eq0-clause-first
returns-then-left-eq0-clause-first c =
    let place = c.loop-place.place in
    IsFirstLeft_at c.args.tasks.now c.args.done.now c.loop-place.done place (omega arith) c.requires
    (λ p below. c.loop-place.invariant.counted p (omega (arith, below)))
    (λ task at. rw (get_or_from_slice_get c.args.tasks.now place task
    (record { p = 0; action = Observe false }) at) at c.if-left-eq0.true)
