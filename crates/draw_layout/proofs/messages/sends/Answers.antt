use Rattle.draw_layout.proofs.messages.sends.Goals as goal

pub follow-requires-clause-none : goal.follow-requires-clause-none
follow-requires-clause-none c = rw c.deref_mut.ensures.value (c.in_ok-in_transit.ensures c.args.order.now)
