use Rattle.draw_layout.proofs.Words.{◌≡◌, [], replicate}
use Rattle.draw_layout.proofs.messages.channels.Given as goal

abbrev pub invariant-loop : goal.invariant-loop
invariant-loop l = l.in_transit.items ≡ replicate l.counter []
