use Rattle.wcp_watch.specs.Seats.{AreAllSeated}
use Rattle.wcp_watch.proofs.seats.are_seated.Given as goal

abbrev pub invariant-loop-place : goal.invariant-loop-place
invariant-loop-place g l = AreAllSeated l.place l.seats
