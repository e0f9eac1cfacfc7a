use Rattle.std.proofs.Common.{vec_len}
use Rattle.wcp_tree.proofs.Seating.{AreSeated}
use Rattle.wcp_tree.proofs.lane_wiring.seat.Given as goal

abbrev pub decreases-loop-putter : goal.decreases-loop-putter
decreases-loop-putter l = vec_len l.putters

abbrev pub invariant-loop-putter : goal.invariant-loop-putter
invariant-loop-putter l =
    AreSeated l.plan l.owner l.fn.putters.items l.initial.seats.items l.seats.items l.putters.items
