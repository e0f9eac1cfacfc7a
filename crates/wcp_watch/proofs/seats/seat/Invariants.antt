use Rattle.std.proofs.Common.{length, vec_len}
use Rattle.wcp_watch.proofs.Seating.{IsSeating}
use Rattle.wcp_watch.proofs.seats.seat.Given as goal

abbrev pub decreases-loop-end : goal.decreases-loop-end
decreases-loop-end g l = vec_len l.ends

abbrev pub invariant-loop-end : goal.invariant-loop-end
invariant-loop-end g l =
    IsSeating g.E.End.watch_of g.E.End.place_of l.watch (length l.initial.seats) l.fn.ends.items l.ends.items l.seats
