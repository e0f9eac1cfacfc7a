use Rattle.std.proofs.Common.{◌≡◌, ◌++◌, length, map, vec_items}
use Rattle.std.specs.Vec.Iter.{into_iter_items}
use Rattle.wullaphi.proofs.seat.seat_all.Given as goal

abbrev pub invariant-loop-probe : goal.invariant-loop-probe
invariant-loop-probe g l =
    record {
      probes : map (λ seat. seat.probe) l.seats.items ++ into_iter_items l.probe-iterator ≡ vec_items l.fn.probes;
      processes : map (λ seat. seat.process) l.seats.items ++ into_iter_items l.left ≡ vec_items l.fn.processes;
      as_many : length (into_iter_items l.left) ≡ length (into_iter_items l.probe-iterator);
    }
