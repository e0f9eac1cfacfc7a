use Rattle.wcp_tree.proofs.Words.{◌≡◌, ◌+◌, length, vec_len, LaneName, Bundle, AreSeatedUnder}
use Rattle.wcp_tree.proofs.Linking.{AreOpened}
use Rattle.wcp_tree.proofs.watch_opening.open_relays.Given as goal

abbrev pub decreases-loop-alloc : goal.decreases-loop-alloc
decreases-loop-alloc l = vec_len l.sleepers

abbrev pub invariant-loop-alloc : goal.invariant-loop-alloc
invariant-loop-alloc l =
    record {
      count : length l.relays.items + length l.sleepers.items ≡ length l.plan.parents.items;
      seats : length l.seats.items ≡ length l.plan.parents.items;
      opened : (root : LaneName Bundle) → AreSeatedUnder l.plan root l.fn.seats.items
          → AreOpened l.plan l.watch root l.fn.takers.items l.relays.items l.seats.items l.takers.items;
    }
