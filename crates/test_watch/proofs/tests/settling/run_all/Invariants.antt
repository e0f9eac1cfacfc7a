use Rattle.std.proofs.Common.{◌≡◌, All, Some, slice_get, vec_len}
use Rattle.wcp_watch.specs.Settling.{IsEndOfSomeRelay}
use Rattle.test_watch.proofs.tests.settling.run_all.Given as goal

abbrev pub decreases-loop-relay : goal.decreases-loop-relay
decreases-loop-relay g l = vec_len l.relays

abbrev pub invariant-loop-relay : goal.invariant-loop-relay
invariant-loop-relay g l =
    All (λ relay. slice_get l.fn.relays.items relay.number ≡ Some relay) l.relays.items
    × All (IsEndOfSomeRelay l.fn.relays.items) l.ends.items
