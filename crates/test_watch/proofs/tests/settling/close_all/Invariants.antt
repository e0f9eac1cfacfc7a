use Rattle.std.proofs.Common.{◌≡◌, All, Some, slice_get, vec_len}
use Rattle.wcp_watch.specs.Settling.{IsEndOfSomeProbe}
use Rattle.test_watch.proofs.tests.settling.close_all.Given as goal

abbrev pub decreases-loop-probe : goal.decreases-loop-probe
decreases-loop-probe l = vec_len l.probes

abbrev pub invariant-loop-probe : goal.invariant-loop-probe
invariant-loop-probe l =
    All (λ probe. slice_get l.fn.probes.items probe.core.id ≡ Some probe) l.probes.items
    × All (IsEndOfSomeProbe l.fn.probes.items) l.ends.items
