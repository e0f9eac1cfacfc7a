use Rattle.std.proofs.Common.{◌≡◌}
use Rattle.test_links.proofs.tests.rings.take_all.Given as goal

abbrev pub invariant-loop-number : goal.invariant-loop-number
invariant-loop-number g l = l.taker.ring ≡ l.initial.taker.ring
