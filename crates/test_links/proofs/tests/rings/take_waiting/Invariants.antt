use Rattle.std.proofs.Common.{◌≡◌}
use Rattle.test_links.proofs.tests.rings.take_waiting.Given as goal

abbrev pub invariant-loop : goal.invariant-loop
invariant-loop g l = l.taker.ring ≡ l.initial.taker.ring
