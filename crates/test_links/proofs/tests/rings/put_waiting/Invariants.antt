use Rattle.std.proofs.Common.{◌≡◌}
use Rattle.test_links.proofs.tests.rings.put_waiting.Given as goal

abbrev pub invariant-loop : goal.invariant-loop
invariant-loop g l = l.putter.ring ≡ l.initial.putter.ring
