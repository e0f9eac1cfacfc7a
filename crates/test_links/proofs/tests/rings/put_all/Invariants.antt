use Rattle.std.proofs.Common.{◌≡◌}
use Rattle.test_links.proofs.tests.rings.put_all.Given as goal

abbrev pub invariant-loop-number : goal.invariant-loop-number
invariant-loop-number g l = l.putter.ring ≡ l.initial.putter.ring
