use Rattle.std.proofs.Common.{◌≡◌}
use Rattle.test_links.proofs.tests.lanes_in_threads.take_all.Given as goal

abbrev pub invariant-loop : goal.invariant-loop
invariant-loop g l = l.taker.lane ≡ l.initial.taker.lane
