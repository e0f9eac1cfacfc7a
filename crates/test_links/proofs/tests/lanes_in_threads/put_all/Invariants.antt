use Rattle.std.proofs.Common.{◌≡◌}
use Rattle.wcp_lane.specs.Snapshots.{HasPut}
use Rattle.test_links.proofs.tests.lanes_in_threads.put_all.Given as goal

abbrev pub invariant-loop-number : goal.invariant-loop-number
invariant-loop-number g l = HasPut l.from l.number l.putter × (l.putter.lane ≡ l.initial.putter.lane)
