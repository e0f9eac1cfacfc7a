use Rattle.wcp_lane.specs.Snapshots.{HasPut}
use Rattle.bench_calls.proofs.lane.hop_all.Given as goal

abbrev pub invariant-loop-number : goal.invariant-loop-number
invariant-loop-number g l = HasPut 0 l.number l.putter
