use Rattle.std.proofs.Common.{◌≡◌, ℕ, ◌<◌, length, get_or, slice_index}
use Rattle.wcp_clock.proofs.clock.Clock.restrict.Given as goal

abbrev pub invariant-loop-place : goal.invariant-loop-place
invariant-loop-place l = record {
  long : length l.known ≡ 16;
  done : (k : ℕ) → k < l.place → get_or l.known k 0 ≡ slice_index l.self (get_or l.processes k 0);
}
