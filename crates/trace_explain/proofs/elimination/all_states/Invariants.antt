use Rattle.std.proofs.Common.{◌≡◌, ◌<◌, ℕ, length}
use Rattle.trace_explain.specs.History.{host_at}
use Rattle.trace_explain.specs.Left.{AreFirst, left_at}
use Rattle.trace_explain.proofs.elimination.all_states.Given as goal

abbrev pub invariant-loop-host : goal.invariant-loop-host
invariant-loop-host l = record {
  many : length l.left.items ≡ l.host-index;
  each : (p : ℕ) → p < l.host-index → AreFirst (host_at l.hosts p) (left_at l.left.items p);
}
