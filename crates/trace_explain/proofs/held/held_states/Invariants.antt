use Rattle.std.proofs.Common.{◌≡◌, ◌<◌, ℕ, length}
use Rattle.std.specs.Prelude.{slice_index_or}
use Rattle.trace_explain.specs.declared.reason.HeldState.{HeldState}
use Rattle.trace_explain.specs.Left.{IsHeld}
use Rattle.trace_explain.proofs.held.held_states.Given as goal

abbrev pub invariant-loop-place : goal.invariant-loop-place
invariant-loop-place l = record {
  as_many : length l.held.items ≡ l.place;
  each : (p : ℕ) (one : HeldState) → p < l.place → IsHeld l.left p (slice_index_or l.held.items p one);
}
