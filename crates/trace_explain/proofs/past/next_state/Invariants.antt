use Rattle.std.proofs.Common.{◌≡◌, ◌<◌, ◌≤◌, ℕ, false}
use Rattle.trace_explain.specs.Left.{event_at}
use Rattle.trace_explain.proofs.past.next_state.Given as goal

abbrev pub invariant-loop-k : goal.invariant-loop-k
invariant-loop-k l = (k : ℕ) → l.fn.from ≤ k → k < l.k → (event_at l.events k).holds ≡ false
