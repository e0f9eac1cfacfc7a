use Rattle.wcp_plain.proofs.Words.{◌≡◌, ℕ, ◌<◌, interval_at, IsTrueAt}
use Rattle.wcp_plain.proofs.cuts.is_true_in.Given as goal

abbrev pub invariant-loop-step : goal.invariant-loop-step
invariant-loop-step l =
    record {
      current : l.current ≡ interval_at l.steps l.process l.step-index;
      none : (place : ℕ) → place < l.step-index
          → IsTrueAt l.steps (record { process = l.process; interval = l.interval }) place → ⊥;
    }
