use Rattle.wcp_model.proofs.Words.{◌≡◌, ℕ, ◌<◌, slice_get, Some, Relay}
use Rattle.wcp_model.proofs.plan.Plan.has_wrong_parent.Given as goal

abbrev pub invariant-loop-relay : goal.invariant-loop-relay
invariant-loop-relay l = (below above : ℕ) → below < l.relay → slice_get l.self.parents.items below ≡ Some (Relay above)
    → above < below
