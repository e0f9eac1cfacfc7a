use Rattle.wcp_model.proofs.Words.{ℕ, ◌<◌, ◌≤◌, List, ◌∷◌, length, IsPath}
use Rattle.wcp_model.proofs.plan.Plan.has_deep_path.Given as goal

abbrev pub invariant-loop-relay : goal.invariant-loop-relay
invariant-loop-relay l = (relay : ℕ) (path : List ℕ) → relay < l.relay → IsPath l.self.parents.items (relay ∷ path)
    → length (relay ∷ path) ≤ 8
