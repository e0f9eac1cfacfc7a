use Rattle.wcp_model.proofs.Words.{ℕ, ◌<◌, IsTrue, ServesRelay, is_leaf}
use Rattle.wcp_model.proofs.plan.Plan.has_childless_relay.Given as goal

abbrev pub invariant-loop-relay : goal.invariant-loop-relay
invariant-loop-relay l = (relay : ℕ) → relay < l.relay → ¬ IsTrue (is_leaf l.self relay) → ¬ ServesRelay l.self relay
    → ⊥
