-- The processes below a relay.
use Rattle.std.specs.Prelude.{◌≡◌, ◌↔◌, ℕ, true, Some}
use Rattle.std.specs.FinSet as set
use Rattle.wcp_model.specs.declared.plan.Parent.TheVariants.{Relay}
use Rattle.wcp_model.specs.declared.plan.Plan.{Plan}
use Rattle.wcp_model.specs.Tree.{leaf_of, parent_of}
use Rattle.wcp_lane.specs.Passes.{Numbers}

-- The climb from a relay to the root meets the relay itself, its parent, that one's parent, and so on.
pub data IsMetFrom (plan : Plan) (relay : ℕ) : ℕ → Type 0 where
  Itself : IsMetFrom plan relay relay
  Above : {from parent : ℕ} → parent_of plan from ≡ Some (Relay parent) → IsMetFrom plan relay parent
      → IsMetFrom plan relay from

-- A process is below a relay where the climb from its leaf meets the relay.
abbrev pub IsBelow : Plan → ℕ → ℕ → Type 0
IsBelow plan relay p = (leaf : ℕ) × (leaf_of plan p ≡ Some leaf) × IsMetFrom plan relay leaf

-- The set has just the processes below a relay.
abbrev pub AreBelow : Plan → ℕ → Numbers → Type 0
AreBelow plan relay members = (p : ℕ) → (set.contains members p ≡ true) ↔ IsBelow plan relay p
