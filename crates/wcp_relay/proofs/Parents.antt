-- A relay's parent is lower in number, and has below it what is below the relay.
use Rattle.wcp_relay.proofs.Words.{◌≡◌, ℕ, ◌<◌, Some, Parent, Root, Relay, Plan, IsCheckedPlan, parent_of, IsMetFrom}
use Rattle.wcp_relay.proofs.Words.{Itself, Above, IsBelow, parent_below}

-- the owner takes from a lane while k relays are open
abbrev pub IsOpen : ℕ → Parent → Type 0
IsOpen k Root = Unit {0}
IsOpen k (Relay above) = above < k

module _ (plan : Plan) (checked : IsCheckedPlan plan) where
  -- a parent takes from a lane once the lower relays are open
  pub owner_is_open : (relay : ℕ) (owner : Parent) → parent_of plan relay ≡ Some owner → IsOpen relay owner
  owner_is_open relay Root at = tt
  owner_is_open relay (Relay above) at = parent_below plan checked relay above at

-- members pass up: a climb that meets a relay meets its parent
parent_is_met : (plan : Plan) (relay parent from : ℕ) → parent_of plan relay ≡ Some (Relay parent)
    → IsMetFrom plan relay from
    → IsMetFrom plan parent from
parent_is_met plan relay parent from at Itself = Above at Itself
parent_is_met plan relay parent from at (Above is met) = Above is (parent_is_met plan relay parent _ at met)

pub members_pass_up : (plan : Plan) (relay parent p : ℕ) → parent_of plan relay ≡ Some (Relay parent)
    → IsBelow plan relay p
    → IsBelow plan parent p
members_pass_up plan relay parent p at (leaf, is, met) = (leaf, is, parent_is_met plan relay parent leaf at met)
