-- How the parts of a watch hang together before anything runs.
use Rattle.std.specs.Prelude.{◌≡◌, ◌≢◌, ◌↔◌, ℕ, ◌<◌, true, Option, Some, List, [], length, slice_get, slice_index_or}
use Rattle.std.specs.FinSet as set
use Rattle.wcp_clock.specs.declared.note.Item.{Item}
use Rattle.wcp_model.specs.declared.plan.Parent.{Parent}
use Rattle.wcp_model.specs.declared.plan.Parent.TheVariants.{Root, Relay}
use Rattle.wcp_model.specs.declared.plan.Plan.{Plan}
use Rattle.wcp_model.specs.Tree.{parent_of}
use Rattle.wcp_lane.specs.Ends.{LaneName, PutEnd}
use Rattle.wcp_lane.specs.Passes.{Numbers}
use Rattle.wcp_relay.specs.declared.bundle.Bundle.{Bundle}
use Rattle.wcp_relay.specs.declared.source.Source.{Source}
use Rattle.wcp_relay.specs.Members.{AreBelow, IsBelow}
use Rattle.wcp_relay.specs.Relays.{inbox_lane}

-- A relay's set in the lane of an owner: the processes below it where the owner is its parent, and else none.
pub record IsMemberSetOf (plan : Plan) (owner : Parent) (relay : ℕ) (members : Numbers) : Type 0 where
  pub child : parent_of plan relay ≡ Some owner → AreBelow plan relay members
  pub other : parent_of plan relay ≢ Some owner → members ≡ set.empty

-- The sets of a lane: one for each relay, by number.
abbrev pub AreMemberSetsOf : Plan → Parent → List Numbers → Type 0
AreMemberSetsOf plan owner sets =
    (relay : ℕ) (d : Numbers) → relay < length sets → IsMemberSetOf plan owner relay (slice_index_or sets relay d)

-- The numbers of a lane's sets are those of the processes below the owner's children.
abbrev pub AreBelowChildren : Plan → Parent → Numbers → Type 0
AreBelowChildren plan owner members = (p : ℕ)
    → (set.contains members p ≡ true) ↔ ((relay : ℕ) × (parent_of plan relay ≡ Some owner) × IsBelow plan relay p)

-- A relay's end of a lane before any put: it puts for just the processes below the relay.
pub record IsSeatOf (plan : Plan) (relay : ℕ) (lane : LaneName Bundle) (putter : PutEnd Bundle Item) : Type 0 where
  pub on : putter.lane ≡ lane
  pub members : AreBelow plan relay putter.members
  pub empty : putter.put ≡ []

-- The relays whose parent this one is are seated on its lane.
abbrev pub AreChildrenSeated : Plan → ℕ → Source → List (Option (PutEnd Bundle Item)) → Type 0
AreChildrenSeated plan relay source seats =
    (child : ℕ) → parent_of plan child ≡ Some (Relay relay)
    → (lane : LaneName Bundle) × (inbox_lane source ≡ Some lane)
    × (putter : PutEnd Bundle Item) × (slice_get seats child ≡ Some (Some putter)) × IsSeatOf plan child lane putter

-- The relays under the root are seated on its lane.
abbrev pub AreSeatedUnder : Plan → LaneName Bundle → List (Option (PutEnd Bundle Item)) → Type 0
AreSeatedUnder plan root seats =
    (relay : ℕ) → parent_of plan relay ≡ Some Root
    → (putter : PutEnd Bundle Item) × (slice_get seats relay ≡ Some (Some putter)) × IsSeatOf plan relay root putter
