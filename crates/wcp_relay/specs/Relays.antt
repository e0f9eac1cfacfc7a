-- The relays of a watch before anything runs.
use Rattle.std.specs.Prelude.{◌≡◌, ℕ, true, false, Option, Some, None, List, []}
use Rattle.wcp_model.specs.declared.plan.Plan.{Plan}
use Rattle.wcp_model.specs.Tree.{is_leaf, parent_of}
use Rattle.wcp_ring.specs.Ends.{TakeSide}
use Rattle.wcp_lane.specs.Ends.{LaneName}
use Rattle.wcp_relay.specs.declared.bundle.Bundle.{Bundle}
use Rattle.wcp_relay.specs.declared.relay.Relay.{Relay}
use Rattle.wcp_relay.specs.declared.source.Source.{Source}
use Rattle.wcp_relay.specs.declared.source.Source.TheVariants.{Leaf, Inner}
use Rattle.wcp_relay.specs.Members.{AreBelow}
use Rattle.wcp_relay.specs.Rings.{AreFeeds}

-- What a relay takes from: a leaf has a feed for each process that it serves, and any other relay the lane of just the
-- processes below it, which has the room of the plan and from which nothing was taken.
abbrev pub IsSource : Plan → List (Option TakeSide) → ℕ → Source → Type 0
IsSource plan takers relay (Leaf feeds sleeper) =
    (is_leaf plan relay ≡ true) × AreFeeds plan relay takers plan.n feeds.items
IsSource plan takers relay (Inner taker) =
    (is_leaf plan relay ≡ false) × (taker.taken ≡ []) × AreBelow plan relay taker.members × (taker.room ≡ plan.cap)

-- The lane by which a relay takes, if it serves relays.
abbrev pub inbox_lane : Source → Option (LaneName Bundle)
inbox_lane (Leaf feeds sleeper) = None
inbox_lane (Inner taker) = Some taker.lane

-- A relay of a watch before it runs: it knows its parent, and has its source, an empty hold with the room of the plan,
-- and an end of a lane that puts for just the processes below it.
pub record IsRelayOf (plan : Plan) (watch_number : ℕ) (takers : List (Option TakeSide))
    (place : ℕ) (relay : Relay) : Type 0 where
  pub number : relay.number ≡ place
  pub watch : relay.watch ≡ watch_number
  pub parent : parent_of plan place ≡ Some relay.parent
  pub source : IsSource plan takers place relay.source
  pub members : AreBelow plan place relay.putter.members
  pub none_put : relay.putter.put ≡ []
  pub none_held : relay.hold.items ≡ []
  pub room : relay.hold.room ≡ plan.hold
