-- A watch that is wired as its plan says, before anything runs.
use Rattle.std.specs.Prelude.{◌≡◌, ◌↔◌, ℕ, ◌<◌, true, Option, Some, None, List, [], length, slice_get}
use Rattle.std.specs.FinSet as set
use Rattle.wcp_model.specs.declared.plan.Parent.{Parent}
use Rattle.wcp_model.specs.declared.plan.Parent.TheVariants as parent
use Rattle.wcp_model.specs.declared.plan.Plan.{Plan}
use Rattle.wcp_ring.specs.Ends.{TakeSide}
use Rattle.wcp_lane.specs.Ends.{LaneName}
use Rattle.wcp_relay.specs.declared.bundle.Bundle.{Bundle}
use Rattle.wcp_relay.specs.declared.relay.Relay.{Relay}
use Rattle.wcp_relay.specs.declared.parts.Watch.{Watch}
use Rattle.wcp_relay.specs.Relays.{IsRelayOf, inbox_lane}
use Rattle.wcp_relay.specs.Rings.{AreRings}

-- The lane by which a relay takes, if it is there and serves relays.
abbrev pub lane_below : Option Relay → Option (LaneName Bundle)
lane_below (Some relay) = inbox_lane relay.source
lane_below None = None

-- The lane by which an owner takes: the root's, or that of a relay.
abbrev pub lane_to : LaneName Bundle → List Relay → Parent → Option (LaneName Bundle)
lane_to root relays parent.Root = Some root
lane_to root relays (parent.Relay above) = lane_below (slice_get relays above)

-- The relay at a place is that of the plan, and puts on the lane that its parent takes from.
pub record IsLinked (plan : Plan) (watch_number : ℕ) (root : LaneName Bundle) (takers : List (Option TakeSide))
    (relays : List Relay) (place : ℕ) : Type 0 where
  pub relay : Relay
  pub is_relay : slice_get relays place ≡ Some relay
  pub of_plan : IsRelayOf plan watch_number takers place relay
  pub above : lane_to root relays relay.parent ≡ Some relay.putter.lane

-- There is a relay for each of the plan, in rising numbers.
pub record AreLinked (plan : Plan) (watch_number : ℕ) (root : LaneName Bundle) (takers : List (Option TakeSide))
    (relays : List Relay) : Type 0 where
  pub count : length relays ≡ length plan.parents.items
  pub each : (place : ℕ) → place < length relays → IsLinked plan watch_number root takers relays place

-- A watch is wired as its plan says: the probe of each process and its leaf's feed are the two ends of one ring, each
-- relay puts on the lane that its parent takes from, and the checker takes from the root's lane, of just the processes
-- of the plan. Each ring, hold and lane has the room of the plan, and nothing was put or taken.
pub record IsWired (plan : Plan) (watch_number : ℕ) (watch : Watch) : Type 0 where
  pub takers : List (Option TakeSide)
  pub rings : AreRings plan watch_number plan.n watch.probes.items takers
  pub linked : AreLinked plan watch_number watch.inbox.taker.lane takers watch.relays.items
  pub number : watch.inbox.watch ≡ watch_number
  pub relays : watch.inbox.relays ≡ length plan.parents.items
  pub members : (p : ℕ) → (set.contains watch.inbox.taker.members p ≡ true) ↔ (p < plan.n)
  pub none_taken : watch.inbox.taker.taken ≡ []
  pub room : watch.inbox.taker.room ≡ plan.cap
