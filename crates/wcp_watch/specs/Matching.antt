-- The links of a watch, as its ends sit at the places of their numbers.
use Rattle.std.specs.Prelude.{◌≡◌, ℕ, ◌<◌, Option, None, List, length}
use Rattle.wcp_clock.specs.Limits.{most_relays}
use Rattle.wcp_clock.specs.declared.note.Item.{Item}
use Rattle.wcp_model.specs.PlanFault.{IsCheckedPlan}
use Rattle.wcp_model.specs.declared.plan.Parent.{Parent}
use Rattle.wcp_model.specs.declared.plan.Parent.TheVariants as parent
use Rattle.wcp_model.specs.declared.plan.Plan.{Plan}
use Rattle.wcp_lane.specs.Ends.{TakenEnd}
use Rattle.wcp_relay.specs.declared.bundle.Bundle.{Bundle}
use Rattle.wcp_relay.specs.LiveProbe.{ClosedSide}
use Rattle.wcp_relay.specs.RelayEnds.{fault_of, number_of}
use Rattle.wcp_relay.specs.Watches.{IsWired}
use Rattle.wcp_relay.specs.declared.feed.Feed.{Feed}
use Rattle.wcp_relay.specs.declared.relay_end.RelayEnd.{RelayEnd}
use Rattle.wcp_relay.specs.declared.parts.Watch.{Watch}
use Rattle.wcp_watch.specs.Seats.{SitsAt}
use Rattle.wcp_watch.specs.Settling.{AreLinksMatched, IsEndOfSomeProbe, IsEndOfSomeRelay}

-- The probe of a feed's process sits there, and has the other end of its ring.
pub record HasProbe (probes : List (Option ClosedSide)) (feed : Feed) : Type 0 where
  pub probe : ClosedSide
  pub sits : SitsAt probes feed.process probe
  pub one_ring : probe.link.ring ≡ feed.taker.ring

-- Where the inbox of an owner is: that of a relay by its number, and that of the root behind them.
abbrev pub inbox_place : Parent → ℕ
inbox_place parent.Root = most_relays
inbox_place (parent.Relay above) = above

-- This receipt is here, of the same lane and with the same items.
pub record IsKeptAt (inboxes : List (Option (TakenEnd Bundle Item))) (place : ℕ)
    (receipt : TakenEnd Bundle Item) : Type 0 where
  pub same : TakenEnd Bundle Item
  pub sits : SitsAt inboxes place same
  pub lane : same.lane ≡ receipt.lane
  pub taken : same.taken ≡ receipt.taken

-- Each receipt that was here is here still, of the same lane and with the same items.
abbrev pub KeepInboxes : List (Option (TakenEnd Bundle Item)) → List (Option (TakenEnd Bundle Item)) → Type 0
KeepInboxes old new = (place : ℕ) (receipt : TakenEnd Bundle Item)
    → SitsAt old place receipt → IsKeptAt new place receipt

-- The end of process p's probe sits there.
pub record HasProbeEnd (watch : Watch) (probes : List (Option ClosedSide)) (p : ℕ) : Type 0 where
  pub end : ClosedSide
  pub sits : SitsAt probes p end
  pub id : end.id ≡ p
  pub is_end : IsEndOfSomeProbe watch.probes.items end

-- The end of a relay sits there, and has no fault.
pub record HasRelayEnd (watch : Watch) (relays : List (Option RelayEnd)) (number : ℕ) : Type 0 where
  pub end : RelayEnd
  pub sits : SitsAt relays number end
  pub number_is : number_of end ≡ number
  pub whole : fault_of end ≡ None
  pub is_end : IsEndOfSomeRelay watch.relays.items end

-- The ends of all probes and relays of a watch that was wired by a checked plan sit there, without a fault, and this is
-- the receipt of the root's lane.
pub record AreEndsThere (count : ℕ) (probes : List (Option ClosedSide)) (root : TakenEnd Bundle Item)
    (relays : List (Option RelayEnd)) : Type 0 where
  pub plan : Plan
  pub watch_number : ℕ
  pub watch : Watch
  pub checked : IsCheckedPlan plan
  pub wired : IsWired plan watch_number watch
  pub all : count ≡ length plan.parents.items
  pub probe : (p : ℕ) → p < plan.n → HasProbeEnd watch probes p
  pub relay : (number : ℕ) → number < count → HasRelayEnd watch relays number
  pub lane : root.lane ≡ watch.inbox.taker.lane

-- The links of the first k relays were matched, as the ends sit.
abbrev pub AreFirstMatched : ℕ → List (Option ClosedSide) → TakenEnd Bundle Item → List (Option RelayEnd) → Type 0
AreFirstMatched k probes root relays =
    (number : ℕ) (relay : RelayEnd) → number < k → SitsAt relays number relay
    → AreLinksMatched (SitsAt probes) root (SitsAt relays) relay
