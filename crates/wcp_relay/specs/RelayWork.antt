-- A relay at work.
use Rattle.std.specs.Prelude.{◌≡◌, ◌≢◌, ◌==◌, ℕ, ◌<◌, true, List, [], ◌∷◌, ◌++◌, map, All, AllPairs, IfNone, Result, Ok}
use Rattle.std.specs.Prelude.{Err, Option, Some, None}
use mathlib.Core.List.{IsPrefix}
use Rattle.std.specs.List.{list_any}
use Rattle.std.specs.FinSet as set
use Rattle.wcp_clock.specs.declared.note.Item.{Item}
use Rattle.wcp_model.specs.LaneRule.{IsNext, AreInSequence}
use Rattle.wcp_lane.specs.Passes.{Numbers}
use Rattle.wcp_lane.specs.Ends.{TakeEnd}
use Rattle.wcp_lane.specs.Message.{AllMayFollow}
use Rattle.wcp_clock.specs.Notes.{place_of, is_last}
use Rattle.wcp_relay.specs.declared.bundle.Bundle.{Bundle}
use Rattle.wcp_relay.specs.declared.outlet.Outlet.{Outlet}
use Rattle.wcp_relay.specs.declared.feed.Feed.{Feed}
use Rattle.wcp_relay.specs.declared.feed.Gap.{Gap}
use Rattle.wcp_relay.specs.declared.source.Source.{Source}
use Rattle.wcp_relay.specs.declared.source.Source.TheVariants.{Leaf, Inner}
use Rattle.wcp_relay.specs.declared.take_fault.TakeFault.{TakeFault}
use Rattle.wcp_relay.specs.declared.take_fault.TakeFault.TheVariants as take_fault
use Rattle.wcp_relay.specs.Feeding.{items_of, processes_of, fed, source_taken, IsInOrder, EndsWithLast, MayComeFromRing}
use Rattle.wcp_relay.specs.Feeding.{AreFromRings}
use Rattle.wcp_relay.specs.Bundles.{AreFirstBundles}

-- What was handed to an outlet: what it put, and then what it holds.
abbrev pub handed : Outlet → List Item
handed outlet = outlet.putter.put ++ outlet.hold.items

-- An item is the next one after these, which are of its process.
abbrev pub IsNextAfter : List Item → Item → Type 0
IsNextAfter before item = IsNext (λ (i : Item). place_of i.note) (λ (i : Item). is_last i.note) before item

-- An item is the next one after those of its process among these.
abbrev pub IsNextItem : List Item → Item → Type 0
IsNextItem items item = IsNextAfter (items_of item.from items) item

-- Items may follow these on a lane: each is of one of its processes, and the next one of its process after those before
-- it.
abbrev pub ItemsMayFollow : Numbers → List Item → List Item → Type 0
ItemsMayFollow members before items =
    AllMayFollow (λ (i : Item). i.from) (λ (i : Item). place_of i.note) (λ (i : Item). is_last i.note)
    members before items

-- These items are a run.
abbrev pub AreItemsInSequence : List Item → Type 0
AreItemsInSequence items = AreInSequence (λ (i : Item). place_of i.note) (λ (i : Item). is_last i.note) items

-- An outlet's hold has room, it holds items of the processes of its putter alone, and those handed to it are a run of
-- each process.
pub record IsSound (outlet : Outlet) : Type 0 where
  pub room : 0 < outlet.hold.room
  pub owned : All (λ item. set.contains outlet.putter.members item.from ≡ true) outlet.hold.items
  pub runs : (p : ℕ) → AreItemsInSequence (items_of p (handed outlet))

-- An outlet keeps its lane and its processes.
abbrev pub IsSameOutlet : Outlet → Outlet → Type 0
IsSameOutlet old new = (new.putter.lane ≡ old.putter.lane) × (new.putter.members ≡ old.putter.members)

-- An outlet put what these items begin with, cut into first bundles, and the rest of them is left.
abbrev pub HasPutBundles : List Item → List Item → Outlet → Outlet → Type 0
HasPutBundles items rest old new =
    (bundles : List Bundle) × (new.putter.messages ≡ old.putter.messages ++ bundles)
    × AreFirstBundles items bundles rest

-- An outlet was handed what was taken of each process, or a prefix of it once its lane is cut.
pub record IsFaithful (taken : ℕ → List Item) (outlet : Outlet) : Type 0 where
  pub whole : IfNone outlet.cut ((p : ℕ) → items_of p (handed outlet) ≡ taken p)
  pub prefix : (p : ℕ) → IsPrefix (items_of p (handed outlet)) (taken p)

-- A leaf has one feed for each of its processes, each in order, and its outlet was handed what they took.
pub record IsLeafAtWork (feeds : List Feed) (outlet : Outlet) : Type 0 where
  pub apart : AllPairs (λ p q. p ≢ q) (processes_of feeds)
  pub served : (p : ℕ) → set.contains outlet.putter.members p ≡ list_any (λ q. q == p) (processes_of feeds)
  pub in_order : All IsInOrder feeds
  pub sound : IsSound outlet
  pub faithful : IsFaithful (fed feeds) outlet

-- The feeds are of the same processes and rings.
abbrev pub AreSameFeeds : List Feed → List Feed → Type 0
AreSameFeeds old new =
    (processes_of new ≡ processes_of old) × (map (λ feed. feed.taker.ring) new ≡ map (λ feed. feed.taker.ring) old)

-- A relay met a gap of a process: the last item that it took is of the process, and isn't the next one after those of
-- it before, or may not come out of a ring. Its outlet was handed all before it, or a prefix of that once its lane is
-- cut. It wasn't cut since: it is as it was when the item was taken, which the gap tells.
pub record HasMetGap (gap : Gap) (taken : ℕ → List Item) (outlet : Outlet) : Type 0 where
  pub before : ℕ → List Item
  pub item : Item
  pub from : item.from ≡ gap.process
  pub latest : (q : ℕ) → taken q ≡ before q ++ items_of q (item ∷ [])
  pub out_of_place : IsNextAfter (before gap.process) item → ¬ MayComeFromRing item.note
  pub faithful : IsFaithful before outlet
  pub not_since : outlet.cut ≡ gap.cut

-- A relay with a lane takes items of its putter's processes, and its outlet was handed what it took.
pub record IsInnerAtWork (taker : TakeEnd Bundle Item) (outlet : Outlet) : Type 0 where
  pub among : (p : ℕ) → set.contains taker.members p ≡ true → set.contains outlet.putter.members p ≡ true
  pub sound : IsSound outlet
  pub faithful : IsFaithful (λ p. items_of p taker.taken) outlet

-- The process of which a leaf met a gap, if its taking ended so.
abbrev pub gap_met : Result (Unit {0}) TakeFault → Option ℕ
gap_met (Err (take_fault.Gap gap)) = Some gap.process
gap_met _ = None

-- What a leaf took came out of its rings.
abbrev pub IsFromRings : Source → Result (Unit {0}) TakeFault → Type 0
IsFromRings (Leaf feeds sleeper) met = AreFromRings (gap_met met) feeds.items
IsFromRings (Inner taker) met = Unit {0}

-- The items of a bundle that a taker takes may follow those that were taken before.
abbrev pub AreTakenNext : TakeEnd Bundle Item → List Item → Type 0
AreTakenNext taker items = ItemsMayFollow taker.members taker.taken items

-- A taker keeps its lane and its processes.
abbrev pub IsSameTaker : TakeEnd Bundle Item → TakeEnd Bundle Item → Type 0
IsSameTaker old new = (new.lane ≡ old.lane) × (new.members ≡ old.members)

-- The items of each process of the set end with a last one.
abbrev pub AreEnded : Numbers → (ℕ → List Item) → Type 0
AreEnded members taken = (p : ℕ) → set.contains members p ≡ true → EndsWithLast (taken p)

-- A relay is at work.
abbrev pub IsAtWork : Source → Outlet → Type 0
IsAtWork (Leaf feeds sleeper) outlet = IsLeafAtWork feeds.items outlet
IsAtWork (Inner taker) outlet = IsInnerAtWork taker outlet

-- A relay takes from the same rings, or from the same lane.
abbrev pub IsSameSource : Source → Source → Type 0
IsSameSource (Leaf old sleeper) (Leaf new same_sleeper) = AreSameFeeds old.items new.items
IsSameSource (Inner old) (Inner new) = IsSameTaker old new
IsSameSource _ _ = ⊥

-- How a relay ended its taking: a last note of each of its processes was taken, whether or not its outlet was cut
-- before; or a leaf met a gap; or the lane of any other relay was cut as it took. All else that was taken was handed to
-- the outlet, or a prefix of it once that is cut.
abbrev pub HasEnded : Source → Outlet → Result (Unit {0}) TakeFault → Type 0
HasEnded source outlet (Ok all) =
    AreEnded outlet.putter.members (source_taken source) × IsFaithful (source_taken source) outlet
HasEnded (Leaf feeds sleeper) outlet (Err (take_fault.Gap gap)) = HasMetGap gap (fed feeds.items) outlet
HasEnded (Inner taker) outlet (Err (take_fault.Cut cut)) = IsFaithful (λ p. items_of p taker.taken) outlet
HasEnded _ _ _ = ⊥
