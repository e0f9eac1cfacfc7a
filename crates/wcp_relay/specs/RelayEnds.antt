-- What is left of a relay.
use Rattle.std.specs.Prelude.{◌≡◌, ℕ, Option, Some, None, IfNone, List, Result, Ok, Err}
use Rattle.std.specs.FinSet as set
use Rattle.wcp_clock.specs.declared.note.Item.{Item}
use Rattle.wcp_lane.specs.Ends.{PutEnd}
use Rattle.wcp_lane.specs.declared.fault.Cut.{Cut}
use Rattle.wcp_model.specs.declared.plan.Parent.{Parent}
use Rattle.wcp_relay.specs.declared.bundle.Bundle.{Bundle}
use Rattle.wcp_relay.specs.declared.relay.Relay.{Relay}
use Rattle.wcp_relay.specs.declared.source.Source.{Source}
use Rattle.wcp_relay.specs.declared.source.Source.TheVariants.{Leaf, Inner}
use Rattle.wcp_relay.specs.declared.relay_end.Receipts.{Receipts}
use Rattle.wcp_relay.specs.declared.relay_end.Receipts.TheVariants.{Feeds, Lane}
use Rattle.wcp_relay.specs.declared.relay_end.RelayFault.{RelayFault}
use Rattle.wcp_relay.specs.declared.relay_end.RelayFault.TheVariants as fault
use Rattle.wcp_relay.specs.declared.relay_end.RelayEnd.{RelayEnd}
use Rattle.wcp_relay.specs.declared.relay_end.RelayOutcome.{RelayOutcome}
use Rattle.wcp_relay.specs.declared.relay_end.RelayOutcome.TheVariants.{Whole, Faulted}
use Rattle.wcp_relay.specs.declared.take_fault.TakeFault.{TakeFault}
use Rattle.wcp_relay.specs.declared.take_fault.TakeFault.TheVariants as take_fault
use Rattle.wcp_relay.specs.Feeding.{fed, items_of, source_taken, AreFromRings}
use Rattle.wcp_relay.specs.RelayWork.{AreSameFeeds, IsSameSource, HasEnded, IsFromRings}

-- What is left of a source: the feeds of a leaf, or the receipt of a lane, which was matched with no putter yet.
abbrev pub IsEndOfSource : Source → Receipts → Type 0
IsEndOfSource (Leaf feeds sleeper) (Feeds left) = left ≡ feeds
IsEndOfSource (Inner taker) (Lane receipt) =
    (receipt.lane ≡ taker.lane) × (receipt.members ≡ taker.members) × (receipt.matched ≡ set.empty)
    × (receipt.taken ≡ taker.taken)
IsEndOfSource _ _ = ⊥

-- What is left of a relay's source is of the same rings, or of the same lane.
abbrev pub IsReceiptOf : Source → Receipts → Type 0
IsReceiptOf (Leaf feeds sleeper) (Feeds left) = AreSameFeeds feeds.items left.items
IsReceiptOf (Inner taker) (Lane receipt) =
    (receipt.lane ≡ taker.lane) × (receipt.members ≡ taker.members) × (receipt.matched ≡ set.empty)
IsReceiptOf _ _ = ⊥

-- What is left of a relay is of the same source and of the same putter. Where it met no fault, it has the same parent.
abbrev pub IsLeftOf : Relay → RelayOutcome → Type 0
IsLeftOf relay (Whole parent taken put) =
    (parent ≡ relay.parent) × IsReceiptOf relay.source taken
    × (put.lane ≡ relay.putter.lane) × (put.members ≡ relay.putter.members)
IsLeftOf relay (Faulted fault source outlet met) =
    IsSameSource relay.source source.value
    × (outlet.value.putter.lane ≡ relay.putter.lane) × (outlet.value.putter.members ≡ relay.putter.members)

abbrev pub AreReceiptsOf : Relay → RelayEnd → Type 0
AreReceiptsOf relay end = IsLeftOf relay end.outcome

-- The items of process p that a relay took.
abbrev pub taken_in : Receipts → ℕ → List Item
taken_in (Feeds feeds) p = fed feeds.items p
taken_in (Lane receipt) p = items_of p receipt.taken

abbrev pub outcome_taken : RelayOutcome → ℕ → List Item
outcome_taken (Whole parent taken put) p = taken_in taken p
outcome_taken (Faulted fault source outlet met) p = source_taken source.value p

abbrev pub relay_taken : RelayEnd → ℕ → List Item
relay_taken end p = outcome_taken end.outcome p

-- The items of process p that a relay put.
abbrev pub outcome_put : RelayOutcome → ℕ → List Item
outcome_put (Whole parent taken put) p = items_of p put.put
outcome_put (Faulted fault source outlet met) p = items_of p outlet.value.putter.put

abbrev pub relay_put : RelayEnd → ℕ → List Item
relay_put end p = outcome_put end.outcome p

-- The number of a relay, and of its watch.
abbrev pub number_of : RelayEnd → ℕ
number_of end = end.number

abbrev pub watch_of : RelayEnd → ℕ
watch_of end = end.watch

-- The end of a relay that met no fault.
abbrev pub whole_end : ℕ → ℕ → Parent → Receipts → PutEnd Bundle Item → RelayEnd
whole_end number watch parent taken put =
    record { number = number; watch = watch; outcome = Whole parent taken put }

-- The fault that a relay met.
abbrev pub outcome_fault : RelayOutcome → Option RelayFault
outcome_fault (Whole parent taken put) = None
outcome_fault (Faulted fault source outlet met) = Some fault

abbrev pub fault_of : RelayEnd → Option RelayFault
fault_of end = outcome_fault end.outcome

-- The fault that came first, if one came: a cut as a relay put, or else what ended its taking. Where it met a gap its
-- outlet was cut before that or never, by HasMetGap; and of a cut as it put and one as it took the answers are alike.
abbrev pub first_met : Option Cut → Result (Unit {0}) TakeFault → Option RelayFault
first_met (Some cut) met = Some (fault.Cut cut)
first_met None (Ok all) = None
first_met None (Err (take_fault.Gap gap)) = Some (fault.Gap gap.process)
first_met None (Err (take_fault.Cut answer)) = Some (fault.Cut answer.cut)

-- A faulted relay tells the fault that came first, of what its outlet and its taking met.
abbrev pub HasMetFirst : RelayOutcome → Type 0
HasMetFirst (Whole parent taken put) = Unit {0}
HasMetFirst (Faulted fault source outlet met) =
    (first_met outlet.value.cut met.value ≡ Some fault) × HasEnded source.value outlet.value met.value

abbrev pub IsFirstFault : RelayEnd → Type 0
IsFirstFault end = HasMetFirst end.outcome

-- What a leaf took came out of its rings, so that it made each mark of a lost process that it put.
abbrev pub IsOutcomeFromRings : RelayOutcome → Type 0
IsOutcomeFromRings (Whole parent (Feeds feeds) put) = AreFromRings None feeds.items
IsOutcomeFromRings (Whole parent (Lane receipt) put) = Unit {0}
IsOutcomeFromRings (Faulted fault source outlet met) = IsFromRings source.value met.value

abbrev pub IsEndFromRings : RelayEnd → Type 0
IsEndFromRings end = IsOutcomeFromRings end.outcome

-- What a relay leaves as it has run: it has its number and its receipts, and where it met no fault it put what it took.
pub record IsEndOfRelay (relay : Relay) (end : RelayEnd) : Type 0 where
  pub number : number_of end ≡ relay.number
  pub watch : watch_of end ≡ relay.watch
  pub receipts : AreReceiptsOf relay end
  pub whole : IfNone (fault_of end) ((p : ℕ) → relay_put end p ≡ relay_taken end p)
