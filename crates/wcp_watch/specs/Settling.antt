-- The settling of a watch: what its ends have in common, and what they tell together.
use Rattle.std.specs.Prelude.{◌≡◌, ◌≤◌, ℕ, true, false, Option, Some, None, IfNone, List, [], ◌∷◌, length, slice_get}
use Rattle.std.specs.Prelude.{All}
use Rattle.std.specs.FinSet as set
use Rattle.std.specs.List.{sum_by}
use Rattle.std.specs.Option.{option_flatten}
use Rattle.wcp_clock.specs.ProcessNumbers.{NumberSet}
use Rattle.wcp_clock.specs.declared.note.Item.{Item}
use Rattle.wcp_model.specs.FirstReason.{IsFirstReason}
use Rattle.wcp_model.specs.PlanFault.{IsCheckedPlan}
use Rattle.wcp_model.specs.Report.{IsDrained, notes_taken}
use Rattle.wcp_model.specs.ReportByClocks.{IsReportByClocks}
use Rattle.wcp_model.specs.Verdict.{cut_of}
use Rattle.wcp_model.specs.declared.outcome.Tally.{Tally}
use Rattle.wcp_model.specs.declared.plan.Parent.{Parent}
use Rattle.wcp_model.specs.declared.plan.Parent.TheVariants as parent
use Rattle.wcp_model.specs.declared.plan.Plan.{Plan}
use Rattle.wcp_book.specs.State.{BookState}
use Rattle.wcp_book.specs.Totals.{AreTotals}
use Rattle.wcp_lane.specs.Ends.{TakenEnd}
use Rattle.wcp_queue.specs.Checker.{IsReportOfAnyClocks}
use Rattle.wcp_relay.specs.declared.bundle.Bundle.{Bundle}
use Rattle.wcp_relay.specs.Feeding.{items_of}
use Rattle.wcp_relay.specs.LiveProbe.{LiveSide, ClosedSide, snapshots_in}
use Rattle.wcp_relay.specs.RelayEnds.{AreReceiptsOf, fault_of, number_of, relay_put, relay_taken, watch_of}
use Rattle.wcp_relay.specs.Watches.{IsWired}
use Rattle.wcp_relay.specs.declared.feed.Feed.{Feed}
use Rattle.wcp_relay.specs.declared.relay.Relay.{Relay}
use Rattle.wcp_relay.specs.declared.relay_end.Receipts.{Receipts}
use Rattle.wcp_relay.specs.declared.relay_end.Receipts.TheVariants.{Feeds, Lane}
use Rattle.wcp_relay.specs.declared.relay_end.RelayEnd.{RelayEnd}
use Rattle.wcp_relay.specs.declared.relay_end.RelayOutcome.{RelayOutcome}
use Rattle.wcp_relay.specs.declared.relay_end.RelayOutcome.TheVariants.{Whole, Faulted}
use Rattle.wcp_relay.specs.declared.parts.Watch.{Watch}
use Rattle.wcp_watch.specs.CheckerEnds.{IsEndOfLoop, IsReportTold, report_at, watched_at}
use Rattle.wcp_watch.specs.Seats.{AreAllThere, AreOfWatch, IsEndAt}
use Rattle.wcp_watch.specs.declared.checker_end.CheckerEnd.{CheckerEnd}
use Rattle.wcp_watch.specs.declared.settle_fault.SettleFault.{SettleFault}
use Rattle.wcp_watch.specs.declared.settle_fault.SettleFault.TheVariants as fault
use Rattle.wcp_model.specs.declared.outcome.Outcome.{Outcome}
use Rattle.wcp_model.specs.declared.outcome.Report.{Report}

-- This is the end of one of these probes, by its number: it has that probe's end of the ring.
pub record IsEndOfSomeProbe (probes : List LiveSide) (end : ClosedSide) : Type 0 where
  pub probe : LiveSide
  pub is_probe : slice_get probes end.id ≡ Some probe
  pub one_ring : end.link.ring ≡ probe.link.ring

-- This is the end of one of these relays, by its number: where it met no fault it has that relay's receipts, and put
-- what it took.
pub record IsEndOfSomeRelay (relays : List Relay) (end : RelayEnd) : Type 0 where
  pub relay : Relay
  pub is_relay : slice_get relays (number_of end) ≡ Some relay
  pub receipts : IfNone (fault_of end) (AreReceiptsOf relay end)
  pub whole : IfNone (fault_of end) ((p : ℕ) → relay_put end p ≡ relay_taken end p)

-- The checker's end comes from a watch that was wired by a checked plan, and so does each end that carries the number
-- of this watch.
pub record ComeFromWatch (probes : List ClosedSide) (relays : List RelayEnd) (checker : CheckerEnd) : Type 0 where
  pub plan : Plan
  pub watch : Watch
  pub checked : IsCheckedPlan plan
  pub wired : IsWired plan checker.watch watch
  pub of_probes : All (λ end. end.watch ≡ checker.watch → IsEndOfSomeProbe watch.probes.items end) probes
  pub of_relays : All (λ end. watch_of end ≡ checker.watch → IsEndOfSomeRelay watch.relays.items end) relays
  pub questions : List NumberSet
  pub of_checker : IsEndOfLoop watch.inbox questions checker

-- A ring was matched: the process was not lost, and its feed took what its probe put.
abbrev pub IsRingMatched : (ℕ → ClosedSide → Type 0) → Feed → Type 0
IsRingMatched IsProbe feed =
    (feed.lost ≡ false)
    × ((probe : ClosedSide) → IsProbe feed.process probe → feed.taker.taken ≡ probe.link.put)

-- These are the items of process p that were taken from an inbox: the root's, or that of a relay.
abbrev pub AreTakenFrom : TakenEnd Bundle Item → (ℕ → RelayEnd → Type 0) → Parent → ℕ → List Item → Type 0
AreTakenFrom root IsRelay parent.Root p items = items_of p root.taken ≡ items
AreTakenFrom root IsRelay (parent.Relay above) p items =
    (relay : RelayEnd) → IsRelay above relay → relay_taken relay p ≡ items

-- The lane of a relay was matched: what it put of each of its processes was taken from the inbox of its parent.
abbrev pub IsPutMatched : TakenEnd Bundle Item → (ℕ → RelayEnd → Type 0) → RelayOutcome → Type 0
IsPutMatched root IsRelay (Whole parent taken put) =
    (p : ℕ) → set.contains put.members p ≡ true → AreTakenFrom root IsRelay parent p (items_of p put.put)
IsPutMatched root IsRelay (Faulted fault source outlet met) = Unit {0}

abbrev pub IsLaneMatched : TakenEnd Bundle Item → (ℕ → RelayEnd → Type 0) → RelayEnd → Type 0
IsLaneMatched root IsRelay relay = IsPutMatched root IsRelay relay.outcome

-- The feeds of a relay's end, if it is a leaf.
abbrev pub feeds_in : Receipts → List Feed
feeds_in (Feeds feeds) = feeds.items
feeds_in (Lane receipt) = []

abbrev pub feeds_left_by : RelayOutcome → List Feed
feeds_left_by (Whole parent taken put) = feeds_in taken
feeds_left_by (Faulted fault source outlet met) = []

abbrev pub feeds_of : RelayEnd → List Feed
feeds_of relay = feeds_left_by relay.outcome

-- The links of a relay were matched: its rings, and its lane.
pub record AreLinksMatched (IsProbe : ℕ → ClosedSide → Type 0) (root : TakenEnd Bundle Item)
    (IsRelay : ℕ → RelayEnd → Type 0) (relay : RelayEnd) : Type 0 where
  pub rings : All (IsRingMatched IsProbe) (feeds_of relay)
  pub lane : IsLaneMatched root IsRelay relay

-- The share of a process: its snapshots were emitted, and taken.
abbrev pub share_of : ClosedSide → Tally
share_of probe = record { emitted = snapshots_in probe.link.put; taken = snapshots_in probe.link.put }

-- All rings and lanes were matched, the shares in the book are just those of the n processes, and the cut in it is just
-- that of the report of the checker's first question.
pub record AreFinished (probes : List ClosedSide) (relays : List RelayEnd) (checker : CheckerEnd)
    (book : BookState) : Type 0 where
  pub links : All (AreLinksMatched (IsEndAt (λ end. end.id) probes) checker.receipt (IsEndAt number_of relays)) relays
  pub shares : All (λ probe. option_flatten (slice_get book.shares probe.id) ≡ Some (share_of probe)) probes
  pub no_others : (p : ℕ) → checker.processes ≤ p → option_flatten (slice_get book.shares p) ≡ None
  pub found : book.found ≡ cut_of (report_at checker 0)

-- What each fault denies.
abbrev pub IsFreeOf : List ClosedSide → List RelayEnd → CheckerEnd → BookState → SettleFault → Type 0
IsFreeOf probes relays checker book fault.Stranger =
    AreOfWatch (λ end. end.watch) (λ end. end.id) checker.watch probes
    × AreOfWatch watch_of number_of checker.watch relays
IsFreeOf probes relays checker book fault.Missing =
    AreAllThere (λ end. end.id) checker.processes probes × AreAllThere number_of checker.relays relays
IsFreeOf probes relays checker book fault.Faulted =
    All (λ end. fault_of end ≡ None) relays × (checker.fault ≡ None)
IsFreeOf probes relays checker book fault.Unfinished = AreFinished probes relays checker book

-- The faults in the order in which they count, and the first one of these ends.
abbrev pub settle_faults : List SettleFault
settle_faults = fault.Stranger ∷ fault.Missing ∷ fault.Faulted ∷ fault.Unfinished ∷ []

abbrev pub IsFirstSettleFault : List ClosedSide → List RelayEnd → CheckerEnd → BookState → SettleFault → Type 0
IsFirstSettleFault probes relays checker book =
    IsFirstReason (λ fault. ¬ IsFreeOf probes relays checker book fault) settle_faults

-- What a run's ends tell: the checker took of each process what its probe put, each note once and in order; what it
-- tells of each question is the exact report by clocks of what it took, for the question's own watched processes, and
-- what it tells of the first is the report of the outcome; all is drained; the tallies count the snapshots of each
-- process, just they are in the book, and the book's totals are their sums; and the cut that the book tells is just
-- that of the outcome's report.
pub record IsSettled (probes : List ClosedSide) (checker : CheckerEnd) (book : BookState)
    (settled : Outcome) : Type 0 where
  pub all : AreAllThere (λ end. end.id) checker.processes probes
  pub whole : All (λ end. notes_taken end.id checker.receipt.taken ≡ end.link.put) probes
  pub any_clocks : (question : ℕ) (report : Report) → IsReportTold checker question report
      → IsReportOfAnyClocks checker.processes (watched_at checker question) checker.receipt.taken report
  pub exact : (question : ℕ) (report : Report) → IsReportTold checker question report
      → IsReportByClocks checker.processes (watched_at checker question) checker.receipt.taken report
  pub first : IsReportTold checker 0 settled.report
  pub drained : IsDrained checker.processes checker.receipt.taken
  pub processes : length settled.tallies ≡ checker.processes
  pub tallies : All (λ end. slice_get settled.tallies end.id ≡ Some (record {
    emitted = snapshots_in end.link.put;
    taken = snapshots_in (notes_taken end.id checker.receipt.taken);
  })) probes
  pub shares : (p : ℕ) → option_flatten (slice_get book.shares p) ≡ slice_get settled.tallies p
  pub found : book.found ≡ cut_of settled.report
  pub totals : (totals : Tally) → AreTotals book.shares totals
      → (totals.emitted ≡ sum_by (λ tally. tally.emitted) settled.tallies)
      × (totals.taken ≡ sum_by (λ tally. tally.taken) settled.tallies)
