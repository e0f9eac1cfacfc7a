-- The words of the proofs of this crate, from one place.
pub use Rattle.std.proofs.Common.{◌≡◌, ◌≢◌, ℕ, zero, suc, ◌<◌, List, [], ◌∷◌, ◌++◌, length, length-set, Option, Some}
pub use Rattle.std.proofs.Common.{Contains, get_or, true, false, ◌+◌, refl, sym, ap, subst, ◌∙◌, inl, inr, ◌⊎◌, arith}
pub use Rattle.std.proofs.Common.{◌==◌, map, None, ⊎_elim, ◌↔◌, Result, Ok, Err, ◌≤◌, Vec, Global, subst₂, All, Bool}
pub use Rattle.std.proofs.Common.{take, append_assoc, true≢false, slice_get, ◌||◌}
pub use Rattle.std.proofs.lemmas.Bool.{cases_eq, cases_lt}
pub use Rattle.std.proofs.lemmas.Grind.{common_steps}
pub use Rattle.std.proofs.lemmas.List.{append-nil, get_or_append_left, length-append, length-map, get_or-map}
pub use Rattle.std.proofs.lemmas.List.{length-replicate, take_all, take_more, same_lists}
pub use Rattle.std.proofs.lemmas.List.Elements.{All-contains, All-cons, All-nil, Contains-get_or, Contains-append_right}
pub use Rattle.std.proofs.lemmas.List.Elements.{All-head, All-tail, All-from_recursion, All-weaker, recursion_from_All}
pub use Rattle.std.proofs.lemmas.List.Elements.{All-map}
pub use Rattle.std.proofs.lemmas.List.Folds.{list_any-append}
pub use Rattle.std.proofs.lemmas.Option.{gets, get_or_from_slice_get, slice_get-get_or, slice_get_past}
pub use Rattle.std.proofs.lemmas.Option.{slice_get_within}
pub use Rattle.std.specs.List.{list_any, AllByRecursion, sum_by}
pub use Rattle.std.specs.Option.{option_flatten}
pub use Rattle.std.specs.Prelude.{slice_set, slice_index_or, is_some, AllPairs, IsErr, IfErr, IsOk, IfNone, IfSome}
pub use Rattle.std.specs.Prelude.{OnOk}
pub use Rattle.std.specs.Result.{IsErrAnd, result_err}
pub use Rattle.wcp_book.specs.State.{BookState}
pub use Rattle.wcp_clock.specs.Limits.{most_processes, most_relays}
pub use Rattle.wcp_clock.specs.declared.note.Item.{Item}
pub use Rattle.wcp_clock.specs.declared.note.Note.{Note}
pub use Rattle.wcp_lane.specs.Ends.{TakenEnd, LaneName, PutEnd, TakeEnd}
pub use Rattle.wcp_lane.specs.Passes.{Numbers}
pub use Rattle.wcp_model.proofs.CheckedPlans.{attached_exists, has_leaf, is_its_leaf, parent_below, few_processes}
pub use Rattle.wcp_model.proofs.CheckedPlans.{few_relays, some_process}
pub use Rattle.wcp_model.specs.Report.{notes_taken, clocks_taken, snapshot_clocks}
pub use Rattle.wcp_model.specs.ReportByClocks.{ClocksRise, AreInTurn, IsNextNote}
pub use Rattle.wcp_model.specs.Report.{IsDrained}
pub use Rattle.wcp_model.specs.Tree.{is_leaf, parent_of, leaf_of}
pub use Rattle.wcp_model.specs.declared.plan.Parent.{Parent}
pub use Rattle.wcp_queue.specs.Checker.{CheckerState, processes, closed_of, lost_of, MayTake, StandsForItems}
pub use Rattle.wcp_ring.specs.Ends.{Ring, EndedSide}
pub use Rattle.wcp_relay.proofs.Accepting.{ItemMayFollow, one_may_follow}
pub use Rattle.wcp_relay.proofs.Entries.{set_elsewhere, set_here}
pub use Rattle.wcp_relay.specs.Feeding.{Serves, fed, given_by, items_by, items_of, processes_of}
pub use Rattle.wcp_relay.specs.LiveProbe.{ClosedSide, NotesRise, IsEndOfProbe, LiveSide}
pub use Rattle.wcp_relay.specs.RelayEnds.{IsLeftOf, IsReceiptOf, outcome_fault, outcome_put, outcome_taken, relay_put}
pub use Rattle.wcp_relay.specs.RelayEnds.{relay_taken, taken_in, fault_of, number_of, watch_of, AreReceiptsOf}
pub use Rattle.wcp_relay.specs.RelayEnds.{whole_end, IsEndOfRelay}
pub use Rattle.wcp_relay.specs.RelayWork.{AreSameFeeds, IsSameTaker, ItemsMayFollow}
pub use Rattle.wcp_relay.specs.Relays.{IsSource, inbox_lane}
pub use Rattle.wcp_relay.specs.Watches.{IsLinked, lane_below, lane_to, IsWired}
pub use Rattle.wcp_relay.specs.declared.bundle.Bundle.{Bundle}
pub use Rattle.wcp_relay.specs.declared.feed.Feed.{Feed}
pub use Rattle.wcp_relay.specs.declared.relay_end.RelayOutcome.{RelayOutcome}
pub use Rattle.wcp_relay.specs.declared.relay_end.RelayOutcome.TheVariants.{Whole}
pub use Rattle.wcp_relay.specs.declared.relay_end.Receipts.{Receipts}
pub use Rattle.wcp_relay.specs.declared.relay_end.Receipts.TheVariants.{Feeds, Lane}
pub use Rattle.wcp_relay.specs.declared.relay_end.RelayEnd.{RelayEnd}
pub use Rattle.wcp_relay.specs.declared.source.Source.{Source}
pub use Rattle.wcp_relay.specs.declared.source.Source.TheVariants.{Leaf, Inner}
pub use Rattle.wcp_watch.specs.CheckerEnds.{AreAllEnded, IsEndOfLoop, IsLowestLost, IsSameWatch, HasTakenClose}
pub use Rattle.wcp_watch.specs.CheckerEnds.{HasTakenLast, TakesItems, first_fault, KeepsUp, IsFreshFor, IsOfLane}
pub use Rattle.wcp_watch.specs.CheckerEnds.{IsReportTold, report_at, watched_at}
pub use Rattle.wcp_queue.specs.Panel.{StandForItems, question_at, no_question}
pub use Rattle.wcp_watch.specs.Matching.{AreEndsThere, AreFirstMatched, HasProbe, IsKeptAt, inbox_place, KeepInboxes}
pub use Rattle.wcp_watch.specs.Seats.{AreOfWatch, AreSeats, AreAllSeated, SitsAt, AreAllThere, IsEndAt}
pub use Rattle.wcp_watch.specs.SeatedEnds.{AreSeatedAndWhole, AreShares}
pub use Rattle.wcp_watch.specs.declared.seated_ends.SeatedEnds.{SeatedEnds}
pub use Rattle.wcp_watch.specs.Settling.{AreTakenFrom, IsPutMatched, IsRingMatched, feeds_in, feeds_left_by}
pub use Rattle.wcp_watch.specs.Settling.{IsFirstSettleFault, IsFreeOf, settle_faults, AreLinksMatched, ComeFromWatch}
pub use Rattle.wcp_model.specs.Verdict.{cut_of}
pub use Rattle.wcp_watch.specs.Settling.{IsSettled, share_of, IsLaneMatched, IsEndOfSomeProbe, IsEndOfSomeRelay}
pub use Rattle.wcp_watch.specs.declared.checker_end.CheckerEnd.{CheckerEnd}
pub use Rattle.wcp_watch.specs.declared.settle_fault.SettleFault.TheVariants.{Stranger, Missing, Faulted, Unfinished}
pub use Rattle.wcp_clock.specs.ProcessNumbers.{NumberSet}
pub use Rattle.wcp_model.specs.declared.flag.Flag.{Flag}
