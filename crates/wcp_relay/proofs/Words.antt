-- The words of the proofs of this crate, from one place.
pub use Rattle.std.proofs.Common.{◌≡◌, ◌≢◌, ℕ, ◌+◌, ◌<◌, ◌≤◌, List, [], ◌∷◌, ◌++◌, length, Option, Some, refl, sym, ap}
pub use Rattle.std.proofs.Common.{◌∙◌, ⊎_elim, arith, None, replicate, subst, append-nil, ◌||◌, true, false, true≢false}
pub use Rattle.std.proofs.Common.{eq-eqb, ◌⊎◌, inl, inr, append_assoc, zero, suc, Bool, get_or, set, map, length-append}
pub use Rattle.std.proofs.Common.{cond, ◌==◌, All, ◌-◌, take, drop, add-one, fold, slice_index, slice_set, AllPairs}
pub use Rattle.std.proofs.Common.{rules}
pub use Rattle.std.proofs.Math.Seq.{map-set_same, take-suc}
pub use Rattle.std.proofs.lemmas.Bool.{cases_eq, cases_Bool, cases_lt, ne_eqb}
pub use Rattle.std.proofs.lemmas.Bool.Decides.{nat_tests}
pub use Rattle.std.proofs.lemmas.Grind.{common_steps}
pub use Rattle.std.proofs.lemmas.List.{length-set, length_push, length-replicate, length-map, map-append, get_or-map}
pub use Rattle.std.proofs.lemmas.List.{drop-replicate, get_or-set_same, get_or-set_other, get_or_append_left}
pub use Rattle.std.proofs.lemmas.List.{get_or_push, nil_from_length, take_more, drop_at, length-take-le, take_more_set}
pub use Rattle.std.proofs.lemmas.List.{drop-set-lt, with_items_is, take_all}
pub use Rattle.std.proofs.lemmas.List.Elements.{All-map, All-set, All-push, filter-append, All-weaker, All-nil}
pub use Rattle.std.proofs.lemmas.List.Elements.{All-drop}
pub use Rattle.std.proofs.lemmas.List.Folds.{list_any_at}
pub use Rattle.std.proofs.lemmas.Option.{gets, slice_get_within, get_or_from_slice_get, slice_get-map}
pub use Rattle.std.specs.List.{list_any, last_or}
pub use Rattle.std.specs.Option.{option_map, is_some}
pub use Rattle.std.specs.Ordering.{nat_cmp}
pub use Rattle.std.specs.Prelude.{slice_get, Result, Ok, Err, OnOk, OnErr, IfNone, IfSome, if◌then◌else◌, IfErr, IsErr}
pub use Rattle.wcp_clock.specs.Notes.{is_last, place_of}
pub use Rattle.wcp_clock.specs.declared.note.Item.{Item}
pub use Rattle.wcp_clock.specs.declared.note.Note.{Note}
pub use Rattle.wcp_clock.specs.declared.note.Note.TheVariants.{Lost}
pub use Rattle.wcp_hold.specs.Held.{Held}
pub use Rattle.wcp_lane.proofs.Steps.{AreInSequence-push, All-front, may_follow}
pub use Rattle.wcp_lane.specs.Ends.{PutEnd, TakeEnd}
pub use Rattle.wcp_lane.specs.Passes.{Numbers}
pub use Rattle.wcp_clock.specs.ProcessNumbers.{AreProcessNumbers}
pub use Rattle.wcp_model.proofs.CheckedPlans.{parent_below}
pub use Rattle.wcp_model.proofs.NotesInTurn.{snapshot_clocks-append}
pub use Rattle.wcp_model.specs.LaneRule.{AreInSequence, IsNext}
pub use Rattle.wcp_model.specs.PlanFault.{IsCheckedPlan}
pub use Rattle.wcp_model.specs.ProbeLog.{Call, Observed, Sent, Received, Closed, ProbeState, after_call, setup}
pub use Rattle.wcp_model.specs.ProbeLog.{state_of_log}
pub use Rattle.wcp_model.specs.ReportByClocks.{AreRising}
pub use Rattle.wcp_model.specs.Report.{clocks_taken, notes_taken, snapshot_clocks}
pub use Rattle.wcp_model.specs.Tree.{parent_of}
pub use Rattle.wcp_model.specs.declared.plan.Parent.{Parent}
pub use Rattle.wcp_model.specs.declared.plan.Parent.TheVariants.{Root, Relay}
pub use Rattle.wcp_model.specs.declared.plan.Plan.{Plan}
pub use Rattle.wcp_ring.specs.Ends.{TakeSide}
pub use Rattle.wcp_relay.specs.Bundles.{most_bundle, Continues, IsRun, IsBundle, MayJoin, IsFirstBundle, filler}
pub use Rattle.wcp_relay.specs.Bundles.{AreFirstBundles}
pub use Rattle.wcp_relay.specs.Feeding.{items_of, fed, given_by, items_by, mark_of_lost, processes_of, IsNextAfterNotes}
pub use Rattle.wcp_relay.specs.Feeding.{IsNextOfProcess, IsInOrder, EndsWithLast, MayComeFromRing, CameFromRing}
pub use Rattle.wcp_relay.specs.Feeding.{AreFromRings, is_gap_of, source_taken, Serves, IsNewFeed}
pub use Rattle.wcp_relay.specs.LiveProbe.{HasLog, IsSameLive, LiveAccepts, LiveFor, LiveSide, NotesRise, emitted_by}
pub use Rattle.wcp_relay.specs.LiveProbe.{fresh_core}
pub use Rattle.wcp_relay.specs.Members.{IsMetFrom, Itself, Above, IsBelow}
pub use Rattle.wcp_relay.specs.RelayEnds.{IsEndOfSource, taken_in}
pub use Rattle.wcp_relay.specs.RelayWork.{handed, IsFaithful, IsNextAfter, HasMetGap, IsSound, IsNextItem, IsSameOutlet}
pub use Rattle.wcp_relay.specs.RelayWork.{IsLeafAtWork, AreTakenNext, IsInnerAtWork, ItemsMayFollow, AreEnded}
pub use Rattle.wcp_relay.specs.RelayWork.{AreItemsInSequence, IsAtWork, HasEnded, IsSameTaker, IsFromRings, gap_met}
pub use Rattle.wcp_relay.specs.RelayWork.{HasPutBundles}
pub use Rattle.wcp_relay.specs.declared.bundle.Bundle.{Bundle}
pub use Rattle.wcp_relay.specs.declared.feed.Feed.{Feed}
pub use Rattle.wcp_relay.specs.declared.outlet.Outlet.{Outlet}
pub use Rattle.wcp_relay.specs.declared.source.Source.{Source}
pub use Rattle.wcp_relay.specs.declared.source.Source.TheVariants.{Leaf, Inner}
pub use mathlib.Core.List.{IsPrefix}
pub use Rattle.wcp_model.specs.declared.probe_setup.ProbeSetup.{ProbeSetup}
