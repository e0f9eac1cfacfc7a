-- The words of the proofs of this crate, from one place.
pub use Rattle.std.proofs.Common.{◌≡◌, ℕ, ◌+◌, ◌<◌, true, false, true≢false, cond, List, [], ◌∷◌, ◌++◌, length, fold}
pub use Rattle.std.proofs.Common.{filter, slice_index, slice_set, count_by, Some, refl, sym, ap, ◌∙◌, subst, inl, inr}
pub use Rattle.std.proofs.Common.{⊎_elim, append_assoc, append-nil, eq-eqb, le_refl, arith, ◌≤◌, get_or, slice_get, ◌≢◌}
pub use Rattle.std.proofs.Common.{zero, suc, ◌⊎◌, ◌==◌, ◌-◌, ◌&&◌, Bool, map, take, drop, All, ap₂, subst₂, ◌↔◌, max}
pub use Rattle.std.proofs.Common.{replicate, None, add-one, Contains, IsTrue, slice_index_or, length-append, Option}
pub use Rattle.std.proofs.Common.{eqb-true, min, sum, Result, Err, lit<}
pub use Rattle.std.proofs.lemmas.Bool.{cases_Bool, false_from_ne_true, cases_lt, cases_eq, cases_order, and_parts}
pub use Rattle.std.proofs.lemmas.Bool.{ne_eqb, cond_both, and_from, false≢true, iff_false}
pub use Rattle.std.proofs.lemmas.Grind.{common_steps, flat_map-append}
pub use Rattle.std.proofs.lemmas.List.{take_at, take_all, take_more, take-take, take-map, take-append-drop, length-map}
pub use Rattle.std.proofs.lemmas.List.{length-take, length-replicate, get_or-replicate, length-set, get_or-set_same}
pub use Rattle.std.proofs.lemmas.List.{get_or-set_other, ext_get_or, get_or_append_left, get_or_past, length_push}
pub use Rattle.std.proofs.lemmas.List.{get_or_default, map-append, map_push, take-append-le, get_or-append-add}
pub use Rattle.std.proofs.lemmas.List.{nil_from_length, get_or_push}
pub use Rattle.std.proofs.lemmas.List.Elements.{Contains-get_or, filter-append, Contains-append_cases}
pub use Rattle.std.proofs.lemmas.List.Elements.{Contains-append_right, Contains-push_cases, Contains-append_left}
pub use Rattle.std.proofs.lemmas.List.Elements.{Contains-push}
pub use Rattle.std.proofs.lemmas.List.Folds.{list_any-append, list_any_at, Any-from_list_any}
pub use Rattle.std.proofs.lemmas.List.FromFn.{length-map-range_with_len, get_or-map-range_with_len}
pub use Rattle.std.proofs.lemmas.List.Kept.{AllPairs-from_increasing}
pub use Rattle.std.proofs.lemmas.List.Sums.{sum_by_push, sum_by-take-le, length-filter, count_by-le-length, sum_by-cons}
pub use Rattle.std.proofs.lemmas.List.Sums.{fold-append, count_by_more_yes, count_by_more_no}
pub use Rattle.std.proofs.lemmas.Option.{slice_get_within, slice_get-get_or, slice_get_cases, slice_get-map}
pub use Rattle.std.proofs.lemmas.Option.{get_or_from_slice_get, same_Some, slice_get_past, gets}
pub use Rattle.std.specs.List.{range_with_len, list_any, scan, zip, AllPairs}
pub use Rattle.std.specs.List.Sorted.{IsStrictlyIncreasing}
pub use Rattle.wcp_clock.specs.Limits.{most_processes, most_cap, most_hold, most_relays}
pub use Rattle.wcp_clock.specs.Merge.{merged}
pub use Rattle.wcp_clock.specs.ProcessNumbers.{NumberSet, AreProcessNumbers}
pub use Rattle.wcp_clock.specs.declared.note.Item.{Item}
pub use Rattle.wcp_clock.specs.declared.note.Note.{Note}
pub use Rattle.wcp_model.specs.Computation.{Computation, IsTrueState, is_communication_of, is_send, communications}
pub use Rattle.wcp_model.specs.Computation.{interval_at, message_at, IsState}
pub use Rattle.wcp_model.specs.Cut.{Intervals, NamesWatched, interval_of, IsAtOrBelow, member, IsConsistent}
pub use Rattle.wcp_model.specs.CutLaws.{lesser}
pub use Rattle.wcp_model.specs.Cut.{IsSatisfyingCut, IsLeastCut, IsLeastOf}
pub use Rattle.wcp_model.specs.CutLaws.{minimum, MinimumLaw, LeastCutLaw}
pub use Rattle.wcp_model.specs.Emission.{is_close_of, is_closed, snapshots_from, AreEmissions, IsEmittedState}
pub use Rattle.wcp_model.specs.Emission.{AreEmittedStates}
pub use Rattle.wcp_model.specs.Flag.{resets, WasReset, IsFlagUp}
pub use Rattle.wcp_model.specs.FlagLaws.{EventFlagLaw, SendFlagLaw}
pub use Rattle.wcp_model.specs.declared.flag.Flag.{Flag}
pub use Rattle.wcp_model.specs.FirstReason.{first_reason, IsFirstReason, FirstReasonLaw}
pub use Rattle.wcp_model.specs.Order.{IsMessage, DirectlyPrecedes, Next, Message, HappenedBefore, Direct, Chain}
pub use Rattle.wcp_model.specs.Outcome.{IsReportOf}
pub use Rattle.wcp_model.specs.WorkloadOutcome.{IsOutcomeOf, IsWorkloadOutcome}
pub use Rattle.wcp_model.specs.PlanFault.{IsPath, IsCheckedPlan, HasFault, IsFirstFault, tree_faults, plan_faults}
pub use Rattle.wcp_model.specs.PlanFault.{ServesRelay}
pub use Rattle.wcp_model.specs.declared.probe_setup.ProbeSetup.{ProbeSetup}
pub use Rattle.wcp_model.specs.ProbeLog.{Call, Observed, Sent, Received, Closed, ProbeState, after_call}
pub use Rattle.wcp_model.specs.ProbeLog.{is_up_after_receive, setup, state_of_log, is_step_of, IsStampOf, IsCallOf}
pub use Rattle.wcp_model.specs.ProbeLog.{AreCallsOf, IsAccepted, HasClockAndEmissions, LogLaw, IsLogOf}
pub use Rattle.wcp_model.specs.Replies.{Answered, accepted_by, accepted, is_event, computation, receivers}
pub use Rattle.wcp_model.specs.Replies.{event_reasons, IsReply, AreReplies}
pub use Rattle.wcp_model.specs.Report.{notes_taken, snapshot_clocks, clocks_taken}
pub use Rattle.wcp_model.specs.ReportByClocks.{AreRising, ClocksRise}
pub use Rattle.wcp_model.specs.Report.{ArePrefixesOfEmissions, IsDrained, IsNamed, IsNamedCut}
pub use Rattle.wcp_model.specs.ReportByClocks.{IsCutByClocks}
pub use Rattle.wcp_model.specs.Report.{IsReportOfTaken}
pub use Rattle.wcp_model.specs.ReportByClocks.{IsReportByClocks, IsNextNote, AreInTurn}
pub use Rattle.wcp_model.specs.StateClock.{IsStateClock, CountsBefore}
pub use Rattle.wcp_model.specs.ClockLaws.{StatesHaveClocks}
pub use Rattle.wcp_model.specs.TaskLog.{actions_of, IsCallFor, FollowsActions, stamps_got, AreLogsOfTasks, TaskLogLaw}
pub use Rattle.wcp_model.specs.TaskLog.{beside, clocks_after, stamp_of, stamps_sent}
pub use Rattle.wcp_model.specs.Tree.{is_number, is_leaf, leaf_of, parent_of}
pub use Rattle.wcp_model.specs.PlainPlan.{plain_attach, IsPlainPlan}
pub use Rattle.wcp_model.specs.Watched.{IsWatched, AreSomeWatched}
pub use Rattle.wcp_model.specs.WorkloadComputation.{is_task_of, is_send_to, is_receive_from, sends, receives}
pub use Rattle.wcp_model.specs.WorkloadComputation.{message_number, step_of, steps_from, computation_of, IsWithin}
pub use Rattle.wcp_model.specs.WorkloadComputation.{IsFitOrder, is_any_send, FitOrderLaw, place_after}
pub use Rattle.wcp_model.specs.declared.plan.Parent.{Parent}
pub use Rattle.wcp_model.specs.declared.plan.Parent.TheVariants.{Root, Relay}
pub use Rattle.wcp_model.specs.declared.plan.Plan.{Plan}
pub use Rattle.wcp_model.specs.declared.plan.PlanFault.{PlanFault}
pub use Rattle.wcp_model.specs.declared.plan.PlanFault.TheVariants.{Procs, Cap, Hold, Depth, Mixed, Childless}
pub use Rattle.wcp_model.specs.declared.plan.PlanFault.TheVariants.{Unattached, Watched}
pub use Rattle.wcp_model.specs.declared.state.State.{State}
pub use Rattle.wcp_model.specs.declared.step.Step.{Step}
pub use Rattle.wcp_model.specs.declared.step.Step.TheVariants.{Observe, Send, Recv, Close}
pub use Rattle.wcp_model.specs.declared.workload.Action.{Action}
pub use Rattle.wcp_model.specs.declared.workload.Task.{Task}
pub use Rattle.std.specs.Prelude.{is_some, unwrap_or, not, ◌||◌}
pub use borrow.Author.Count.{below_more}
