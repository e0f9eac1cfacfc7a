-- The words of the proofs of this crate, from one place.
pub use Rattle.std.proofs.Common.{◌≡◌, ◌≢◌, ◌==◌, ◌&&◌, ℕ, ◌+◌, ◌*◌, ◌<◌, Bool, true, false, cond, List, [], ◌∷◌, ◌++◌}
pub use Rattle.std.proofs.Common.{length, map, take, set, get_or, count_by, All, refl, sym, ap, ◌∙◌, subst, inl, inr}
pub use Rattle.std.proofs.Common.{append-nil, append_assoc, arith, eq-eqb, get_or-set_same, get_or-set_other, ◌↔◌}
pub use Rattle.std.proofs.Common.{IsTrue, Option, Some, None, MatchOption, replicate, slice_get, subst₂}
pub use Rattle.std.proofs.lemmas.Bool.{cases_eq, ne_eqb, false_from_ne_true}
pub use Rattle.std.proofs.lemmas.Grind.{common_steps}
pub use Rattle.std.proofs.lemmas.List.{take_all, take_at, length-append, length-map, length-set, length_push}
pub use Rattle.std.proofs.lemmas.List.{length-replicate, get_or-replicate, get_or_append_left, get_or_push}
pub use Rattle.std.proofs.lemmas.List.{get_or_read_under, take_more}
pub use Rattle.std.proofs.lemmas.Nat.{mul-add-lt, same_from_place}
pub use Rattle.std.proofs.lemmas.Result.{IfOk-weaker}
pub use Rattle.wcp_clock.specs.declared.note.Item.{Item}
pub use Rattle.wcp_model.proofs.AcceptedOrder.{IsFitOrder-take, IsFitOrder-itself, All-fit_order}
pub use Rattle.wcp_model.proofs.LogsOfTasks.{count_actions, few_events, got_not_ahead}
pub use Rattle.wcp_model.proofs.NotesInTurn.{log_counts_notes}
pub use Rattle.wcp_model.proofs.TaskLogs.{actions_of-push, FollowsActions-push, length-stamps_sent, length-stamps_got}
pub use Rattle.wcp_model.proofs.TaskLogs.{stamps_sent-push, stamps_sent-push_other, stamps_got-push}
pub use Rattle.wcp_model.proofs.TaskLogs.{stamps_got-push_other, log_push}
pub use Rattle.wcp_model.specs.WorkloadOutcome.{IsWorkloadOutcome}
pub use Rattle.wcp_model.specs.ProbeLog.{Call, setup, state_of_log, Observed, Sent, Received, ProbeState, Closed}
pub use Rattle.wcp_model.specs.Report.{notes_taken}
pub use Rattle.wcp_model.specs.ReportByClocks.{IsReportByClocks, ClocksRise}
pub use Rattle.wcp_model.specs.TaskLog.{actions_of, IsCallFor, FollowsActions, stamp_of, stamps_sent, stamps_got}
pub use Rattle.wcp_model.specs.TaskLog.{AreLogsOfTasks}
pub use Rattle.wcp_model.specs.WorkloadComputation.{sends, receives, is_send_to, is_receive_from, HasPartner, IsWithin}
pub use Rattle.wcp_model.specs.WorkloadComputation.{IsFitOrder}
pub use Rattle.wcp_model.specs.declared.outcome.Tally.{Tally}
pub use Rattle.wcp_model.specs.declared.workload.Action.{Action}
pub use Rattle.wcp_model.specs.declared.workload.Task.{Task}
pub use Rattle.wcp_order.proofs.Tasks.{at_place, receive_is_no_send, sends_ends, receives_ends, send_is_no_receive}
pub use Rattle.wcp_order.proofs.Tasks.{observe_is_no_send, observe_is_no_receive}
pub use Rattle.wcp_probe.specs.Seal.{Seal, seal_of}
pub use Rattle.wcp_queue.specs.Checker.{CheckerState, MayTake, TakesItem, processes, taken_of, StandsForItems}
pub use Rattle.wcp_single.specs.WorkloadProcess.{IsRunning, MayCommunicate, MayReceive, MakesCall, Feeds, HasTaken}
pub use Rattle.wcp_single.specs.WorkloadProcess.{IsFed, IsFedMore, IsCaughtUp}
pub use Rattle.wcp_single.specs.WorkloadRun.{IsChannel, IsNextTask, MayDoNext, queue_at, HasDone, HasClosed, IsEnding}
pub use Rattle.wcp_single.specs.declared.workload_process.WorkloadProcess.{WorkloadProcess}
pub use Rattle.wcp_clock.specs.ProcessNumbers.{NumberSet}
pub use Rattle.wcp_model.specs.declared.flag.Flag.{Flag}
pub use Rattle.wcp_model.specs.declared.probe_setup.ProbeSetup.{ProbeSetup}
