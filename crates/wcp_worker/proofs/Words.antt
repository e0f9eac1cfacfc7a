-- The words of the proofs of this crate, from one place.
pub use Rattle.std.proofs.Common.{◌≡◌, ℕ, zero, suc, true, Option, Some, None, List, [], ◌∷◌, ◌++◌, sym, refl, ap, ◌∙◌}
pub use Rattle.std.proofs.Common.{subst, append_assoc, Bool, false, cond, arith, ◌≢◌, ◌↔◌, Result, Ok, Err, length}
pub use Rattle.std.proofs.Common.{slice_get, slice_set, get_or, true≢false, ◌<◌, subst₂, ◌||◌, ◌⊎◌, ◌≤◌, map, filter}
pub use Rattle.std.proofs.Common.{All, ⊎_elim, ◌+◌, set, Vec, Global, rules, take, slice_index_or, count_by}
pub use Rattle.std.proofs.lemmas.Bool.{cases_eq}
pub use Rattle.std.proofs.lemmas.Grind.{common_steps}
pub use Rattle.std.proofs.lemmas.List.{append-nil, length-map, length-set, get_or_past, get_or-set_same}
pub use Rattle.std.proofs.lemmas.List.{get_or-set_other, get_or_default, get_or_push, get_or_append_left, length-append}
pub use Rattle.std.proofs.lemmas.List.{map_push, take_more}
pub use Rattle.std.proofs.lemmas.Option.{gets, slice_get_within, slice_get-get_or, get_or_from_slice_get}
pub use Rattle.std.specs.List.{list_any}
pub use Rattle.std.specs.Prelude.{IfSome, IsOk, OnOk, nat_eq}
pub use Rattle.wcp_clock.proofs.Marks.{alone, alone_has, contains_with}
pub use Rattle.wcp_lane.specs.Ends.{PutEnd, TakeEnd, new_putter}
pub use Rattle.wcp_lane.specs.Passes.{Numbers}
pub use Rattle.wcp_model.specs.declared.probe_setup.ProbeSetup.{ProbeSetup}
pub use Rattle.wcp_model.specs.ProbeLog.{Call, Closed, state_of_log, setup, Received}
pub use Rattle.wcp_model.specs.TaskLog.{FollowsActions, stamp_of, stamps_sent, stamps_got, actions_of, AreLogsOfTasks}
pub use Rattle.wcp_model.specs.WorkloadComputation.{is_send_to, is_receive_from, is_task_of, IsWithin}
pub use Rattle.wcp_model.specs.declared.workload.Action.{Action}
pub use Rattle.wcp_model.specs.declared.workload.Task.{Task}
pub use Rattle.wcp_probe.specs.Core.{setup_of, Core}
pub use Rattle.wcp_probe.specs.Seal.{seal_of}
pub use Rattle.wcp_relay.proofs.Entries.{mapped_at}
pub use Rattle.wcp_relay.proofs.LiveProbes.{same_live, fresh_stands}
pub use Rattle.wcp_relay.specs.LiveProbe.{ClosedSide, HasEmitted, IsEndOfProbe, IsSameLive, LiveSide, LiveFor}
pub use Rattle.wcp_relay.specs.LiveProbe.{AreFreshProbes}
pub use Rattle.wcp_worker.specs.Lanes.{IsInboxOf, IsSameInbox, HasTakenMore, IfBoth, messages_taken, clocks_from}
pub use Rattle.wcp_worker.specs.Lanes.{IsSameOutbox, messages_from, messages_put, IsNewLane, IsOutboxOf, IsLaneFor}
pub use Rattle.wcp_worker.specs.Mailboxes.{HasSameLanes, outbox_to, inbox_from, clocks_sent_to, clocks_taken_from}
pub use Rattle.wcp_worker.specs.Opening.{IsIdle, HasTasks, HaveLanes, IsSameButInboxes, HasRow}
pub use Rattle.wcp_worker.specs.Played.{DoesAction, HasDoneActions, HasPlayed, IsFreshPlayer}
pub use Rattle.wcp_worker.specs.Runs.{outbox_of, inbox_of, ends_between, AreAllTaken, AreMatched, AreOfLane, IsAllTaken}
pub use Rattle.wcp_worker.specs.Runs.{IsLaneOf, HasRun, HaveRun}
pub use Rattle.wcp_worker.specs.Workers.{AreWorkersOf}
pub use Rattle.wcp_worker.specs.declared.lane_ends.Inbox.{Inbox}
pub use Rattle.wcp_worker.specs.declared.lane_ends.Outbox.{Outbox}
pub use Rattle.wcp_worker.specs.declared.mailbox.Mailbox.{Mailbox}
pub use Rattle.wcp_worker.specs.declared.message.Message.{Message}
pub use Rattle.wcp_worker.specs.declared.player.Player.{Player}
pub use Rattle.wcp_worker.specs.declared.worker.Worker.{Worker}
pub use Rattle.wcp_clock.specs.ProcessNumbers.{NumberSet}
pub use Rattle.wcp_model.specs.declared.flag.Flag.{Flag}
