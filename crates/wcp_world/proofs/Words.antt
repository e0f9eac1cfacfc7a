-- The words of the proofs of this crate, from one place.
pub use Rattle.std.proofs.Common.{◌≡◌, ℕ, ◌+◌, ◌<◌, true, false, nat_lt, is_some, Option, None, Some, MatchOption, List}
pub use Rattle.std.proofs.Common.{[], ◌∷◌, ◌++◌, length, eqb, eq-eqb, refl, sym, ap, ◌∙◌, subst, append-nil}
pub use Rattle.std.proofs.Common.{append_assoc, add-zero, arith, ◌≤◌, Result, Ok, Err, IfOk, Bool, map, if◌then◌else◌}
pub use Rattle.std.proofs.Common.{◌≢◌, ◌↔◌, cond, nat_le, IsTrue, slice_get, slice_index, count_by, set, subst₂, ⊎_elim}
pub use Rattle.std.proofs.Common.{OnErr, take, le_refl, ◌⊎◌, filter, ap₂, zero, suc, ◌*◌, get_or, replicate, not, drop}
pub use Rattle.std.proofs.Common.{eqb-true, true≢false, IsSome, inl, inr}
pub use Rattle.std.proofs.lemmas.Bool.{cases_eq, ne_eqb, cases_lt, false_from_ne_true, cases_order, cases_Bool}
pub use Rattle.std.proofs.lemmas.Bool.Decides.{nat_tests}
pub use Rattle.std.proofs.lemmas.Grind.{flat_map-append, common_steps}
pub use Rattle.std.proofs.lemmas.List.{length-append, length-set, set-get_or, take_at, length_push, take-append-le}
pub use Rattle.std.proofs.lemmas.List.{take_all, map_push, map-append, length-replicate, get_or-replicate}
pub use Rattle.std.proofs.lemmas.List.{get_or_append_left, get_or-append_right, get_or-set_same, get_or-set_other}
pub use Rattle.std.proofs.lemmas.List.{length-map, get_or_read}
pub use Rattle.std.proofs.lemmas.List.Elements.{filter-append}
pub use Rattle.std.proofs.lemmas.List.Sums.{sum_by_push, sum_by-take-le}
pub use Rattle.std.proofs.lemmas.Option.{get_or_from_slice_get, slice_get_past, slice_get_within, MatchOption-at_some}
pub use Rattle.std.proofs.lemmas.Option.{MatchOption-at_none, slice_get-get_or, option_and_then_some, slice_get_cases}
pub use Rattle.std.proofs.lemmas.Option.{gets, slice_get-map, slice_get_read}
pub use Rattle.std.specs.Option.{option_and_then, option_to_list, option_map, option_flatten}
pub use Rattle.wcp_clock.specs.Limits.{most_events}
pub use Rattle.wcp_clock.specs.declared.note.Item.{Item}
pub use Rattle.wcp_clock.specs.declared.note.Note.{Note}
pub use Rattle.wcp_hold.specs.Held.{Held, empty_hold}
pub use Rattle.wcp_model.proofs.AcceptedReplies.{length-receivers}
pub use Rattle.wcp_model.proofs.CheckedPlans.{few_processes, some_watched, capacity, hold_room, parent_below}
pub use Rattle.wcp_model.proofs.CheckedPlans.{attached_exists, has_leaf}
pub use Rattle.wcp_model.proofs.GrowingLogs.{stamp_grows, log_grows, get_push}
pub use Rattle.wcp_model.proofs.Growth.{get_behind, get_front, at_grows}
pub use Rattle.wcp_model.proofs.NotesInTurn.{nothing_follows, log_counts_notes}
pub use Rattle.wcp_model.proofs.Predecessors.{local_state, span}
pub use Rattle.wcp_model.specs.Computation.{Computation, is_communication_of, is_send, communications, interval_at}
pub use Rattle.wcp_model.specs.Computation.{IsState}
pub use Rattle.wcp_model.specs.Emission.{AreEmissions, is_closed, is_drop_of, is_dropped}
pub use Rattle.wcp_model.specs.FirstReason.{first_reason}
pub use Rattle.wcp_model.specs.Occupancy.{Place, Pending, InboxOf, source, is_place, takes_from, puts_into, taken_from}
pub use Rattle.wcp_model.specs.Occupancy.{next_place, notes_in, IsEntry, Emitted, Moved, Link, target, is_same_place}
pub use Rattle.wcp_model.specs.Occupancy.{HoldOf, room_of, Vanished, entered}
pub use Rattle.wcp_model.specs.declared.probe_setup.ProbeSetup.{ProbeSetup}
pub use Rattle.wcp_model.specs.ProbeLog.{Call, Observed, Sent, Received, Closed, after_call, setup, is_step_of}
pub use Rattle.wcp_model.specs.ProbeLog.{IsStampOf, IsCallOf, IsAccepted, ProbeState, state_of_log}
pub use Rattle.wcp_model.specs.ProbeLog.{HasClockAndEmissions}
pub use Rattle.wcp_model.specs.Replies.{is_event, computation, accepted_by, taken_by, event_reasons, reasons}
pub use Rattle.wcp_model.specs.Replies.{IsAcceptance, IsReply, Answered, accepted, items_taken, AreReplies}
pub use Rattle.wcp_model.specs.Replies.{move_reasons, names_nothing, receivers, is_receive_of, was_received}
pub use Rattle.wcp_model.specs.Replies.{was_sent_to}
pub use Rattle.wcp_model.specs.Report.{notes_taken, ArePrefixesOfEmissions}
pub use Rattle.wcp_model.specs.ReportByClocks.{AreInTurn, ClocksRise, IsReportByClocks}
pub use Rattle.wcp_model.specs.Tree.{leaf_of, parent_of, is_number, is_attached, is_leaf}
pub use Rattle.wcp_model.specs.PlainPlan.{IsSamePlan}
pub use Rattle.wcp_model.specs.declared.plan.Parent.{Parent}
pub use Rattle.wcp_model.specs.declared.plan.Parent.TheVariants.{Root, Relay}
pub use Rattle.wcp_model.specs.declared.plan.Plan.{Plan}
pub use Rattle.wcp_model.specs.declared.step.Reply.{Reply}
pub use Rattle.wcp_model.specs.declared.step.Reply.TheVariants.{Done, Took, Refused}
pub use Rattle.wcp_model.specs.declared.step.Step.{Step}
pub use Rattle.wcp_model.specs.declared.step.Step.TheVariants.{Observe, Send, Recv, Close, Dropped}
pub use Rattle.wcp_model.specs.declared.step.Why.{Why}
pub use Rattle.wcp_probe.specs.Core.{Core, Accepts, IsSameProbe, setup_of}
pub use Rattle.wcp_probe.specs.Seal.{seal_of}
pub use Rattle.wcp_probe.specs.declared.stamp.Stamped.{Stamped}
pub use Rattle.wcp_queue.specs.Checker.{CheckerState, MayTake, TakesItem, processes, StandsForItems}
pub use Rattle.wcp_world.specs.Answer.{IsAnswer, KeepsIfRefused}
pub use Rattle.wcp_world.specs.Messages.{why_of, delivery_reasons, IsPosted, IsDelivered, is_addressed}
pub use Rattle.wcp_world.specs.Plays.{IsTallyOf, AreTalliesOf, HasAnswered}
pub use Rattle.wcp_world.specs.Processes.{ProcessesState, Performs, WasPut, pending_at, AreProcessesOf, IsProbeOf}
pub use Rattle.wcp_world.specs.Processes.{AreLettersOf, IsLetterOf, CountsEmissions}
pub use Rattle.wcp_world.specs.PutNotes.{put_more}
pub use Rattle.wcp_world.specs.Transport.{TransportState, IsTransportOf, IsNextAtRoot, Conveys, Puts, TakesNext}
pub use Rattle.wcp_world.specs.Transport.{next_of, ReadsNext, IsHeldAt, IsPlaceOf, IsWay, place_number, held_at}
pub use Rattle.wcp_world.specs.Transport.{notes_along, notes_at, IsMoveBetween, IsWayOf, is_relayed, IsShift}
pub use Rattle.wcp_world.specs.Transport.{shift_reasons, marks_in, given, size_of, IsGivenMark}
pub use Rattle.wcp_world.specs.World.{WorldState, Stands, MakesStep, IsReached, IsWorldOf}
pub use Rattle.wcp_world.specs.WorldView.{state_of}
pub use Rattle.wcp_world.specs.declared.messages.Letter.{Letter}
pub use Rattle.std.proofs.Math.Bool.{or-false}
pub use Rattle.std.proofs.lemmas.List.Folds.{list_any-append, list_any_at}
pub use Rattle.std.specs.Prelude.{◌||◌}
pub use Rattle.wcp_clock.specs.ProcessNumbers.{NumberSet}
pub use Rattle.wcp_model.specs.declared.flag.Flag.{Flag}
