-- The words of the proofs of this crate, from one place.
pub use Rattle.std.proofs.Common.{◌≡◌, ◌≢◌, ℕ, suc, ◌+◌, ◌-◌, ◌*◌, ◌<◌, ◌≤◌, ◌⊎◌, Bool, true, false, List, [], ◌∷◌}
pub use Rattle.std.proofs.Common.{◌++◌, length, max, take, cond, count_by, get_or, set, slice_get, slice_index}
pub use Rattle.std.proofs.Common.{slice_index_or, Some, None, Option, ◌↔◌, refl, sym, ap, ◌∙◌, subst, inl, inr, ⊎_elim}
pub use Rattle.std.proofs.Common.{eqb-true, eq-eqb, arith, replicate, get_or-set_same, get_or-set_other, add-one}
pub use Rattle.std.proofs.lemmas.Bool.{cases_eq, cases_lt, cases_order, cases_Bool, ne_eqb, and_parts, and_from}
pub use Rattle.std.proofs.lemmas.Bool.{false≢true}
pub use Rattle.std.proofs.lemmas.Grind.{common_steps}
pub use Rattle.std.proofs.lemmas.List.{length-set, length-replicate, get_or-replicate, length_push, get_or_append_left}
pub use Rattle.std.proofs.lemmas.List.{get_or_push, get_or_default, get_or_past, take_all}
pub use Rattle.std.proofs.lemmas.Nat.{mul-add-lt, same_from_place}
pub use Rattle.std.proofs.lemmas.Option.{slice_get_within, slice_get-get_or, same_Some}
pub use Rattle.wcp_model.proofs.MessagesOfOrder.{sends_yes, receives_yes, IsDelivery, delivery_later}
pub use Rattle.wcp_model.proofs.Places.{count_before-yes, count_before-no, count_before-mono, count_before-place}
pub use Rattle.wcp_model.proofs.SamePlace.{element_within}
pub use Rattle.wcp_model.specs.WorkloadComputation.{sends, receives, IsWithin, IsFitOrder}
pub use Rattle.wcp_model.specs.declared.workload.Action.{Action}
pub use Rattle.wcp_model.specs.declared.workload.Task.{Task}
pub use Rattle.wcp_order.proofs.Tasks.{at_place, sends_ends, receives_ends, send_is_no_receive, receive_is_no_send}
pub use Rattle.wcp_order.proofs.Tasks.{observe_is_no_send, observe_is_no_receive}
pub use Rattle.wcp_order.proofs.Counting.{sent_before}
pub use Rattle.wcp_order.specs.Stuck.{AreSendAndReceive}
pub use Rattle.draw_layout.specs.Messages.{AreSends, queue_at, IsQueue, AreInTransit, IsNext, IsSendOf}
pub use Rattle.draw_layout.specs.Events.{is_event, is_event_of, IsEventAt, AreIntervals}
pub use Rattle.draw_layout.specs.Columns.{IsOfHalf, StandInColumns, MayStand, IsLaid, IsClosed, AreColumns}
