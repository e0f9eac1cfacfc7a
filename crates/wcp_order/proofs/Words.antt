-- The words of the proofs of this crate, from one place.
pub use Rattle.std.proofs.Common.{not, ◌≡◌, ℕ, ◌≤◌, Bool, true, false, cond, zero, suc, List, [], ◌∷◌, ◌+◌, take}
pub use Rattle.std.proofs.Common.{count_by, Some, refl, eq-eqb, arith, ◌<◌, length, sym, ◌*◌, ◌++◌, replicate, ◌∙◌, ap}
pub use Rattle.std.proofs.Common.{inl, inr, set, get_or-set_same, get_or-set_other, filter, eqb-true, map, get_or}
pub use Rattle.std.proofs.Common.{subst, mul-le-mul, slice_index, ◌-◌, ◌⊎◌, slice_get, add-one}
pub use Rattle.std.proofs.lemmas.Bool.{cases_Bool, cases_eq, cases_lt, ne_eqb, both_ways, false≢true}
pub use Rattle.std.proofs.lemmas.Grind.{common_steps}
pub use Rattle.std.proofs.lemmas.List.{take-take, length-set, length-replicate, get_or-replicate, length_push}
pub use Rattle.std.proofs.lemmas.List.{take-append-le, take_all, append-nil, get_or-map, map-set, length-map, take_more}
pub use Rattle.std.proofs.lemmas.List.{take-replicate}
pub use Rattle.std.proofs.lemmas.List.Elements.{All-head, All-tail, All-push, All-nil, All-filter, filter_more}
pub use Rattle.std.proofs.lemmas.List.Elements.{filter_passes, filter-append}
pub use Rattle.std.proofs.lemmas.List.Sums.{sum_by-take-le, sum_by_push, length-filter}
pub use Rattle.std.proofs.lemmas.Option.{slice_get_within, get_or_from_slice_get, gets, slice_get-get_or}
pub use Rattle.std.specs.List.{All}
pub use Rattle.wcp_model.proofs.MessagesOfOrder.{sends_yes, receives_yes}
pub use Rattle.wcp_model.proofs.Places.{count_before-yes, count_before-no, count_before-past, count_before-mono}
pub use Rattle.wcp_model.proofs.SamePlace.{count_by_yes, count_by_no, same_count, element_after, slice_get-filter}
pub use Rattle.wcp_model.proofs.SamePlace.{element_within, filter_prefix}
pub use Rattle.wcp_model.specs.WorkloadComputation.{is_task_of, sends, receives, IsWithin, IsFitOrder}
pub use Rattle.wcp_model.specs.declared.workload.Action.{Action}
pub use Rattle.wcp_model.specs.declared.workload.Action.TheVariants.{Observe}
pub use Rattle.wcp_model.specs.declared.workload.Task.{Task}
pub use Rattle.wcp_order.specs.Progress.{IsDone, IsReady, in_transit_after, IsProgress, IsBlocked, IsFirstLeft}
pub use Rattle.wcp_order.specs.Progress.{IsHistory, history_at, IsSoundProgress, HasGrown, IsStuck}
pub use Rattle.wcp_order.specs.Stuck.{AreSendAndReceive, IsEarlier, CanBeDone, IsFirstStuck}
