-- The words of the proofs of this crate, from one place.
pub use Rattle.std.proofs.Common.{◌≡◌, ◌≢◌, ℕ, ◌+◌, ◌<◌, ◌≤◌, List, [], ◌∷◌, ◌++◌, length, Option, Some, refl, sym, ap}
pub use Rattle.std.proofs.Common.{◌∙◌, ⊎_elim, arith, None, subst, ◌↔◌, ◌||◌, true, false, true≢false, nat_eq, eq-eqb}
pub use Rattle.std.proofs.Common.{◌⊎◌, inl, inr, zero, suc, Bool, get_or, map, ◌==◌, All, eqb-true, IsTrue, slice_set}
pub use Rattle.std.proofs.Common.{AllPairs, lit≤, vec_len, Vec, Global}
pub use Rattle.std.proofs.lemmas.Bool.{cases_eq}
pub use Rattle.std.proofs.lemmas.Bool.Decides.{nat_tests}
pub use Rattle.std.proofs.lemmas.Grind.{common_steps}
pub use Rattle.std.proofs.lemmas.List.{length-set, length_push, length-map, get_or-map, get_or_append_left, get_or_push}
pub use Rattle.std.proofs.lemmas.List.Elements.{All-push, All-weaker}
pub use Rattle.std.proofs.lemmas.List.Folds.{list_any_at, Any-from_list_any}
pub use Rattle.std.proofs.lemmas.Option.{gets, slice_get_within, slice_get-get_or}
pub use Rattle.std.specs.List.{list_any}
pub use Rattle.std.specs.Option.{option_flatten}
pub use Rattle.std.specs.Ordering.{nat_cmp}
pub use Rattle.std.specs.Prelude.{slice_get}
pub use Rattle.wcp_clock.specs.Limits.{most_relays, most_cap, most_lane}
pub use Rattle.wcp_clock.specs.declared.note.Item.{Item}
pub use Rattle.wcp_hold.specs.Held.{Held}
pub use Rattle.wcp_lane.specs.Ends.{LaneName, PutEnd, TakeEnd, new_putter}
pub use Rattle.wcp_lane.specs.MemberSets.{AreApart, AreMemberSets, IsFirstLaneFault}
pub use Rattle.wcp_lane.specs.Passes.{Numbers}
pub use Rattle.wcp_model.proofs.CheckedPlans.{parent_below, all_served, attached_exists, has_leaf, is_its_leaf}
pub use Rattle.wcp_model.proofs.CheckedPlans.{is_its_number, not_mixed, few_relays, hold_room, some_relays, capacity}
pub use Rattle.wcp_model.proofs.CheckedPlans.{is_not_its_number, few_processes}
pub use Rattle.wcp_model.specs.PlanFault.{IsCheckedPlan}
pub use Rattle.wcp_model.specs.ProbeLog.{setup}
pub use Rattle.wcp_model.specs.Tree.{parent_of, leaf_of, is_number, is_leaf}
pub use Rattle.wcp_model.specs.declared.plan.Parent.{Parent}
pub use Rattle.wcp_model.specs.declared.plan.Parent.TheVariants.{Root, Relay}
pub use Rattle.wcp_model.specs.declared.plan.Plan.{Plan}
pub use Rattle.wcp_ring.specs.Ends.{TakeSide, PutSide}
pub use Rattle.wcp_relay.specs.Feeding.{processes_of, Serves, IsNewFeed}
pub use Rattle.wcp_relay.specs.LiveProbe.{LiveSide, fresh_core}
pub use Rattle.wcp_relay.specs.Members.{IsMetFrom, Itself, Above, IsBelow, AreBelow}
pub use Rattle.wcp_relay.specs.Relays.{IsRelayOf, IsSource}
pub use Rattle.wcp_relay.specs.Rings.{IsTakerAt, AreRings, IsFeed, AreFeeds}
pub use Rattle.wcp_relay.specs.Watches.{AreLinked, IsLinked, lane_below, lane_to}
pub use Rattle.wcp_tree.specs.Wiring.{IsSeatOf, IsMemberSetOf, AreMemberSetsOf, AreBelowChildren, AreChildrenSeated}
pub use Rattle.wcp_tree.specs.Wiring.{AreSeatedUnder}
pub use Rattle.wcp_relay.specs.declared.bundle.Bundle.{Bundle}
pub use Rattle.wcp_relay.specs.declared.feed.Feed.{Feed}
pub use Rattle.wcp_relay.specs.declared.source.Source.{Source}
pub use Rattle.wcp_relay.specs.declared.source.Source.TheVariants.{Leaf, Inner}
