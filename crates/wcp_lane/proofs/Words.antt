-- The words of the proofs of this crate, from one place.
pub use Rattle.std.proofs.Common.{◌≡◌, ℕ, ◌<◌, Bool, true, false, not, ◌&&◌, ◌||◌, List, length, get_or, take, arith}
pub use Rattle.std.proofs.Common.{[], ◌∷◌, ◌++◌, sym, ap, ◌∙◌, length-append, ◌≢◌, ◌+◌, set, replicate, refl, ⊎_elim}
pub use Rattle.std.proofs.Common.{◌⊎◌, zero, suc, ◌≤◌, inl, inr, true≢false, cond, subst, append_assoc, map, rules}
pub use Rattle.std.proofs.Common.{slice_get, Some}
pub use Rattle.std.proofs.lemmas.Bool.{false_from_ne_true, cases_eq, cases_lt, cases_Bool, agree_below_at, not-false}
pub use Rattle.std.proofs.lemmas.Bool.{and_right, both_ways}
pub use Rattle.std.proofs.lemmas.Bool.Decides.{nat_tests}
pub use Rattle.std.proofs.lemmas.Grind.{flat_map-append, common_steps}
pub use Rattle.std.proofs.lemmas.List.{get_or-take, get_or_read, length-take-le, append-nil, length-set}
pub use Rattle.std.proofs.lemmas.List.{get_or-set_same, get_or-set_other, get_or-replicate, drop_all, set_comm, take_at}
pub use Rattle.std.proofs.lemmas.List.{drop_at, take_all, map-append}
pub use Rattle.std.proofs.lemmas.List.Elements.{filter-append, All-append, All-cons, All-take, All-drop}
pub use Rattle.std.proofs.lemmas.List.Folds.{list_any_none, list_any_at, list_any_more}
pub use Rattle.std.specs.Cmp.{nat_cmp_total}
pub use Rattle.std.specs.List.{list_any, flat_map, range_with_len}
pub use Rattle.std.specs.Ordering.{nat_cmp}
pub use Rattle.std.specs.Prelude.{All, nat_eq, ◌==◌}
pub use Rattle.wcp_clock.specs.Limits.{most_processes}
pub use Rattle.wcp_lane.specs.Ends.{put_by, unowned_by, AreCounts, IsSpanOf, LaneName, PutEnd, new_putter, lane_of}
pub use Rattle.wcp_lane.specs.Ends.{hand_of}
pub use Rattle.wcp_lane.specs.Message.{AllMayFollow}
pub use Rattle.wcp_lane.specs.MemberSets.{AreApart, ShareNone, AreMemberSets, IsCapacity, HasLaneFault}
pub use Rattle.wcp_lane.specs.Passes.{Numbers, putter, taker, joined, with_put, with_taken, IsRest, IsBalanced, nobody}
pub use Rattle.wcp_lane.specs.Passes.{without, taken_of, put_of, IsPut, IsTaken, IsRuled}
pub use Rattle.wcp_clock.specs.ProcessNumbers.{AreProcessNumbers}
pub use Rattle.wcp_lane.specs.declared.passes.Hand.{Hand}
pub use Rattle.wcp_model.specs.LaneRule.{items_from, IsNext, AreInSequence}
pub use lib.ListN.{get_elem?}
pub use mathlib.Core.Option.{some, some-injective, some-ne-none}
