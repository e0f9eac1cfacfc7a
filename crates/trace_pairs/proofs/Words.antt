-- The words of the proofs of this crate, from one place.
pub use Rattle.std.proofs.Common.{◌≡◌, ◌≢◌, ◌∙◌, ℕ, ◌+◌, ◌-◌, ◌^◌, ◌<◌, ◌≤◌, Bool, true, false, cond, Option, Some}
pub use Rattle.std.proofs.Common.{None}
pub use Rattle.std.proofs.Common.{Result, Ok, Err, List, [], ◌∷◌, ◌++◌, length, map, take, drop, refl, sym, ap, subst}
pub use Rattle.std.proofs.Common.{arith, zero, suc, inl, inr, ◌⊎◌, ⊎_elim, append_assoc, append-nil, length-append}
pub use Rattle.std.proofs.Common.{option_map, length-set, MatchBool}
pub use Rattle.std.proofs.lemmas.Bool.{false≢true, cases_eq}
pub use Rattle.std.proofs.lemmas.List.{map-append, length-map, get_or-map, get_or-set_same, get_or-set_other}
pub use Rattle.std.proofs.lemmas.List.{get_or_append_left, get_or_default, take_all, take_more}
pub use Rattle.std.proofs.lemmas.List.Elements.{Contains-append_left, Contains-append_right, Contains-append_cases}
pub use Rattle.std.proofs.lemmas.List.Elements.{Contains-push, Contains-push_cases, filter-append}
pub use Rattle.std.proofs.lemmas.Slice.Eq.{bytes_eq-Decides}
pub use Rattle.std.specs.Option.{option_to_list}
pub use Rattle.std.specs.Prelude.{filter, slice_index_or, if◌then◌else◌, ◌||◌, Contains}
pub use Rattle.std.specs.Str.{bytes_eq}
pub use Rattle.regex.specs.Patterns.{Re}
pub use Rattle.trace_log.proofs.Falls.{clock_after-push}
pub use Rattle.trace_log.specs.Clock.{Member, number_of}
pub use Rattle.trace_log.specs.Event.{Event}
pub use Rattle.trace_log.specs.Log.{Logged}
pub use Rattle.trace_log.specs.Order.{last_clock, follows}
pub use Rattle.trace_log.specs.LoggedEvents.{FollowsIn}
pub use Rattle.trace_moment.specs.declared.watched.Lasting.{Lasting}
pub use Rattle.trace_moment.specs.declared.watched.Lasting.TheVariants.{While, At}
pub use Rattle.trace_moment.specs.declared.search.Search.{Search}
pub use Rattle.trace_moment.specs.Moment.{HostWatch, Taken, watch_at, own, IsLater, IsOver, IsMoment, IsEarliest}
pub use Rattle.trace_moment.specs.Moment.{IsKnown}
pub use Rattle.trace_moment.specs.Moment.{events_of, MayFollow, Follow, IsNextAt}
pub use Rattle.trace_moment.specs.Elimination.{KnowsNoMore, ComesBefore, LastKnowsAll}
pub use Rattle.trace_moment.specs.Standing.{HasNoMoment, NoneIsKnown}
pub use Rattle.trace_moment.proofs.Clocks.{ComesNext, comes_next, LastKnowsAll-push, may_follow}
pub use Rattle.trace_condition.specs.declared.rule.Rule.{Rule}
pub use Rattle.trace_condition.specs.Asked.{Text}
pub use Rattle.trace_pairs.specs.Thinned.{EndsBy, Thins, AreInTurn}
