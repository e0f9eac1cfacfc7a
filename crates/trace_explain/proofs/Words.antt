-- The words of the proofs of this crate, from one place.
pub use Rattle.std.proofs.Common.{◌≡◌, ◌≢◌, ℕ, ◌+◌, ◌-◌, ◌<◌, ◌≤◌, Bool, true, false, cond, Option, Some, None, List, []}
pub use Rattle.std.proofs.Common.{◌∷◌, ◌++◌, length, map, get_or, set, take, slice_index, refl, sym, ◌∙◌, ap, subst}
pub use Rattle.std.proofs.Common.{arith, zero, suc, inl, inr, ◌⊎◌, ⊎_elim, append-nil}
pub use Rattle.std.proofs.lemmas.Grind.{common_steps}
pub use Rattle.std.proofs.lemmas.Bool.{false≢true, cases_eq, cases_Bool}
pub use Rattle.std.proofs.lemmas.List.{length-map, get_or-map, get_or_default, get_or-set_same, get_or-set_other}
pub use Rattle.std.proofs.lemmas.List.{length-set, map-append}
pub use Rattle.std.proofs.lemmas.List.Elements.{All-contains, All-filter, All-contains_itself, filter_passes}
pub use Rattle.std.proofs.lemmas.List.Elements.{Contains-append_right, Contains-get_or, filter-append, filter_more}
pub use Rattle.std.proofs.lemmas.Slice.Eq.{bytes_eq-Decides}
pub use Rattle.std.specs.List.{All, AllPairs, AllZip, Contains, filter}
pub use Rattle.std.specs.Str.{bytes_eq}
pub use Rattle.trace_log.specs.Clock.{Member, number_of}
pub use Rattle.trace_log.specs.Event.{Event}
pub use Rattle.trace_log.specs.Log.{Logged}
pub use Rattle.trace_moment.specs.Moment.{HostWatch, Taken, watch_at, HaveDistinctHosts, own, IsLater, IsOver, IsMoment}
pub use Rattle.trace_moment.specs.Moment.{IsEarliest, HappenedBefore, IsNextAt}
pub use Rattle.trace_moment.specs.Elimination.{KnowsNoMore, ComesBefore, LastKnowsAll}
pub use Rattle.trace_moment.specs.declared.watched.Lasting.{Lasting}
pub use Rattle.trace_moment.specs.declared.watched.Lasting.TheVariants.{While, At}
pub use Rattle.trace_explain.specs.declared.reason.StateOver.{StateOver}
pub use Rattle.trace_explain.specs.declared.reason.HeldState.{HeldState}
pub use Rattle.trace_explain.specs.History.{Past, past_of, of_host, PastHost, past_host, watched_in, no_past, past_at}
pub use Rattle.trace_explain.specs.History.{number_at, no_host, host_at, AreInOrder, KeepPast}
pub use Rattle.trace_explain.specs.Reasons.{IsAt, IsLastKnown, KnowsUpTo, EndsChance, states_of, ExplainsNone, HoldsFrom}
pub use Rattle.trace_explain.specs.Reasons.{HasBegun, HoldsUntil, SaysHeld, ExplainsFound}
pub use Rattle.trace_explain.specs.Left.{event_at, number_in, IsNextState, IsUpTo, IsLastUpTo, KnowsFirst, Left, left_at}
pub use Rattle.trace_explain.specs.Left.{AreFirst, DropsFirst, end_at, is_over_at, is_over, IsOverAt, NoneIsOver}
pub use Rattle.trace_explain.specs.Left.{IsReason, HaveFirsts, LacksFirst, IsLeft, AreLeft, HoldBetween}
pub use Rattle.trace_explain.specs.Left.{HoldsBack, HoldsOn, IsKnownLine, AreKnown, IsUntil, IsHeld, AreHeld}
