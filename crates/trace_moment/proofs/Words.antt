-- The words of the proofs of this crate, from one place.
pub use Rattle.std.proofs.Common.{◌≡◌, ◌≢◌, ℕ, ◌+◌, ◌<◌, ◌≤◌, Bool, true, false, cond, max, Option, Some, None, is_some}
pub use Rattle.std.proofs.Common.{Ok, List, [], ◌∷◌, ◌++◌, length, map, get_or, set, drop, slice_index, refl, sym, ◌∙◌}
pub use Rattle.std.proofs.Common.{ap, subst, arith, zero, suc, inl, inr, ◌⊎◌, ⊎_elim, append_assoc, append-nil}
pub use Rattle.std.proofs.Common.{MatchBool}
pub use Rattle.std.proofs.lemmas.Bool.{lt-ltb, false≢true, cases_eq}
pub use Rattle.std.proofs.lemmas.List.{map-append, get_or-map, get_or-set_same, get_or-set_other, length-set}
pub use Rattle.std.proofs.lemmas.List.{length-map, get_or_default}
pub use Rattle.std.proofs.lemmas.List.Elements.{Contains-append_left, Contains-append_cases, Contains-push}
pub use Rattle.std.proofs.lemmas.List.Elements.{Contains-push_cases, All-contains, All-append, All-push, All-head}
pub use Rattle.std.proofs.lemmas.List.Elements.{All-tail, Contains-append_right}
pub use Rattle.std.proofs.lemmas.List.Quantifiers.{all_pairs_push}
pub use Rattle.std.proofs.lemmas.Slice.Eq.{bytes_eq-Decides}
pub use Rattle.std.specs.List.{All, AllPairs, Contains}
pub use Rattle.std.specs.Option.{option_to_list}
pub use Rattle.std.specs.Str.{bytes_eq}
pub use Rattle.trace_log.proofs.Falls.{clock_after-push}
pub use Rattle.trace_log.specs.Clock.{Member, number_of}
pub use Rattle.trace_log.specs.Event.{Event}
pub use Rattle.trace_log.specs.Log.{Logged}
pub use Rattle.trace_log.specs.Order.{last_clock, falls, follows}
pub use Rattle.trace_moment.specs.Moment.{HostWatch, Taken, watch_at, HaveDistinctHosts, own, IsLater, IsOver, IsMoment}
pub use Rattle.trace_moment.specs.Moment.{IsEarliest, events_of, MayFollow, Follow, IsKnown, IsNextAt}
pub use Rattle.trace_moment.specs.Queues.{Candidate, EventQueue, empty_queue, queue_at, watched_by, first_among}
pub use Rattle.trace_moment.specs.Queues.{first_of}
pub use Rattle.trace_moment.specs.Queues.{begin_with, waiting, clock_of, prefix_clock, is_passed_among, is_passed}
pub use Rattle.trace_moment.specs.Queues.{lasts_to_floor, stands, begun, ended_by, ending, going_on, with_event}
pub use Rattle.trace_moment.specs.Elimination.{KnowsNoMore, ComesBefore, LastKnowsAll, IsCandidate, HasEnded, GoesOn}
pub use Rattle.trace_moment.specs.Elimination.{IsQueueOf, IsKnownElsewhere, IsAmong, AreLeft, AreUnderFloors}
pub use Rattle.trace_moment.specs.Elimination.{ArePassedByNone, RiseTo, AllStand, OneDoesNotStand}
pub use Rattle.trace_moment.specs.declared.watched.Lasting.{Lasting}
pub use Rattle.trace_moment.specs.declared.watched.Lasting.TheVariants.{While, At}
