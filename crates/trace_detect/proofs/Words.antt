-- The words of the proofs of this crate, from one place.
pub use Rattle.std.proofs.Common.{◌≡◌, ◌∙◌, ◌+◌, ◌-◌, ◌^◌, ◌<◌, ◌≤◌, ℕ, Bool, true, false, cond, List, [], ◌∷◌, ◌++◌}
pub use Rattle.std.proofs.Common.{Option, Some, None, Result, Ok, Err, length, length-set, drop, take, map, inl, inr}
pub use Rattle.std.proofs.Common.{option_map, refl, sym, ap, subst, arith, append_assoc, append-nil, length-append}
pub use Rattle.std.proofs.lemmas.List.{map-append, map-set, length-map, get_or-map, get_or-set_same, get_or-set_other}
pub use Rattle.std.proofs.lemmas.List.{get_or_append_left, get_or_default, take_all, take_more}
pub use Rattle.std.proofs.Math.Seq.{get_or-append_seam, map-set_same}
pub use Rattle.std.proofs.lemmas.Bool.{cases_eq}
pub use Rattle.std.proofs.lemmas.List.Elements.{filter-append}
pub use Rattle.std.specs.Option.{option_to_list}
pub use Rattle.std.specs.Prelude.{filter, slice_index_or, if◌then◌else◌, ◌&&◌}
pub use Rattle.std.specs.Str.{bytes_eq}
pub use Rattle.trace_log.specs.Clock.{Member}
pub use Rattle.trace_log.specs.Log.{Logged}
unfoldable pub use Rattle.trace_log.specs.Order.{clock_after}
pub use Rattle.trace_log.specs.LoggedEvents.{FollowsIn}
pub use Rattle.trace_moment.specs.Moment.{Taken, HostWatch, watch_at, MayFollow, IsNextAt, HaveDistinctHosts}
pub use Rattle.trace_moment.specs.Search.{HasTaken, KeepsAll, watched_by, is_known, TakesNext}
pub use Rattle.trace_moment.specs.Behind.{behind_last, LastWasTaken}
pub use Rattle.trace_condition.specs.declared.condition.Condition.{Condition}
pub use Rattle.trace_condition.specs.Conditions.{host_of, rule_of, HaveHosts}
pub use Rattle.trace_condition.specs.Holding.{holds_at_last}
pub use Rattle.trace_detect.specs.declared.judged.Judged.{Judged}
pub use Rattle.trace_detect.specs.declared.watcher.Watcher.{Watcher}
unfoldable pub use Rattle.trace_detect.specs.Watching.{taken_from}
pub use Rattle.trace_detect.specs.Watching.{watch_of, watches, events_at, texts_at, condition_at, taken_after, taken_of}
pub use Rattle.trace_detect.specs.Watching.{count_events, count_matched}
pub use Rattle.trace_detect.specs.Watcher.{CanTake, WatchesNext, JudgesNext, Knows, AreJudges, HasRoomAt, JudgesOneAt}
pub use Rattle.trace_detect.specs.Watcher.{IsWatching, IsWatchingBehind, KeepsNext, IsPlace}
