-- The words of the proofs of this crate, from one place.
pub use Rattle.std.proofs.Common.{◌≡◌, ◌∙◌, ◌+◌, ◌<◌, ℕ, Bool, true, false, cond, List, [], ◌∷◌, ◌++◌, Option, Some}
pub use Rattle.std.proofs.Common.{None, Result, Ok, Err, length, refl, sym, ap, subst, arith, append_assoc, append-nil}
pub use Rattle.std.proofs.Common.{length-append}
pub use Rattle.std.proofs.KnownBytes.{Consumes-trans, Consumes-kept}
pub use Rattle.std.specs.Io.KnownBytes.{Consumes, IsAtEnd, Keeps}
pub use Rattle.std.specs.Option.{option_to_list}
pub use Rattle.std.specs.Prelude.{IfSome, nat_lt, nat_le, if◌then◌else◌, ◌-◌, ◌≤◌, ◌⊎◌}
pub use Rattle.wcp_io.specs.Reader.{Gives, IsFirst, Whole, Prefix, left}
unfoldable pub use Rattle.wcp_io.specs.Lines.{lines_of}
pub use Rattle.trace_log.specs.declared.fault.LogFaultKind.{LogFaultKind}
pub use Rattle.trace_log.specs.declared.fault.LogFault.{LogFault}
pub use Rattle.trace_log.specs.declared.fault.LogFaultKind.TheVariants.{Long, Many}
pub use Rattle.trace_log.specs.declared.log.Log.{Log}
pub use Rattle.trace_log.specs.declared.turn.Form.{Form}
pub use Rattle.trace_log.specs.declared.turn.LogLayout.{LogLayout}
pub use Rattle.trace_log.specs.declared.turn.LogLayout.TheVariants.{Lines, Shiviz, ShivizReversed, Numbered}
pub use Rattle.trace_log.specs.Clock.{Member}
pub use Rattle.trace_log.specs.Event.{Event, Stamp, text_in, most_bytes}
unfoldable pub use Rattle.trace_log.specs.Event.{event_in, stamp_in}
pub use Rattle.trace_log.specs.Judgement.{◌>>=◌, at_line, fault_in}
pub use Rattle.trace_log.specs.Log.{Half, stamped, texted, Logged, SoFar, Turn, after, end_of, event_after, stamp_after}
pub use Rattle.trace_log.specs.Log.{whole, passed, place_of, said_at, turn_of, next_turn, no_lines, with_event}
pub use Rattle.trace_log.specs.Numbered.{number_said, most_lines}
unfoldable pub use Rattle.trace_log.specs.Numbered.{numbered_in}
unfoldable pub use Rattle.trace_log.specs.Log.{log_from}
pub use Rattle.trace_log.specs.Order.{last_clock, follows, may_follow, is_in_cycle}
pub use Rattle.trace_log.specs.declared.fault.LogFaultKind.TheVariants.{Cycle}
pub use Rattle.trace_log.specs.State.{HasRead, IsTurn, is_over, lines_left, last_event}
pub use Rattle.trace_log.specs.Turns.{seen_logged}
pub use Rattle.trace_log.specs.LoggedEvents.{event_and_later, whole_log, events_of, EndsOneMore, FailAfter, FollowsIn}
unfoldable pub use Rattle.trace_log.specs.LoggedEvents.{logged_from}
pub use Rattle.trace_log.specs.Reading.{IsWithin, cut_behind, SaysWhole, HasFault, HalfFollows}
pub use Rattle.trace_log.specs.Reading.{HasReadEvents, ReadsNext, ReadsEvent}
