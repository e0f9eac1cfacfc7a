-- What an event of the code stands for.
use Rattle.trace_log.specs.declared.event.Event.{Event as OwnEvent}
use Rattle.trace_log.specs.Event.{Event}
pub use Rattle.trace_log.specs.Seen.{seen_member, seen_clock}

-- An event.
abbrev pub seen_event : OwnEvent → Event
seen_event event = record {
  host = event.host.now;
  clock = seen_clock event.clock.now;
  text = event.text.now;
}
