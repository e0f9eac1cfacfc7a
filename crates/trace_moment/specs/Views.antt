-- What the values of the code stand for: a watched host, what is kept of an event.
use Rattle.std.specs.Prelude.{string_bytes}
use Rattle.trace_moment.specs.declared.candidate.KeptEvent.{KeptEvent as OwnKeptEvent}
use Rattle.trace_moment.specs.declared.watched.WatchedHost.{WatchedHost}
use Rattle.trace_moment.specs.Moment.{HostWatch}
use Rattle.trace_moment.specs.Kept.{KeptEvent}

-- A watched host.
abbrev pub seen_watch : WatchedHost → HostWatch
seen_watch watched = record { host = string_bytes watched.host; lasting = watched.lasting }

-- What is kept of an event.
abbrev pub seen_kept : OwnKeptEvent → KeptEvent
seen_kept event = record { line = event.line; text = string_bytes event.text }
