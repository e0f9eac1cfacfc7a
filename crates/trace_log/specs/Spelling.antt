-- How a clock is given: as a text, as the members of an object that was read, or beside its host and its text.
use Rattle.std.specs.Prelude.{List, Result}
use Rattle.json.specs.Value.{members_view}
use Rattle.trace_log.specs.declared.fault.LogFaultKind.{LogFaultKind}
use Rattle.trace_log.specs.declared.spelled.Spelled.{Spelled}
use Rattle.trace_log.specs.declared.spelled.Spelled.TheVariants.{Text, Members, Beside}
use Rattle.trace_log.specs.Clock.{Member, clock_of}
use Rattle.trace_log.specs.Event.{clock_in_text}
use Rattle.trace_log.specs.PlainEvents.{clock_beside}

-- The clock that is spelled.
abbrev pub clock_spelled : Spelled → Result (List Member) LogFaultKind
clock_spelled (Text text) = clock_in_text text.now
clock_spelled (Members members) = clock_of (members_view members.now)
clock_spelled (Beside event) = clock_beside event.host.now event.text.now event.line.now
