-- What a clock of the code stands for.
use Rattle.std.specs.Prelude.{List, map, string_bytes}
use Rattle.trace_log.specs.declared.event.Member.{Member as OwnMember}
use Rattle.trace_log.specs.Clock.{Member}

-- A member of a clock.
abbrev pub seen_member : OwnMember → Member
seen_member member = record { name = string_bytes member.name; number = member.number }

-- A clock, member by member.
abbrev pub seen_clock : List OwnMember → List Member
seen_clock members = map seen_member members
