-- What an event's clock may be after the events before it.
use Rattle.std.specs.Prelude.{ℕ, Bool, not, ◌&&◌, List, [], ◌∷◌, nat_lt, nat_le, Result, if◌then◌else◌}
use Rattle.std.specs.List.{list_any}
use Rattle.std.specs.Str.{bytes_eq}
use Rattle.trace_log.specs.declared.fault.LogFaultKind.{LogFaultKind}
use Rattle.trace_log.specs.declared.fault.LogFaultKind.TheVariants as kind
use Rattle.trace_log.specs.Judgement.{◌>>=◌, ask}
use Rattle.trace_log.specs.Clock.{Member, number_of}
use Rattle.trace_log.specs.Event.{Event}

-- The clock after some events: each event of the host puts its own in the place of the one before.
unfoldable pub clock_after : List ℕ → List Member → List Event → List Member
clock_after host clock [] = clock
clock_after host clock (event ∷ events) =
    clock_after host (if bytes_eq event.host host then event.clock else clock) events

-- The clock of the host's last event, and an empty one before its first.
abbrev pub last_clock : List ℕ → List Event → List Member
last_clock host events = clock_after host [] events

-- A number falls: one of the earlier clock is greater than in the later one.
abbrev pub falls : List Member → List Member → Bool
falls earlier later = list_any (λ one. nat_lt (number_of one.name later) one.number) earlier

-- The host's own number rises, and no other falls.
abbrev pub follows : List ℕ → List Member → List Member → Result (Unit {0}) LogFaultKind
follows host earlier later = do
  _ ← ask (nat_lt (number_of host earlier) (number_of host later)) kind.Order
  ask (not (falls earlier later)) kind.Falls

-- An event of a host, with this number of its own and this member of another host in its clock, and an event of that
-- host, with this clock, know each other: the first reaches the own number of the second, and the second that of the
-- first. So each happened before the other, which no run can have.
abbrev pub know_each_other : List ℕ → ℕ → Member → List Member → Bool
know_each_other host own one last = nat_le (number_of one.name last) one.number && nat_le own (number_of host last)

-- By the clock of the last event of each host, an event of a host with this member in its clock is in a cycle that its
-- host's event before wasn't in: the number is higher than there, and the event and the last one of the member's host
-- know each other.
abbrev pub closes_cycle : (List ℕ → List Member) → List ℕ → ℕ → Member → Bool
closes_cycle clocks host own one =
    nat_lt (number_of one.name (clocks host)) one.number && know_each_other host own one (clocks one.name)

-- One of these members does.
abbrev pub any_closes_cycle : (List ℕ → List Member) → List ℕ → ℕ → List Member → Bool
any_closes_cycle clocks host own members = list_any (closes_cycle clocks host own) members

-- An event of a host with this clock closes a cycle with the last event of another host.
abbrev pub is_in_cycle : (List ℕ → List Member) → List ℕ → List Member → Bool
is_in_cycle clocks host clock = any_closes_cycle clocks host (number_of host clock) clock

-- After the events so far a host may have an event with this clock.
abbrev pub may_follow : List Event → List ℕ → List Member → Result (Unit {0}) LogFaultKind
may_follow earlier host clock = do
  _ ← follows host (last_clock host earlier) clock
  ask (not (is_in_cycle (λ name. last_clock name earlier) host clock)) kind.Cycle
