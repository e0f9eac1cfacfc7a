-- The events with their clocks as a log with clocks has them, by the names of the hosts.
use Rattle.std.specs.Prelude.{◌≡◌, ℕ, ◌+◌, ◌↔◌, List, [], ◌∷◌, nat_eq, Contains, Ok, if◌then◌else◌}
use Rattle.trace_log.specs.Clock.{Member, clock_of}
use Rattle.trace_log.specs.Event.{Event}
use Rattle.trace_moment.specs.Moment.{HappenedBefore}
use Rattle.trace_order.specs.Messages.{MessageEvent}
use Rattle.trace_order.specs.Orders.{Ordered, IsUpTo}
use Rattle.trace_order.specs.State.{name_at}
use Rattle.trace_messages.specs.Printed.{members_from}

-- The members of a clock from this host on: each host that it counts, and its number.
abbrev pub named_from : List (List ℕ) → ℕ → List ℕ → List Member
named_from names host [] = []
named_from names host (count ∷ counts) =
    if nat_eq count 0 then named_from names (host + 1) counts
    else record { name = name_at names host; number = count } ∷ named_from names (host + 1) counts

-- An event that was given on, as one of a log with clocks.
abbrev pub event_named : List (List ℕ) → Ordered → Event
event_named names one = record {
  host = name_at names one.event.host;
  clock = named_from names 0 one.clock;
  text = one.event.text;
}

-- What is printed of the clocks is read as these clocks, and they are happened-before: one event happened before
-- another by the clocks exactly where it is that one, or happened before it by the messages.
pub record HaveClocks (log : List MessageEvent) (given : List Ordered) (names : List (List ℕ)) : Type 0 where
  pub read_back : (one : Ordered) → Contains given one →
      clock_of (members_from names 0 one.clock) ≡ Ok (named_from names 0 one.clock)
  pub says : (e f : Ordered) → Contains given e → Contains given f →
      (HappenedBefore (event_named names e) (event_named names f) ↔ IsUpTo log e.event f.event)
