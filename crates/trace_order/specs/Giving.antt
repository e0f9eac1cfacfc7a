-- Which events an order gives on, and what it keeps then.
use Rattle.std.specs.Prelude.{◌≡◌, ◌<◌, Result, Ok, Err, ℕ, ◌+◌, zero, suc, Bool, List, [], ◌∷◌, ◌++◌}
use Rattle.std.specs.Prelude.{Option, Some, None, length, set, nat_lt}
use Rattle.std.specs.Prelude.{if◌then◌else◌, slice_index}
use Rattle.std.specs.List.{position, position_or_len}
use Rattle.std.specs.Str.{bytes_eq}
use Rattle.trace_order.specs.declared.order.MessageOrder.{MessageOrder}
use Rattle.trace_order.specs.Clocks.{most_number, next_clock}
use Rattle.trace_order.specs.declared.order.OrderedEvent.{OrderedEvent}
use Rattle.trace_order.specs.declared.order_fault.GiveFault.{GiveFault}
use Rattle.trace_order.specs.declared.order_fault.GiveFault.TheVariants as give
use Rattle.trace_order.specs.Ids.{with_announced}
use Rattle.trace_order.specs.Messages.{MessageEvent, Words, is_among}
use Rattle.trace_order.specs.Orders.{Ordered, HostState, host_at}
use Rattle.trace_order.specs.State.{can_go, line_of, seen_ordered, sent_clock, sent_of, waiting_in, waits_in}

-- What is kept of a log: its hosts in the order in which they came, the line of the event that was read and sends each
-- id, and the clock of each id that was sent by an event that was given on.
pub record OrderState : Type 0 where
  pub hosts : List HostState
  pub announced : List ℕ → Option ℕ
  pub sent : List ℕ → Option (List ℕ)

-- Before the first event.
abbrev pub none_kept : OrderState
none_kept = record { hosts = []; announced = λ id. None; sent = λ id. None }

abbrev pub state_of : MessageOrder → OrderState
state_of order = record { hosts = order.hosts.items; announced = line_of order; sent = sent_of order }

-- Whether a host has this name.
abbrev pub is_named : List ℕ → HostState → Bool
is_named name host = bytes_eq host.name name

-- The number of the host with this name: its place, or the one behind all.
abbrev pub number_in : List HostState → List ℕ → ℕ
number_in hosts name = position_or_len (is_named name) hosts

-- The hosts with the one of this name, which comes behind the others if it's new.
abbrev pub with_host : List HostState → List ℕ → List HostState
with_host hosts name =
    if nat_lt (number_in hosts name) (length hosts) then hosts
    else hosts ++ record { name = name; clock = []; waits = [] } ∷ []

-- The hosts where an event waits behind the others of its host.
abbrev pub with_waiting : List HostState → MessageEvent → List HostState
with_waiting hosts event =
    let host = host_at hosts event.host in
    set hosts event.host (record host { waits = host.waits ++ event ∷ [] })

-- The event that the line of this number says.
abbrev pub event_read : List HostState → ℕ → Words → MessageEvent
event_read hosts line words = record {
  line = line;
  host = number_in hosts words.host;
  text = words.text;
  receives = words.receives;
  sends = words.sends;
}

-- What is kept once the event of the line of this number was read.
unfoldable pub after_reading : OrderState → ℕ → Words → OrderState
after_reading state line words = record {
  hosts = with_waiting (with_host state.hosts words.host) (event_read state.hosts line words);
  announced = with_announced state.announced line words.sends;
  sent = state.sent;
}

-- Which clock each id was sent with, with those that are sent with this one.
abbrev pub with_sent : (List ℕ → Option (List ℕ)) → List (List ℕ) → List ℕ → List ℕ → Option (List ℕ)
with_sent sent sends clock id = if is_among id sends then Some clock else sent id

-- What is kept once the first event of a host was given on with this clock, behind which these wait.
unfoldable pub after_giving : OrderState → ℕ → MessageEvent → List MessageEvent → List ℕ → OrderState
after_giving state number event waits clock = record {
  hosts = set state.hosts number (record { name = (host_at state.hosts number).name; clock = clock; waits = waits });
  announced = state.announced;
  sent = with_sent state.sent event.sends clock;
}

-- The event that is given on next: none where each waits, or one with what is kept then, or one whose line has a number
-- that no clock can have.
pub data Next : Type 0 where
  nothing : Next
  one : Ordered → OrderState → Next
  too_many : ℕ → Next

-- The first of these events of a host is given on, with this clock.
abbrev pub next_with : OrderState → ℕ → MessageEvent → List MessageEvent → List ℕ → Next
next_with state number event waits clock =
    if nat_lt most_number (slice_index clock number) then too_many event.line
    else one (record { event = event; clock = clock }) (after_giving state number event waits clock)

-- The clock with which an event of a host is given on.
abbrev pub clock_of : (List ℕ → Option (List ℕ)) → HostState → ℕ → MessageEvent → List ℕ
clock_of sent host number event = next_clock host.clock (sent_clock sent event.receives) number

-- The first of these events of a host is given on.
abbrev pub next_of : OrderState → ℕ → List MessageEvent → Next
next_of state number [] = nothing
next_of state number (event ∷ waits) =
    next_with state number event waits (clock_of state.sent (host_at state.hosts number) number event)

abbrev pub next_at : OrderState → Option ℕ → Next
next_at state None = nothing
next_at state (Some number) = next_of state number (waits_in state.hosts number)

-- The first host whose first event waits for none.
abbrev pub first_ready : OrderState → Option ℕ
first_ready state = position (λ (host : HostState). can_go state.sent host.waits) state.hosts

-- It gives that event on.
unfoldable pub next_in : OrderState → Next
next_in state = next_at state (first_ready state)

-- An event was given on, or has a number that no clock can have, or memory ran out; then all is as before.
abbrev pub IsGiven : Result OrderedEvent GiveFault → Next → OrderState → OrderState → Type 0
IsGiven (Ok found) next old new = next ≡ one (seen_ordered found) new
IsGiven (Err (give.Many line)) next old new = (next ≡ too_many line) × (new ≡ old)
IsGiven (Err give.Memory) next old new = new ≡ old

-- The same where there may be none.
abbrev pub IsNext : Result (Option OrderedEvent) GiveFault → Next → OrderState → OrderState → Type 0
IsNext (Ok None) next old new = (next ≡ nothing) × (new ≡ old)
IsNext (Ok (Some found)) next old new = next ≡ one (seen_ordered found) new
IsNext (Err (give.Many line)) next old new = (next ≡ too_many line) × (new ≡ old)
IsNext (Err give.Memory) next old new = new ≡ old

-- The clock of the first of these events, and none where there is none.
abbrev pub first_of : (List ℕ → Option (List ℕ)) → HostState → ℕ → List MessageEvent → List ℕ
first_of sent host number [] = []
first_of sent host number (event ∷ waits) = clock_of sent host number event

abbrev pub first_clock : (List ℕ → Option (List ℕ)) → HostState → ℕ → List ℕ
first_clock sent host number = first_of sent host number host.waits

-- The first of these events has a number that no clock can have.
abbrev pub AreTooMany : (List ℕ → Option (List ℕ)) → HostState → ℕ → List MessageEvent → ℕ → Type 0
AreTooMany sent host number [] line = ⊥
AreTooMany sent host number (event ∷ waits) line =
    (line ≡ event.line) × (most_number < slice_index (clock_of sent host number event) number)

abbrev pub IsTooMany : (List ℕ → Option (List ℕ)) → HostState → ℕ → ℕ → Type 0
IsTooMany sent host number line = AreTooMany sent host number host.waits line

-- All events that are given on, what is kept then, and the line of the event with which it ended, if one has a number
-- that no clock can have.
pub record Giving : Type 0 where
  pub given : List Ordered
  pub kept : OrderState
  pub many : Option ℕ

abbrev pub with_first : Ordered → Giving → Giving
with_first first giving = record giving { given = first ∷ giving.given }

-- The next event, and those that are given on of what is kept then.
abbrev pub giving_by : (OrderState → Giving) → OrderState → Next → Giving
giving_by giving state nothing = record { given = []; kept = state; many = None }
giving_by giving state (one first kept) = with_first first (giving kept)
giving_by giving state (too_many line) = record { given = []; kept = state; many = Some line }

-- One event after another, at most so many.
unfoldable pub giving_of : ℕ → OrderState → Giving
giving_of zero state = record { given = []; kept = state; many = None }
giving_of (suc count) state = giving_by (giving_of count) state (next_in state)

-- One event after another, until each waits.
unfoldable pub giving : OrderState → Giving
giving state = giving_of (waiting_in state.hosts + 1) state
