-- What an order keeps of the events that were read and of those that were given on.
use Rattle.std.specs.Prelude.{◌≡◌, ℕ, ◌<◌, ◌↔◌, Bool, true, false, List, [], ◌∷◌, Option, Some, option_map}
use Rattle.std.specs.Prelude.{is_some, unwrap_or, map, slice_index_or, sum_by, length, slice_index, ◌≤◌}
use Rattle.std.specs.Prelude.{Contains, fold}
use Rattle.std.specs.List.{list_all}
use Rattle.std.specs.HashMap.{get_by_text}
use Rattle.trace_order.specs.declared.order.MessageOrder.{MessageOrder}
use Rattle.trace_order.specs.declared.order.OrderedEvent.{OrderedEvent}
use Rattle.trace_order.specs.Messages.{MessageEvent}
use Rattle.trace_order.specs.Orders.{Ordered, IsLog, IsOrder, Keeps, IsReady, HostState, host_at, first_waiting}
use Rattle.trace_order.specs.Clocks.{IsNextClock, greatest, most_number}
use Rattle.trace_order.specs.Ids.{IsAnnounced, is_known}

-- The events of a host that wait.
abbrev pub waits_in : List HostState → ℕ → List MessageEvent
waits_in hosts host = (host_at hosts host).waits

-- The clock of a host's last event that was given on.
abbrev pub clocks_in : List HostState → ℕ → List ℕ
clocks_in hosts host = (host_at hosts host).clock

-- How many events wait.
abbrev pub waiting_in : List HostState → ℕ
waiting_in hosts = sum_by (λ host. length host.waits) hosts

-- The names of the hosts, in the order in which they came.
abbrev pub names_in : List HostState → List (List ℕ)
names_in hosts = map (λ (host : HostState). host.name) hosts

-- The name of the host with a number.
abbrev pub name_at : List (List ℕ) → ℕ → List ℕ
name_at names host = slice_index_or names host []

-- The clock with which an id was sent.
abbrev pub sent_of : MessageOrder → List ℕ → Option (List ℕ)
sent_of order id = option_map (λ clock. clock.items) (get_by_text order.sent id)

-- The line of the event that was read and sends the id.
abbrev pub line_of : MessageOrder → List ℕ → Option ℕ
line_of order id = get_by_text order.announced id

-- Whether an event that was read sends the id.
abbrev pub is_announced : MessageOrder → List ℕ → Bool
is_announced order = is_known (line_of order)

-- An event that was given on.
abbrev pub seen_ordered : OrderedEvent → Ordered
seen_ordered one = record { event = one.event; clock = one.clock.items }

-- No two hosts have one name.
abbrev pub AreDistinct : List (List ℕ) → Type 0
AreDistinct names = (i j : ℕ) → i < length names → j < length names → name_at names i ≡ name_at names j → i ≡ j

-- These events of a log were read, and these were given on: of each host in their order, what was received behind its
-- send, and with clocks that are happened-before.
pub record HasOrdered (log : List MessageEvent) (given : List Ordered) (order : MessageOrder) : Type 0 where
  pub is_log : IsLog log
  pub named : AreDistinct (names_in order.hosts.items)
  pub placed : (event : MessageEvent) → Contains log event → event.host < length (names_in order.hosts.items)
  pub announced : (id : List ℕ) → (is_announced order id ≡ true) ↔ IsAnnounced log id
  pub in_order : IsOrder log given (waits_in order.hosts.items)
  pub keeps : Keeps log given (clocks_in order.hosts.items) (sent_of order)

-- The event's line is behind all of them.
abbrev pub IsBehind : List MessageEvent → MessageEvent → Type 0
IsBehind log event = (other : MessageEvent) → Contains log other → other.line < event.line

-- The greatest of the clocks with which these ids were sent, host by host: each of them happened before the event that
-- receives them.
abbrev pub sent_clock : (List ℕ → Option (List ℕ)) → List (List ℕ) → List ℕ
sent_clock sent receives = fold (λ clock id. greatest clock (unwrap_or (sent id) [])) [] receives

-- Whether all that is received was sent.
abbrev pub is_free : (List ℕ → Option (List ℕ)) → List (List ℕ) → Bool
is_free sent receives = list_all (λ id. is_some (sent id)) receives

-- Whether the first of the events that wait can be given on.
abbrev pub can_go : (List ℕ → Option (List ℕ)) → List MessageEvent → Bool
can_go sent [] = false
can_go sent (event ∷ events) = is_free sent event.receives

-- Each host's first event that waits receives what no event sent that was given on.
abbrev pub AllWait : List Ordered → List HostState → Type 0
AllWait given hosts = (host : ℕ) (event : MessageEvent) → first_waiting (waits_in hosts host) ≡ Some event →
    IsReady given event → ⊥

-- The clock with which the first event of a host is given on, that waits.
abbrev pub IsClockOf : (List ℕ → Option (List ℕ)) → List ℕ → List MessageEvent → ℕ → List ℕ → Type 0
IsClockOf sent before [] host clock = Unit {0}
IsClockOf sent before (event ∷ events) host clock =
    IsNextClock before (sent_clock sent event.receives) host clock × (slice_index clock host ≤ most_number)

abbrev pub IsFirstClock : (List ℕ → Option (List ℕ)) → HostState → ℕ → List ℕ → Type 0
IsFirstClock sent state host clock = IsClockOf sent state.clock state.waits host clock
