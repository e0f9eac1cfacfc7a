-- The line that says an event with its clock.
use Rattle.std.specs.Prelude.{ℕ, ◌+◌, List, [], ◌∷◌, nat_eq, decimal, flat_map, if◌then◌else◌}
use Rattle.json.specs.Json.{Json, number, object, Members, no_members, member}
use Rattle.trace_order.specs.Orders.{Ordered}
use Rattle.trace_order.specs.State.{name_at}
use Rattle.trace_rewrite.specs.Lines.{event_line}

-- The members of a clock from this host on: each host that it counts, and its number.
abbrev pub members_from : List (List ℕ) → ℕ → List ℕ → Members
members_from names host [] = no_members
members_from names host (count ∷ counts) =
    if nat_eq count 0 then members_from names (host + 1) counts
    else member (name_at names host) (number (decimal count)) (members_from names (host + 1) counts)

-- A clock as JSON: the hosts that it counts, in the order in which they came, with their numbers.
abbrev pub clock_json : List (List ℕ) → List ℕ → Json
clock_json names clock = object (members_from names 0 clock)

-- The line that says an event that is given on.
abbrev pub ordered_line : List (List ℕ) → Ordered → List ℕ
ordered_line names one =
    event_line one.event.line (name_at names one.event.host) (clock_json names one.clock) one.event.text

-- The lines of all of these.
abbrev pub ordered_lines : List (List ℕ) → List Ordered → List ℕ
ordered_lines names given = flat_map (ordered_line names) given
