-- The hosts of a log whose names match.
use Rattle.std.specs.Prelude.{◌≡◌, ℕ, ◌<◌, ◌&&◌, not, List, [], ◌∷◌, ◌++◌, length, fold, filter, slice_index_or}
use Rattle.std.specs.Prelude.{if◌then◌else◌}
use Rattle.std.specs.List.{list_any}
use Rattle.std.specs.Str.{bytes_eq}
use Rattle.regex.specs.Patterns.{Re}
use Rattle.trace_log.specs.Log.{Logged}
use Rattle.trace_moment.specs.Moment.{Taken}
use Rattle.trace_condition.specs.Asked.{Text}
use Rattle.trace_condition.specs.Holding.{matches}

-- The hosts so far, and that of one event more, if its name matches and it is none of them.
abbrev pub with_host : Re → List Text → Logged → List Text
with_host pattern hosts one =
    if matches pattern one.event.host && not (list_any (bytes_eq one.event.host) hosts)
    then hosts ++ one.event.host ∷ [] else hosts

-- The hosts that match, in the order in which they came: that of their first events.
abbrev pub hosts_in : Re → List Logged → List Text
hosts_in pattern logged = fold (with_host pattern) [] logged

-- The host at a place of this order.
abbrev pub host_at : List Text → ℕ → Text
host_at hosts p = slice_index_or hosts p []

-- No host stands at two places.
abbrev pub AreDistinct : List Text → Type 0
AreDistinct hosts = (p q : ℕ) → p < length hosts → q < length hosts → host_at hosts p ≡ host_at hosts q → p ≡ q

-- How many events a host has, and at how many of those that were taken of it the rule holds.
abbrev pub count_events : Text → List Logged → ℕ
count_events host logged = length (filter (λ one. bytes_eq one.event.host host) logged)

abbrev pub count_matched : List Taken → ℕ
count_matched taken = length (filter (λ (one : Taken). one.holds) taken)
