-- Vector clocks: the number of each host, by the host's number, and 0 behind the last (Fidge 1988; Mattern 1989).
use Rattle.std.specs.Prelude.{◌≡◌, ℕ, zero, suc, ◌+◌, List, [], ◌∷◌, ◌++◌, length, max, slice_index, nat_eq}
use Rattle.std.specs.Prelude.{if◌then◌else◌}

-- The greatest number of a clock.
abbrev pub most_number : ℕ
most_number = 4294967294

-- The number of a host in the clock of an event behind one with this clock, that receives what was sent with that one:
-- the greatest of both, and the event's own host's number one more.
abbrev pub next_number : List ℕ → List ℕ → ℕ → ℕ → ℕ
next_number before sender host i =
    max (slice_index before i) (slice_index sender i) + (if nat_eq i host then 1 else 0)

-- The event has this clock.
abbrev pub IsNextClock : List ℕ → List ℕ → ℕ → List ℕ → Type 0
IsNextClock before sender host clock = (i : ℕ) → slice_index clock i ≡ next_number before sender host i

-- The numbers of the first hosts.
unfoldable pub numbers_to : (ℕ → ℕ) → ℕ → List ℕ
numbers_to number zero = []
numbers_to number (suc count) = numbers_to number count ++ number count ∷ []

-- The greatest of both clocks, host by host.
unfoldable pub greatest : List ℕ → List ℕ → List ℕ
greatest one other =
    numbers_to (λ i. max (slice_index one i) (slice_index other i)) (max (length one) (length other))

-- The clock of the event, as far as it counts a host.
unfoldable pub next_clock : List ℕ → List ℕ → ℕ → List ℕ
next_clock before sender host =
    numbers_to (next_number before sender host) (max (max (length before) (length sender)) (host + 1))
