-- The events that led to some events of a log, in an order in which they can have happened.
use Rattle.std.specs.Prelude.{◌≡◌, ◌⊎◌, ◌&&◌, ◌==◌, ℕ, ◌+◌, ◌-◌, ◌^◌, ◌<◌, Bool, List, filter, get_or, length, min}
use Rattle.std.specs.Prelude.{nat_le, sum_by}
use Rattle.std.specs.List.{AllPairs, list_any}
use Rattle.std.specs.List.Sorted.{IsNonDecreasingBy, IsPermutation}
use Rattle.std.specs.Str.{bytes_eq}
use Rattle.trace_log.specs.Clock.{number_of}
use Rattle.trace_log.specs.Log.{Logged}
use Rattle.trace_moment.specs.Moment.{HappenedBefore, own}
use Rattle.trace_detect.specs.Told.{ToldMember}

-- The events of a log that are told as members: by host and line.
abbrev pub is_told_as : Logged → ToldMember → Bool
is_told_as one member = bytes_eq one.event.host member.host && one.line == member.line

abbrev pub is_told : List ToldMember → Logged → Bool
is_told members one = list_any (is_told_as one) members

abbrev pub told_among : List ToldMember → List Logged → List Logged
told_among members logged = filter (is_told members) logged

-- An event happened before another, or is it: that one's clock counts it.
abbrev pub is_counted_by : Logged → Logged → Bool
is_counted_by one other = nat_le (own one.event) (number_of one.event.host other.event.clock)

-- It did so to one of these.
abbrev pub led_to : List Logged → Logged → Bool
led_to ends one = list_any (is_counted_by one) ends

-- The past of the members, and the members.
abbrev pub past_of : List ToldMember → List Logged → List Logged
past_of members logged = filter (led_to (told_among members logged)) logged

-- No event stands behind one that it happened before.
abbrev pub Fits : List Logged → Type 0
Fits order = AllPairs (λ one later. HappenedBefore later.event one.event → ⊥) order

-- How many events a clock counts, at most as many as a number of 64 bits says.
abbrev pub counted : Logged → ℕ
counted one = min (sum_by (λ member. member.number) one.event.clock) (2 ^ 64 - 1)

abbrev pub count_as_many : Logged → Logged → Bool
count_as_many one other = counted one == counted other

-- These events by how many of them each clock counts, and where these are as many, as they stand among these.
pub record IsByCount (events order : List Logged) : Type 0 where
  pub same : IsPermutation events order
  pub rises : IsNonDecreasingBy counted order
  pub stays : (place : ℕ) (d : Logged) → place < length order →
      filter (count_as_many (get_or order place d)) order ≡ filter (count_as_many (get_or order place d)) events

-- An order of the past that fits.
pub record IsSchedule (members : List ToldMember) (logged order : List Logged) : Type 0 where
  pub by : IsByCount (past_of members logged) order
  pub fits : Fits order

-- The event at a place is counted by one before it, or its own clock doesn't count it.
pub record IsCountedEarly (order : List Logged) (place line : ℕ) : Type 0 where
  pub within : place < length order
  pub event : Logged
  pub is : (d : Logged) → get_or order place d ≡ event
  pub at : event.line ≡ line
  pub counts : (own event.event ≡ 0)
      ⊎ ((i : ℕ) × (i < place) × ((d : Logged) → HappenedBefore event.event (get_or order i d).event))

-- The clocks of these events contradict each other: one counts the event of this line, and no more events than that one
-- does; or that one doesn't count itself.
pub record Contradict (events : List Logged) (line : ℕ) : Type 0 where
  pub order : List Logged
  pub place : ℕ
  pub by : IsByCount events order
  pub early : IsCountedEarly order place line
