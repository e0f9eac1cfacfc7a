-- The states that are left of each watched host while others are ruled out.
use Rattle.std.specs.Prelude.{◌≡◌, ◌≢◌, ℕ, ◌+◌, ◌<◌, ◌≤◌, ◌&&◌, Bool, true, false, List, [], ◌∷◌, ◌++◌, length}
use Rattle.std.specs.Prelude.{slice_index, slice_index_or, nat_lt, nat_le, take, Option, Some, None}
use Rattle.std.specs.List.{filter, AllZip}
use Rattle.trace_log.specs.Log.{Logged}
use Rattle.trace_moment.specs.declared.watched.Lasting.{Lasting}
use Rattle.trace_moment.specs.declared.watched.Lasting.TheVariants.{While, At}
use Rattle.trace_moment.specs.Moment.{HostWatch, Taken, watch_at, IsMoment}
use Rattle.trace_explain.specs.declared.reason.StateOver.{StateOver}
use Rattle.trace_explain.specs.declared.reason.HeldState.{HeldState}
use Rattle.trace_explain.specs.History.{Past, PastHost, past_host, no_past, past_at, number_at, no_host, of_host}
use Rattle.trace_explain.specs.Reasons.{IsAt, EndsChance}

-- Among events an event at a place, and the number of a watched host in its clock.
abbrev pub event_at : List Past → ℕ → Past
event_at events k = slice_index_or events k no_past

abbrev pub number_in : List Past → ℕ → ℕ → ℕ
number_in events k q = slice_index (event_at events k).numbers q

-- The next place at which the condition holds, from one on, or that behind the last event.
pub record IsNextState (events : List Past) (from next : ℕ) : Type 0 where
  pub behind : from ≤ next
  pub within : next ≤ length events
  pub holds : next < length events → (event_at events next).holds ≡ true
  pub between : (k : ℕ) → from ≤ k → k < next → (event_at events k).holds ≡ false

-- The own number of the event at a place is no greater than this one, for the host at q.
pub record IsUpTo (events : List Past) (q number k : ℕ) : Type 0 where
  pub within : k < length events
  pub up_to : number_in events k q ≤ number

-- And that of the next one is greater.
pub record IsLastUpTo (events : List Past) (q number k : ℕ) : Type 0 where
  pub is : IsUpTo events q number k
  pub last : k + 1 < length events → number < number_in events (k + 1) q

-- The last event that this number counts, or none.
abbrev pub KnowsFirst : List Past → ℕ → ℕ → Option ℕ → Type 0
KnowsFirst events q number (Some k) = IsLastUpTo events q number k
KnowsFirst events q number None = 0 < length events → number < number_in events 0 q

-- What is left of a host: its first state that is left begins with the event at the front; those before are in no
-- moment for these reasons.
pub record Left : Type 0 where
  pub host : PastHost
  pub front : ℕ
  pub over : List StateOver

abbrev pub left_at : List Left → ℕ → Left
left_at left p = slice_index_or left p (record { host = no_host; front = 0; over = [] })

-- All states of a host.
pub record AreFirst (host : PastHost) (left : Left) : Type 0 where
  pub same : left.host ≡ host
  pub front : IsNextState host.events 0 left.front
  pub over : left.over ≡ []

-- The first state was dropped for a reason.
pub record DropsFirst (old : Left) (reason : StateOver) (new : Left) : Type 0 where
  pub host : new.host ≡ old.host
  pub front : IsNextState old.host.events (old.front + 1) new.front
  pub over : new.over ≡ old.over ++ reason ∷ []

-- The place of the event that ends the state of the one at a place.
abbrev pub end_at : Lasting → ℕ → ℕ
end_at While k = k + 1
end_at At k = k

-- The first state of p is over at that of q.
abbrev pub is_over_at : Left → ℕ → Left → Bool
is_over_at one p other =
    nat_lt (end_at one.host.lasting one.front) (length one.host.events) && nat_lt other.front (length other.host.events)
    && nat_le (number_at one.host (end_at one.host.lasting one.front) p) (number_at other.host other.front p)

abbrev pub is_over : List Left → ℕ → ℕ → Bool
is_over left p q = is_over_at (left_at left p) p (left_at left q)

pub record IsOverAt (left : List Left) (p q : ℕ) : Type 0 where
  pub place : p < length left
  pub at : q < length left
  pub other : q ≢ p
  pub over : is_over left p q ≡ true

abbrev pub NoneIsOver : List Left → Type 0
NoneIsOver left = (p q : ℕ) → p < length left → q < length left → q ≢ p → is_over left p q ≡ false

-- The reason for it.
pub record IsReason (left : List Left) (p q : ℕ) (reason : StateOver) : Type 0 where
  pub line : reason.line ≡ (past_at (left_at left p).host (left_at left p).front).line
  pub at_place : reason.at_place ≡ q
  pub at_line : reason.at_line ≡ (past_at (left_at left q).host (left_at left q).front).line
  pub known : ℕ
  pub is_last : IsLastUpTo (left_at left p).host.events p
      (number_at (left_at left q).host (left_at left q).front p) known
  pub knows_up_to : reason.knows_up_to ≡ (past_at (left_at left p).host known).line

-- A state is left of each host, or none of this one.
abbrev pub HaveFirsts : List Left → Type 0
HaveFirsts left = (p : ℕ) → p < length left → (left_at left p).front < length (left_at left p).host.events

pub record LacksFirst (left : List Left) (p : ℕ) : Type 0 where
  pub place : p < length left
  pub none : length (left_at left p).host.events ≤ (left_at left p).front

-- The states of the host at p before its front are in no moment, and the event of each moment is at the front or later.
pub record IsLeft (watched : List HostWatch) (taken : List Taken) (p : ℕ) (left : Left) : Type 0 where
  pub same : left.host ≡ past_host watched taken (watch_at watched p)
  pub within : left.front ≤ length (of_host (watch_at watched p).host taken)
  pub holds : (one : Taken) → IsAt (watch_at watched p).host taken left.front one → one.holds ≡ true
  pub each : AllZip (EndsChance watched taken p)
      (filter (λ one. one.holds) (take left.front (of_host (watch_at watched p).host taken))) left.over
  pub moments : (moment : ℕ → Logged) → IsMoment watched taken moment → (k : ℕ) × (left.front ≤ k)
      × IsAt (watch_at watched p).host taken k (record { logged = moment p; holds = true })

-- This is left of each host.
pub record AreLeft (watched : List HostWatch) (taken : List Taken) (left : List Left) : Type 0 where
  pub as_many : length left ≡ length watched
  pub each : (p : ℕ) → p < length left → IsLeft watched taken p (left_at left p)

-- The condition holds at the events from one place up to another.
abbrev pub HoldBetween : List Past → ℕ → ℕ → Type 0
HoldBetween events from to = (k : ℕ) → from ≤ k → k < to → (event_at events k).holds ≡ true

-- It holds from one place up to this one, and not at the place before.
pub record HoldsBack (events : List Past) (to from : ℕ) : Type 0 where
  pub behind : from ≤ to
  pub hold : HoldBetween events from to
  pub begins : (before : ℕ) → before + 1 ≡ from → (event_at events before).holds ≡ false

-- It holds behind this place up to one at which it doesn't, or at all events behind it.
abbrev pub HoldsOn : List Past → ℕ → Option ℕ → Type 0
HoldsOn events k (Some end) = (k < end) × (end < length events) × ((event_at events end).holds ≡ false)
    × HoldBetween events (k + 1) end
HoldsOn events k None = HoldBetween events (k + 1) (length events)

-- The line of the last event that a number counts.
abbrev pub IsKnownLine : List Past → ℕ → ℕ → Option ℕ → Type 0
IsKnownLine events q number (Some line) =
    (k : ℕ) × IsLastUpTo events q number k × (line ≡ (event_at events k).line)
IsKnownLine events q number None = KnowsFirst events q number None

-- Those of each host, by these numbers.
pub record AreKnown (left : List Left) (numbers : List ℕ) (knows : List (Option ℕ)) : Type 0 where
  pub as_many : length knows ≡ length left
  pub each : (q : ℕ) → q < length left →
      IsKnownLine (left_at left q).host.events q (slice_index numbers q) (slice_index_or knows q None)

-- The line of the first place behind one at which the condition doesn't hold.
abbrev pub IsUntil : List Past → ℕ → Option ℕ → Type 0
IsUntil events at (Some line) = (end : ℕ) × HoldsOn events at (Some end) × (line ≡ (event_at events end).line)
IsUntil events at None = HoldsOn events at None

-- What is said of the first state of the host at p.
pub record IsHeld (left : List Left) (p : ℕ) (held : HeldState) : Type 0 where
  pub line : held.line ≡ (past_at (left_at left p).host (left_at left p).front).line
  pub from : ℕ
  pub back : HoldsBack (left_at left p).host.events (left_at left p).front from
  pub begun : held.begun ≡ (event_at (left_at left p).host.events from).line
  pub until : IsUntil (left_at left p).host.events (left_at left p).front held.until
  pub knows : AreKnown left (past_at (left_at left p).host (left_at left p).front).numbers held.knows.items

pub record AreHeld (left : List Left) (held : List HeldState) : Type 0 where
  pub as_many : length held ≡ length left
  pub each : (p : ℕ) (one : HeldState) → p < length left → IsHeld left p (slice_index_or held p one)
