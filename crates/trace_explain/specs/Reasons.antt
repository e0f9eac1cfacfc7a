-- What the reasons of an answer say of the events that were taken.
use Rattle.std.specs.Prelude.{◌≡◌, ◌≢◌, ℕ, ◌+◌, ◌<◌, ◌≤◌, true, false, List, length, Option, Some, None}
use Rattle.std.specs.Prelude.{slice_index_or, Contains}
use Rattle.std.specs.List.{filter, AllZip}
use Rattle.trace_log.specs.Event.{Event}
use Rattle.trace_log.specs.Clock.{number_of}
use Rattle.trace_log.specs.Log.{Logged}
use Rattle.trace_moment.specs.Moment.{HostWatch, Taken, watch_at, own, IsOver, IsMoment, IsEarliest}
use Rattle.trace_moment.specs.Standing.{HasNoMoment}
use Rattle.trace_explain.specs.declared.reason.StateOver.{StateOver}
use Rattle.trace_explain.specs.declared.reason.HeldState.{HeldState}
use Rattle.trace_explain.specs.declared.reason.Explanation.{Explanation}
use Rattle.trace_explain.specs.declared.reason.Explanation.TheVariants.{Found, NoneLeft}
use Rattle.trace_explain.specs.History.{of_host}

-- An event of a host among those that were taken, at a place in their order.
pub record IsAt (host : List ℕ) (taken : List Taken) (k : ℕ) (one : Taken) : Type 0 where
  pub within : k < length (of_host host taken)
  pub is : slice_index_or (of_host host taken) k one ≡ one

-- It is the last one of its host that an event knows: the next one, if one was taken, has a greater number than this
-- clock gives the host.
pub record IsLastKnown (host : List ℕ) (taken : List Taken) (event : Event) (k : ℕ) (one : Taken) : Type 0 where
  pub at : IsAt host taken k one
  pub known : own one.logged.event ≤ number_of host event.clock
  pub last : (next : Taken) → IsAt host taken (k + 1) next → number_of host event.clock < own next.logged.event

-- An event knows the host up to this line, or none of its lines.
abbrev pub KnowsUpTo : List ℕ → List Taken → Event → Option ℕ → Type 0
KnowsUpTo host taken event (Some line) =
    (k : ℕ) × (one : Taken) × IsLastKnown host taken event k one × (one.logged.line ≡ line)
KnowsUpTo host taken event None =
    (first : Taken) → IsAt host taken 0 first → number_of host event.clock < own first.logged.event

-- A state of the host at p is in no moment: it is over at an event of another host, and each moment's event there is
-- this one or a later one.
pub record EndsChance (watched : List HostWatch) (taken : List Taken) (p : ℕ) (state : Taken) (over : StateOver)
    : Type 0 where
  pub line : over.line ≡ state.logged.line
  pub at : Taken
  pub place : over.at_place < length watched
  pub other : over.at_place ≢ p
  pub was_taken : Contains taken at
  pub of_host : at.logged.event.host ≡ (watch_at watched over.at_place).host
  pub at_line : over.at_line ≡ at.logged.line
  pub knows : KnowsUpTo (watch_at watched p).host taken at.logged.event (Some over.knows_up_to)
  pub is_over : IsOver (watch_at watched p).lasting taken state.logged.event at.logged.event
  pub begun : (moment : ℕ → Logged) → IsMoment watched taken moment →
      own at.logged.event ≤ own (moment over.at_place).event

-- The states of a host: its events at which its condition holds.
abbrev pub states_of : List ℕ → List Taken → List Taken
states_of host taken = filter (λ one. one.holds) (of_host host taken)

-- Each state of a host is in no moment, for these reasons in the order of the states; so there is none.
pub record ExplainsNone (watched : List HostWatch) (taken : List Taken) (p : ℕ) (over : List StateOver) : Type 0 where
  pub place : p < length watched
  pub each : AllZip (EndsChance watched taken p) (states_of (watch_at watched p).host taken) over
  pub none : HasNoMoment watched taken

-- The condition of a host holds at its events from one place of their order up to another.
abbrev pub HoldsFrom : List ℕ → List Taken → ℕ → ℕ → Type 0
HoldsFrom host taken from to = (k : ℕ) (one : Taken) → from ≤ k → k < to → IsAt host taken k one → one.holds ≡ true

-- It began to hold at this event: at the one before, if one was taken, it didn't hold.
pub record HasBegun (host : List ℕ) (taken : List Taken) (k : ℕ) (line : ℕ) : Type 0 where
  pub from : ℕ
  pub first : Taken
  pub at : IsAt host taken from first
  pub first_line : first.logged.line ≡ line
  pub holds : HoldsFrom host taken from (k + 1)
  pub begins : (before : ℕ) (one : Taken) → before + 1 ≡ from → IsAt host taken before one → one.holds ≡ false

-- It holds until this line, or still.
abbrev pub HoldsUntil : List ℕ → List Taken → ℕ → Option ℕ → Type 0
HoldsUntil host taken k (Some line) = (until : ℕ) × (one : Taken) × (k < until) × IsAt host taken until one
    × (one.holds ≡ false) × (one.logged.line ≡ line) × HoldsFrom host taken k until
HoldsUntil host taken k None = (to : ℕ) → HoldsFrom host taken k to

-- What is said of a member of a moment: when its host's condition holds, and what it knows of each watched host.
pub record SaysHeld (watched : List HostWatch) (taken : List Taken) (p : ℕ) (member : Logged) (held : HeldState)
    : Type 0 where
  pub line : held.line ≡ member.line
  pub k : ℕ
  pub at : IsAt (watch_at watched p).host taken k (record { logged = member; holds = true })
  pub begun : HasBegun (watch_at watched p).host taken k held.begun
  pub until : HoldsUntil (watch_at watched p).host taken k held.until
  pub as_many : length held.knows.items ≡ length watched
  pub knows : (q : ℕ) → q < length watched →
      KnowsUpTo (watch_at watched q).host taken member.event (slice_index_or held.knows.items q None)

-- The earliest moment, with what is said of each of its members.
pub record ExplainsFound (watched : List HostWatch) (taken : List Taken) (held : List HeldState) : Type 0 where
  pub moment : ℕ → Logged
  pub earliest : IsEarliest watched taken moment
  pub as_many : length held ≡ length watched
  pub each : (p : ℕ) (one : HeldState) → p < length watched →
      SaysHeld watched taken p (moment p) (slice_index_or held p one)

-- What is said of what was taken: of the earliest moment, or that there is none.
abbrev pub Explains : List HostWatch → List Taken → Explanation → Type 0
Explains watched taken (Found held) = ExplainsFound watched taken held.items
Explains watched taken (NoneLeft place over) = ExplainsNone watched taken place over.items
