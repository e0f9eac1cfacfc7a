-- What is kept of the queues that stand for what was taken.
use Rattle.std.specs.Prelude.{◌≡◌, ◌<◌, ℕ, Bool, List, length}
use Rattle.trace_log.specs.Log.{Logged}
use Rattle.trace_moment.specs.Moment.{Taken, HaveDistinctHosts, IsEarliest, IsKnown}
use Rattle.trace_moment.specs.Queues.{EventQueue, watched_by}
use Rattle.trace_moment.specs.Kept.{KeptQueue, AreKept, kept_event, kept_at, event_kept, watched_in}
use Rattle.trace_moment.specs.Elimination.{LastKnowsAll, AreLeft, AreUnderFloors, ArePassedByNone, AddsEvent}
use Rattle.trace_moment.specs.Standing.{StandFor}

-- Of queues that stand for what was taken, this is kept.
pub record KeepTaken (taken : List Taken) (kept : List KeptQueue) (floors : List ℕ) (known : Bool) : Type 0 where
  pub queues : List EventQueue
  pub are : AreKept kept queues
  pub stand : StandFor taken queues floors known

-- An event was added to queues, and of the new ones this is kept.
pub record KeepAdded (taken : List Taken) (next : Taken) (queues : List EventQueue) (kept : List KeptQueue)
    (floors new_floors : List ℕ) : Type 0 where
  pub added : List EventQueue
  pub are : AreKept kept added
  pub adds : AddsEvent taken next queues added floors new_floors
  pub watched : watched_by added ≡ watched_by queues

-- Elimination left some of these queues, under these floors, and of them this is kept.
pub record KeepLeft (taken : List Taken) (queues : List EventQueue) (kept : List KeptQueue) (floors : List ℕ) : Type 0
  where
    pub others : List EventQueue
    pub are : AreKept kept others
    pub left : AreLeft taken others floors
    pub under : AreUnderFloors others floors
    pub watched : watched_by others ≡ watched_by queues

-- Of each event of a moment its line and its text are kept.
abbrev pub KeepMoment : List KeptQueue → (ℕ → Logged) → Type 0
KeepMoment kept moment = (p : ℕ) → p < length (watched_in kept) → kept_event (moment p) ≡ event_kept (kept_at kept p)

-- The earliest moment of what was taken is kept.
pub record KeepEarliest (taken : List Taken) (kept : List KeptQueue) : Type 0 where
  pub moment : ℕ → Logged
  pub earliest : IsEarliest (watched_in kept) taken moment
  pub kept_is : KeepMoment kept moment

-- A moment is known of what was taken, and it is kept.
pub record KeepKnown (taken : List Taken) (kept : List KeptQueue) : Type 0 where
  pub moment : ℕ → Logged
  pub known : IsKnown (watched_in kept) taken moment
  pub kept_is : KeepMoment kept moment

-- Of queues with each candidate that elimination leaves of what was taken, this is kept.
pub record KeepAll (taken : List Taken) (kept : List KeptQueue) (floors : List ℕ) : Type 0 where
  pub queues : List EventQueue
  pub are : AreKept kept queues
  pub distinct : HaveDistinctHosts (watched_by queues)
  pub last : LastKnowsAll taken
  pub left : AreLeft taken queues floors
  pub under : AreUnderFloors queues floors
  pub settled : ArePassedByNone queues floors

-- And the moment is known exactly where one is.
pub record KeepAllTaken (taken : List Taken) (kept : List KeptQueue) (floors : List ℕ) (known : Bool) : Type 0 where
  pub all : KeepAll taken kept floors
  pub taken_all : KeepTaken taken kept floors known
