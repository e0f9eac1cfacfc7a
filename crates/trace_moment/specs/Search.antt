-- What a search knows of what it took.
use Rattle.std.specs.Prelude.{◌≡◌, ℕ, Bool, List, [], ◌∷◌, ◌++◌, Result, Ok, Err}
use Rattle.std.specs.declared.alloc.AllocError.{AllocError}
use Rattle.trace_log.specs.Log.{Logged}
use Rattle.trace_moment.specs.declared.search.Search.{Search}
use Rattle.trace_moment.specs.Moment.{HostWatch, Taken}
use Rattle.trace_moment.specs.Kept.{KeptEvent, kept_at, event_kept, watched_in}
use Rattle.trace_moment.specs.Keeping.{KeepTaken, KeepMoment, KeepEarliest, KeepAll}

-- The hosts that a search watches.
abbrev pub watched_by : Search → List HostWatch
watched_by search = watched_in search.queues.items

-- Whether it knows the moment.
abbrev pub is_known : Search → Bool
is_known search = search.known

-- What it keeps of the event of the moment at a watched host, where it knows the moment: that of its first candidate.
abbrev pub moment_kept : Search → ℕ → KeptEvent
moment_kept search p = event_kept (kept_at search.queues.items p)

-- It keeps of each event of a moment its line and its text.
abbrev pub Keeps : Search → (ℕ → Logged) → Type 0
Keeps search moment = KeepMoment search.queues.items moment

-- A search has taken these, one after another: it knows the moment exactly where one is known, and keeps it.
abbrev pub HasTaken : List Taken → Search → Type 0
HasTaken taken search = KeepTaken taken search.queues.items search.floors.items search.known

-- It keeps the earliest moment of what was taken.
abbrev pub KeepsEarliest : List Taken → Search → Type 0
KeepsEarliest taken search = KeepEarliest taken search.queues.items

-- An event was taken, and it is answered whether the moment is known; or memory ran out, and it wasn't taken.
abbrev pub TakesNext : List Taken → Taken → Result Bool AllocError → Search → Type 0
TakesNext taken next (Ok known) search = HasTaken (taken ++ next ∷ []) search × (is_known search ≡ known)
TakesNext taken next (Err _) search = HasTaken taken search

-- It keeps each state of what was taken that can be in the moment or behind it: nothing was taken after it knew one.
abbrev pub KeepsAll : List Taken → Search → Type 0
KeepsAll taken search = KeepAll taken search.queues.items search.floors.items

-- An event was taken, and all states are kept; or memory ran out, and those before are.
abbrev pub KeepsNext : List Taken → Taken → Result Bool AllocError → Search → Type 0
KeepsNext taken next (Ok known) search = KeepsAll (taken ++ next ∷ []) search
KeepsNext taken next (Err _) search = KeepsAll taken search
