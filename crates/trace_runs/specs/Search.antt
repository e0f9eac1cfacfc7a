-- What a search for runs knows of what it took.
use Rattle.std.specs.Prelude.{◌≡◌, ℕ, Bool, List, [], ◌∷◌, ◌++◌, Result, Ok, Err, MatchBool}
use Rattle.std.specs.declared.alloc.AllocError.{AllocError}
use Rattle.trace_moment.specs.Moment.{HostWatch, Taken}
use Rattle.trace_runs.specs.declared.search.RunSearch.{RunSearch}
use Rattle.trace_runs.specs.Kept.{ToldRun, kept_at, told_kept, watched_in}
use Rattle.trace_runs.specs.Keeping.{KeepKnown, KeepLeast, KeepNext, KeepSince, KeepTaken}

-- The hosts that a search watches.
abbrev pub watched_by : RunSearch → List HostWatch
watched_by search = watched_in search.queues.items

-- Whether it knows runs that overlap.
abbrev pub is_known : RunSearch → Bool
is_known search = search.known

-- What it tells of the run of a watched host, where it knows runs: that of its first run.
abbrev pub run_told : RunSearch → ℕ → ToldRun
run_told search p = told_kept (kept_at search.queues.items p)

-- A search has taken these, one after another: it knows runs exactly where some are known, and keeps them as they were
-- when they were first known.
abbrev pub HasTaken : List Taken → RunSearch → Type 0
HasTaken taken search = KeepTaken taken search.queues.items search.known

-- It keeps runs that are known of what was taken: it took no more since.
abbrev pub KeepsKnown : List Taken → RunSearch → Type 0
KeepsKnown taken search = KeepKnown taken search.queues.items

-- It keeps runs that have been known since some of these were taken.
abbrev pub KeepsSince : List Taken → RunSearch → Type 0
KeepsSince taken search = KeepSince taken search.queues.items

-- It keeps the least runs of what was taken that overlap.
abbrev pub KeepsLeast : List Taken → RunSearch → Type 0
KeepsLeast taken search = KeepLeast taken search.queues.items

-- An event was taken, and it is answered whether runs are known; or memory ran out, and it wasn't taken.
abbrev pub TakesNext : List Taken → Taken → Result Bool AllocError → RunSearch → Type 0
TakesNext taken next (Ok known) search = HasTaken (taken ++ next ∷ []) search × (is_known search ≡ known)
TakesNext taken next (Err _) search = HasTaken taken search

-- Where none were known before, they are known of what was taken now, or none are.
abbrev pub KnowsNext : List Taken → Taken → Result Bool AllocError → RunSearch → Type 0
KnowsNext taken next (Ok known) search = KeepNext (taken ++ next ∷ []) search.queues.items known
KnowsNext taken next (Err _) search = HasTaken taken search

-- The log has ended: runs have been known since before, or these are the least.
abbrev pub KeepsAtEnd : Bool → List Taken → RunSearch → Type 0
KeepsAtEnd known taken search = MatchBool known (KeepsSince taken search) (KeepsLeast taken search)
