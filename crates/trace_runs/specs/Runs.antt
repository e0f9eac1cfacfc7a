-- Which runs of a log are known to overlap while the log is read.
use Rattle.std.specs.Prelude.{◌≡◌, ◌≤◌, ◌<◌, ℕ, List, ◌++◌, length, Some, IfSome}
use Rattle.trace_moment.specs.Moment.{HostWatch, Taken, Follow, own}
use Rattle.trace_definitely.specs.Logs.{AreOverlappingIn, LogRun}

-- Runs overlap, and none of them begins later than in any others that do.
pub record AreLeastIn (watched : List HostWatch) (taken : List Taken) (runs : ℕ → LogRun) : Type 0 where
  pub overlap : AreOverlappingIn watched taken runs
  pub least : (others : ℕ → LogRun) → AreOverlappingIn watched taken others → (p : ℕ) → p < length watched →
      own (runs p).begin.event ≤ own (others p).begin.event

-- No runs overlap.
abbrev pub HasNoRuns : List HostWatch → List Taken → Type 0
HasNoRuns watched taken = (runs : ℕ → LogRun) → AreOverlappingIn watched taken runs → ⊥

-- A run, when more events have come: it begins with the same event, and where it was over it is over at the same one.
pub record IsSameLater (run later : LogRun) : Type 0 where
  pub begin : later.begin ≡ run.begin
  pub over : IfSome run.over (λ over. later.over ≡ Some over)

-- When more events have come, these runs are the least that overlap.
pub record AreStillLeast (watched : List HostWatch) (taken : List Taken) (runs : ℕ → LogRun) : Type 0 where
  pub later : ℕ → LogRun
  pub same : (p : ℕ) → p < length watched → IsSameLater (runs p) (later p)
  pub are : AreLeastIn watched taken later

-- Runs are known: they are the least that overlap, and stay it whatever follows.
pub record AreKnown (watched : List HostWatch) (taken : List Taken) (runs : ℕ → LogRun) : Type 0 where
  pub now : AreLeastIn watched taken runs
  pub stay : (more : List Taken) → Follow taken more → AreStillLeast watched (taken ++ more) runs

-- None are known: the log may go on so that no runs overlap.
pub record NoneAreKnown (watched : List HostWatch) (taken : List Taken) : Type 0 where
  pub more : List Taken
  pub follow : Follow taken more
  pub none : HasNoRuns watched (taken ++ more)
