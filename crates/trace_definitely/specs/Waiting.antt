-- The runs of a log that may be among those that overlap, while the log is read.
use Rattle.std.specs.Prelude.{◌≡◌, ◌==◌, ◌⊎◌, ◌<◌, ◌≤◌, ℕ, suc, true, false, List, [], ◌∷◌, ◌++◌, length, nat_lt}
use Rattle.std.specs.Prelude.{slice_index_or, if◌then◌else◌, Option, Some, None, IfSome}
use Rattle.trace_log.specs.Log.{Logged}
use Rattle.trace_moment.specs.Moment.{HappenedBefore, HaveDistinctHosts, HostWatch, Taken, watch_at}
use Rattle.trace_definitely.specs.Logs.{AreOverlappingIn, LogRun, OwnRise, no_event, row}

-- The event of this number of a host.
abbrev pub nth : List Taken → ℕ → Taken
nth events k = slice_index_or events k no_event

-- A run among the events of a host.
pub record IsRunIn (events : List Taken) (from until : ℕ) (run : LogRun) : Type 0 where
  pub some : from < until
  pub within : until ≤ length events
  pub holds : (k : ℕ) → from ≤ k → k < until → (nth events k).holds ≡ true
  pub begins : (k : ℕ) → suc k ≡ from → (nth events k).holds ≡ false
  pub ends : until < length events → (nth events until).holds ≡ false
  pub begin : run.begin ≡ (nth events from).logged
  pub over : run.over ≡ (if nat_lt until (length events) then Some (nth events until).logged else None)

-- From none of these events on the condition holds.
abbrev pub NoneHold : List Taken → ℕ → ℕ → Type 0
NoneHold events low high = (k : ℕ) → low ≤ k → k < high → (nth events k).holds ≡ false

-- These are all runs that begin at an event or behind it, one after another.
abbrev pub AreAllFrom : List Taken → ℕ → List LogRun → Type 0
AreAllFrom events low [] = NoneHold events low (length events)
AreAllFrom events low (run ∷ runs) = (from : ℕ) × (until : ℕ) × (low ≤ from) × IsRunIn events from until run
    × NoneHold events low from × AreAllFrom events until runs

-- These runs of each watched host wait: all of its runs but those that are among no runs that overlap, whatever
-- follows.
pub record AreWaiting (watched : List HostWatch) (taken : List Taken) (waiting : ℕ → List LogRun) : Type 0 where
  pub low : ℕ → ℕ
  pub within : (p : ℕ) → p < length watched → (low p ≡ 0) ⊎ (low p < length (row watched taken p))
  pub all : (p : ℕ) → p < length watched → AreAllFrom (row watched taken p) (low p) (waiting p)
  pub left : (more : List Taken) → OwnRise watched (taken ++ more) → (runs : ℕ → LogRun)
      → (overlap : AreOverlappingIn watched (taken ++ more) runs) → (p : ℕ) (host : p < length watched)
      → low p ≤ (overlap.are p host).from

-- What waits of a host, with its next event.
abbrev pub at_last : Option Logged → LogRun → List LogRun → Taken → List LogRun → List LogRun
at_last None run runs next later =
    (if next.holds then run else record { begin = run.begin; over = Some next.logged }) ∷ runs
at_last (Some over) run runs next later = run ∷ later

abbrev pub with_event : List LogRun → Taken → List LogRun
with_event [] next = if next.holds then record { begin = next.logged; over = None } ∷ [] else []
with_event (run ∷ runs) next = at_last run.over run runs next (with_event runs next)

-- The same of each host, but for one.
abbrev pub with_host : (ℕ → List LogRun) → ℕ → List LogRun → ℕ → List LogRun
with_host waiting at runs p = if p == at then runs else waiting p

-- Before the first event nothing waits.
abbrev pub WaitingBeginsLaw : Type 0
WaitingBeginsLaw = (watched : List HostWatch) → AreWaiting watched [] (λ p. [])

-- The next event of a host.
abbrev pub WaitingGrowsLaw : Type 0
WaitingGrowsLaw = (watched : List HostWatch) (taken : List Taken) (waiting : ℕ → List LogRun) (next : Taken) (at : ℕ) →
    AreWaiting watched taken waiting → HaveDistinctHosts watched → at < length watched →
    next.logged.event.host ≡ (watch_at watched at).host →
    AreWaiting watched (taken ++ next ∷ []) (with_host waiting at (with_event (waiting at) next))

-- The first run of a host is dropped where it is over at an event that doesn't know that the first run of another host
-- has begun.
abbrev pub WaitingDropsLaw : Type 0
WaitingDropsLaw = (watched : List HostWatch) (taken : List Taken) (waiting : ℕ → List LogRun) (p q : ℕ)
    (run other : LogRun) (runs others : List LogRun) (over : Logged) →
    AreWaiting watched taken waiting → p < length watched → q < length watched → (p ≡ q → ⊥) →
    waiting p ≡ run ∷ runs → waiting q ≡ other ∷ others → run.over ≡ Some over →
    (HappenedBefore other.begin.event over.event → ⊥) → AreWaiting watched taken (with_host waiting p runs)

-- Where none is dropped any more, those that wait first overlap; where none waits of a host, none do.
abbrev pub WaitingEndsLaw : Type 0
WaitingEndsLaw = (watched : List HostWatch) (taken : List Taken) (waiting : ℕ → List LogRun) → OwnRise watched taken →
    AreWaiting watched taken waiting →
    ((first : ℕ → LogRun) (others : ℕ → List LogRun) →
    ((p : ℕ) → p < length watched → waiting p ≡ first p ∷ others p) →
    ((p q : ℕ) → p < length watched → q < length watched → (p ≡ q → ⊥) →
    IfSome (first q).over (λ over. HappenedBefore (first p).begin.event over.event)) →
    AreOverlappingIn watched taken first)
    × ((p : ℕ) → p < length watched → waiting p ≡ [] → (runs : ℕ → LogRun) → AreOverlappingIn watched taken runs → ⊥)
