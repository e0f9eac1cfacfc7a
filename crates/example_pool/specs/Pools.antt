-- What a run of a pool tells.
use Rattle.std.specs.Prelude.{◌≡◌, ◌+◌, ◌*◌, ◌≤◌, ℕ, zero, suc, true, Some, IsSomeAnd, List, [], ◌∷◌, ◌++◌, length}
use Rattle.std.specs.Prelude.{slice_get}
use Rattle.std.specs.List.{sum_by}
use Rattle.wcp_clock.specs.declared.note.Item.{Item}
use Rattle.wcp_clock.specs.ProcessNumbers.{NumberSet}
use Rattle.wcp_model.specs.ProbeLog.{Call, Closed, state_of_log}
use Rattle.wcp_model.specs.Watched.{AreAllWatched}
use Rattle.wcp_model.specs.declared.flag.Flag.TheVariants as reset_at
use Rattle.wcp_model.specs.declared.probe_setup.ProbeSetup.{ProbeSetup}
use Rattle.wcp_model.specs.Report.{IsDrained, notes_taken}
use Rattle.wcp_model.specs.ReportByClocks.{IsReportByClocks}
use Rattle.wcp_relay.specs.LiveProbe.{snapshots_in}
use Rattle.example_pool.specs.declared.dispatcher.Pace.{Pace}
use Rattle.example_pool.specs.declared.pool.PoolReport.{PoolReport}
use Rattle.example_pool.specs.Logs.{IsReplicaLog, IsDispatcherLog, most_unanswered}

-- What the probe of process p of n is made with: each process of a pool is watched, and each event resets its flag.
abbrev pub pool_setup : ℕ → ℕ → ProbeSetup
pool_setup n p = record { processes = n; process = p; watched = true; flag = reset_at.Event }

-- What was taken of process p of n is all that its probe emits where it makes these calls and then closes.
abbrev pub IsLogTaken : ℕ → List Item → ℕ → List Call → Type 0
IsLogTaken n items p log = notes_taken p items ≡ (state_of_log (pool_setup n p) (log ++ Closed ∷ [])).notes

-- The jobs of process p, in a pool of so many replicas and rounds: the dispatcher gives them all out, and each replica
-- does one in each round.
abbrev pub jobs_at : ℕ → ℕ → ℕ → ℕ
jobs_at replicas rounds zero = rounds * replicas
jobs_at replicas rounds (suc p) = rounds

-- The log of process p there: of the dispatcher, of this pace, once no job is unanswered, or of a replica.
abbrev pub IsLogAt : ℕ → ℕ → Pace → ℕ → List Call → Type 0
IsLogAt replicas rounds pace zero =
    IsDispatcherLog (replicas + 1) (most_unanswered pace replicas) (rounds * replicas) 0
IsLogAt replicas rounds pace (suc p) = IsReplicaLog (replicas + 1) rounds

-- How many snapshots process p emitted, if these were taken of all: a replica one for each of its jobs.
abbrev pub snapshots_at : ℕ → List Item → ℕ → ℕ
snapshots_at rounds items zero = snapshots_in (notes_taken 0 items)
snapshots_at rounds items (suc p) = rounds

-- What is told of process p: what was taken of it is what the probe of such a log emits; it counted its jobs, and its
-- snapshots were emitted and taken.
pub record IsToldAt (replicas rounds : ℕ) (pace : Pace) (told : PoolReport) (items : List Item) (p : ℕ) : Type 0 where
  pub log : List Call
  pub is_log : IsLogAt replicas rounds pace p log
  pub taken : IsLogTaken (replicas + 1) items p log
  pub jobs : IsSomeAnd (slice_get told.shares.items p) (λ share. share.jobs ≡ jobs_at replicas rounds p)
  pub tally : slice_get told.outcome.tallies p ≡ Some (record {
    emitted = snapshots_at rounds items p;
    taken = snapshots_at rounds items p;
  })

-- What a run of a pool of so many replicas and rounds tells is about what was taken, which is all that the probes of
-- its processes emitted, by their logs: the report is the exact one of this, by clocks, and the book has its sums.
pub record IsPoolReport (replicas rounds : ℕ) (pace : Pace) (told : PoolReport) : Type 0 where
  pub items : List Item
  pub each : (p : ℕ) → p ≤ replicas → IsToldAt replicas rounds pace told items p
  pub shares : length told.shares.items ≡ replicas + 1
  pub tallies : length told.outcome.tallies ≡ replicas + 1
  pub drained : IsDrained (replicas + 1) items
  pub watched : NumberSet
  pub all_watched : AreAllWatched (replicas + 1) watched
  pub exact : IsReportByClocks (replicas + 1) watched items told.outcome.report
  pub emitted : told.totals.emitted ≡ sum_by (λ tally. tally.emitted) told.outcome.tallies
  pub taken : told.totals.taken ≡ sum_by (λ tally. tally.taken) told.outcome.tallies
