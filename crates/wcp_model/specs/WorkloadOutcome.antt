use Rattle.std.specs.Prelude.{◌≡◌, ℕ, List, length, slice_get, Some}
use Rattle.wcp_model.specs.declared.flag.Flag.{Flag}
use Rattle.wcp_model.specs.declared.outcome.Tally.{Tally}
use Rattle.wcp_model.specs.declared.outcome.Outcome.{Outcome}
use Rattle.wcp_model.specs.declared.workload.Task.{Task}
use Rattle.wcp_clock.specs.ProcessNumbers.{NumberSet}
use Rattle.wcp_model.specs.Computation.{Computation}
use Rattle.wcp_model.specs.Emission.{AreEmittedStates}
use Rattle.wcp_model.specs.WorkloadComputation.{IsFitOrder, computation_of}
use Rattle.wcp_model.specs.Outcome.{IsReportOf}

-- The tally of a process whose snapshots were all emitted and taken: the number of the states that it emits, twice.
pub record TalliesEmittedStates (watched : NumberSet) (flag : Flag) (c : Computation) (p : ℕ) (tally : Tally)
    : Type 0 where
  pub intervals : List ℕ
  pub states : AreEmittedStates watched flag c p intervals
  pub emitted : tally.emitted ≡ length intervals
  pub taken : tally.taken ≡ length intervals

-- The outcome of a computation of n processes with everything emitted and taken.
pub record IsOutcomeOf (n : ℕ) (watched : NumberSet) (flag : Flag) (c : Computation) (outcome : Outcome)
    : Type 0 where
  pub report : IsReportOf n watched c outcome.report
  pub processes : length outcome.tallies ≡ n
  pub tallies : (p : ℕ) (tally : Tally) → slice_get outcome.tallies p ≡ Some tally →
      TalliesEmittedStates watched flag c p tally

-- The outcome of a workload: that of the computation of any fit order.
abbrev pub IsWorkloadOutcome : ℕ → NumberSet → Flag → List Task → Outcome → Type 0
IsWorkloadOutcome n watched flag tasks outcome =
    (order : List Task) → IsFitOrder tasks order → IsOutcomeOf n watched flag (computation_of n order) outcome
