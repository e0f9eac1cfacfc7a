use Rattle.wcp_model.proofs.Words.{NumberSet, Flag, ◌≡◌, ℕ, ◌<◌, List, [], ◌∷◌, ◌++◌, length, All, slice_get, Some, sym}
use Rattle.wcp_model.proofs.Words.{◌∙◌, subst, append-nil, arith, slice_get_within, Item, Task, Computation}
use Rattle.wcp_model.proofs.Words.{AreEmissions, IsOutcomeOf, IsWorkloadOutcome, Call, Closed, setup, state_of_log}
use Rattle.wcp_model.proofs.Words.{notes_taken, clocks_taken, IsDrained, IsReportByClocks, ClocksRise}
use Rattle.wcp_model.proofs.Words.{ArePrefixesOfEmissions, AreLogsOfTasks, computation_of, IsWithin}
use Rattle.wcp_model.specs.declared.outcome.Outcome.{Outcome}
use Rattle.wcp_model.specs.declared.outcome.Tally.{Tally}
use Rattle.wcp_model.proofs.AcceptedOrder.{order_accepted}
use Rattle.wcp_model.proofs.LogsOfTasks.{task_log_law_holds}
use Rattle.wcp_model.proofs.RisingClocks.{clocks_rise}
use Rattle.wcp_model.proofs.RunningLog.{log_law_holds}
use Rattle.wcp_model.proofs.TakenPrefixes.{all_states_taken, report_when_drained}
use Rattle.wcp_model.proofs.TaskLogs.{log_push}

-- the outcome of these items: their exact report by clocks, where they need only rise, and tallies that count them
pub record IsOutcomeOfItems (n : ℕ) (watched : NumberSet) (items : List Item) (outcome : Outcome) : Type 0 where
  pub exact : ClocksRise n items → IsReportByClocks n watched items outcome.report
  pub processes : length outcome.tallies ≡ n
  pub emitted : (p : ℕ) (tally : Tally) → slice_get outcome.tallies p ≡ Some tally
      → tally.emitted ≡ length (clocks_taken p items)
  pub taken : (p : ℕ) (tally : Tally) → slice_get outcome.tallies p ≡ Some tally
      → tally.taken ≡ length (clocks_taken p items)

-- where the items are all emissions of a computation, it is the outcome of that
module _ (n : ℕ) (watched : NumberSet) (flag : Flag) (c : Computation) (items : List Item) (emissions : (p : ℕ) → p < n
    → AreEmissions n watched flag c p (notes_taken p items)) (drained : IsDrained n items) where
  fronts : ArePrefixesOfEmissions n watched flag c items
  fronts p below =
      ([], subst (AreEmissions n watched flag c p) (sym (append-nil (notes_taken p items))) (emissions p below))

  IsOutcomeOf-taken : (outcome : Outcome) → IsOutcomeOfItems n watched items outcome
      → IsOutcomeOf n watched flag c outcome
  IsOutcomeOf-taken outcome is = record {
    report = report_when_drained n watched flag c items fronts drained outcome.report
        (is.exact (clocks_rise n watched flag c items fronts));
    processes = is.processes;
    tallies = λ p tally at.
        let below : p < n = omega (arith, slice_get_within outcome.tallies p tally at, is.processes) in
        let all = all_states_taken n watched flag c items fronts drained p below in
        record {
          intervals = (fronts p below).1.intervals;
          states = (fronts p below).1.states;
          emitted = is.emitted p tally at ∙ sym all;
          taken = is.taken p tally at ∙ sym all;
        };
  }

-- what was taken of each process is what it emits by its log of these tasks, with its close
abbrev pub AreItemsOfLogs : ℕ → NumberSet → Flag → (ℕ → List Call) → List Item → Type 0
AreItemsOfLogs n watched flag logs items = (p : ℕ) → p < n
    → notes_taken p items ≡ (state_of_log (setup n watched flag p) (logs p ++ Closed ∷ [])).notes

-- and their outcome is that of the workload
pub IsWorkloadOutcome-taken : (n : ℕ) (watched : NumberSet) (flag : Flag) (tasks : List Task) (logs : ℕ → List Call)
    (items : List Item) (outcome : Outcome) → All (IsWithin n) tasks → AreLogsOfTasks n watched flag tasks logs
    → AreItemsOfLogs n watched flag logs items → IsOutcomeOfItems n watched items outcome
    → IsWorkloadOutcome n watched flag tasks outcome
IsWorkloadOutcome-taken n watched flag tasks logs items outcome within are taken is order fit =
    IsOutcomeOf-taken n watched flag (computation_of n order) items
    (grind (arith, log_law_holds, order_accepted, task_log_law_holds))
    (λ p below.
    grind (arith, log_push (setup n watched flag p) (logs p) Closed))
    outcome is
