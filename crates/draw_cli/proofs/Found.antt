-- What the outcome of a workload gives a picture.
use Rattle.std.proofs.Common.{◌≡◌, ℕ, ◌≤◌, List, length, MatchOption, arith, All}
use Rattle.wcp_clock.specs.Limits.{most_steps}
use Rattle.wcp_clock.specs.ProcessNumbers.{NumberSet}
use Rattle.wcp_model.proofs.AcceptedOrder.{IsFitOrder-itself, All-fit_order}
use Rattle.wcp_model.specs.declared.outcome.Report.{Report}
use Rattle.wcp_model.specs.declared.outcome.Report.TheVariants.{Found, Nothing, Undecided}
use Rattle.wcp_model.specs.declared.workload.Task.{Task}
use Rattle.wcp_model.specs.Outcome.{IsReportOf}
use Rattle.wcp_model.specs.WorkloadComputation.{CouldBeRead, IsFitOrder, IsWithin, computation_of}
use Rattle.wcp_order.proofs.Lengths.{same_length}
use Rattle.draw_layout.specs.Halves.{MaySplit}
use Rattle.wcp_model.specs.Verdict.{cut_of}

-- a cut that was found splits an order
pub may_split : (n : ℕ) (watched : NumberSet) (order : List Task) (report : Report)
    → IsReportOf n watched (computation_of n order) report → MaySplit n order (cut_of report)
may_split n watched order (Found cut) is = (watched, is.one)
may_split n watched order Nothing is = tt
may_split n watched order Undecided is = tt

-- it has an entry for each process
pub has_members : (n : ℕ) (watched : NumberSet) (order : List Task) (report : Report)
    → IsReportOf n watched (computation_of n order) report
    → MatchOption (cut_of report) (Unit {0}) (λ cut. length cut ≡ n)
has_members n watched order (Found cut) is = is.one.members.processes
has_members n watched order Nothing is = tt
has_members n watched order Undecided is = tt

module _ (n : ℕ) (tasks order : List Task) (read : CouldBeRead n tasks) (fit : IsFitOrder tasks order) where
  pub order_within : All (IsWithin n) order
  order_within = All-fit_order (IsWithin n) tasks order fit read.within

  pub order_fit : IsFitOrder order order
  order_fit = IsFitOrder-itself tasks order fit

  pub order_few : length order ≤ most_steps
  order_few = omega (arith, same_length n tasks order read.within order_within fit.same_tasks, read.few_tasks)
