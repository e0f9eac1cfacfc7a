use Rattle.std.proofs.Common.{arith}
use Rattle.wcp_queue.proofs.FoundCuts.{IsDrained-marks, marks-not_all, IsCutByClocks-report, IsLeastOf-report}
use Rattle.wcp_queue.proofs.FoundCuts.{no_cut-report}
use Rattle.wcp_queue.proofs.checker.Checker.report.Goals as goal

pub returns-in-Some-clause-any_clocks : goal.returns-in-Some-clause-any_clocks
returns-in-Some-clause-any_clocks c = rw (← c.self.view_is, c.cut_of.ensures)
    (λ fed items stands. IsCutByClocks-report _ c.self.invariant items stands c.in-Some.intervals c.in-Some.is)

pub returns-in-Some-clause-exact : goal.returns-in-Some-clause-exact
returns-in-Some-clause-exact c = rw (← c.self.view_is, c.cut_of.ensures)
    (λ fed items stands order. IsLeastOf-report _ c.self.invariant items stands c.in-Some.intervals c.in-Some.is order)

pub returns-in-Some-clause-starved : goal.returns-in-Some-clause-starved
returns-in-Some-clause-starved c = rw (← c.self.view_is, c.cut_of.ensures) (λ starved items stands. (
  IsCutByClocks-report _ c.self.invariant items stands c.in-Some.intervals c.in-Some.is,
  IsLeastOf-report _ c.self.invariant items stands c.in-Some.intervals c.in-Some.is,
))

pub returns-then-are_all_closed-clause-any_clocks : goal.returns-then-are_all_closed-clause-any_clocks
returns-then-are_all_closed-clause-any_clocks c =
    rw (← c.self.view_is) (λ fed items stands. IsDrained-marks _ c.self.invariant items stands (grind arith))

pub returns-then-are_all_closed-clause-exact : goal.returns-then-are_all_closed-clause-exact
returns-then-are_all_closed-clause-exact c = rw (← c.self.view_is) (λ fed items stands order. (
  no_cut-report _ c.self.invariant items stands c.in_default.is fed order,
  IsDrained-marks _ c.self.invariant items stands (grind arith),
))

pub returns-else-are_all_closed-clause-any_clocks : goal.returns-else-are_all_closed-clause-any_clocks
returns-else-are_all_closed-clause-any_clocks c =
    rw (← c.self.view_is) (λ fed items stands. marks-not_all _ c.self.invariant items stands (grind arith))

pub returns-else-are_all_closed-clause-exact : goal.returns-else-are_all_closed-clause-exact
returns-else-are_all_closed-clause-exact c = rw (← c.self.view_is) (λ fed items stands order. (
  no_cut-report _ c.self.invariant items stands c.in_default.is fed order,
  marks-not_all _ c.self.invariant items stands (grind arith),
))
