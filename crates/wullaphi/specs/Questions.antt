-- The questions that a watch asks, and what is told of each.
use Rattle.std.specs.Prelude.{◌≡◌, ℕ, ◌<◌, true, List, Some, length, slice_get}
use Rattle.std.specs.FinSet as set
use Rattle.wcp_clock.specs.ProcessNumbers.{NumberSet}
use Rattle.wcp_model.specs.declared.outcome.Report.{Report}
use Rattle.wcp_model.specs.declared.plan.Plan.{Plan}
use Rattle.wcp_watch.specs.CheckerEnds.{IsReportTold}
use Rattle.wcp_watch.specs.declared.checker_end.CheckerEnd.{CheckerEnd}

-- A question can be asked of a plan where it watches somebody, and nobody whom the plan doesn't watch.
pub record CanBeAsked (plan : Plan) (watched : NumberSet) : Type 0 where
  pub some : (p : ℕ) × (set.contains watched p ≡ true)
  pub within : (p : ℕ) → set.contains watched p ≡ true → set.contains plan.watched p ≡ true

-- This is the first of these questions that can't be asked of the plan.
pub record IsFirstRefused (plan : Plan) (questions : List NumberSet) (question : ℕ) : Type 0 where
  pub watched : NumberSet
  pub is_question : slice_get questions question ≡ Some watched
  pub refused : ¬ CanBeAsked plan watched
  pub before : (earlier : ℕ) (other : NumberSet) → earlier < question → slice_get questions earlier ≡ Some other
      → CanBeAsked plan other

-- These are what the end of a checker's loop tells of its questions, in their order.
pub record AreReportsTold (end : CheckerEnd) (reports : List Report) : Type 0 where
  pub as_many : length reports ≡ length end.panel
  pub each : (question : ℕ) (report : Report) → slice_get reports question ≡ Some report
      → IsReportTold end question report
