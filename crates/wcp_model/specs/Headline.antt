use Rattle.std.specs.Prelude.{◌≡◌, ℕ, ◌<◌, List, [], ◌∷◌, ◌++◌, take}
use Rattle.wcp_clock.specs.declared.note.Note.{Note}
use Rattle.wcp_clock.specs.declared.note.Note.TheVariants as note
use Rattle.wcp_model.specs.declared.outcome.Report.{Report}
use Rattle.wcp_model.specs.declared.outcome.Report.TheVariants.{Found}
use Rattle.wcp_model.specs.declared.plan.Plan.{Plan}
use Rattle.wcp_model.specs.Cut.{Intervals, IsLeastCut}
use Rattle.wcp_model.specs.Outcome.{IsReportOf}
use Rattle.wcp_model.specs.Report.{notes_taken, ArePrefixesOfEmissions, IsDrained, IsReportOfTaken}
use Rattle.wcp_model.specs.Replies.{Answered, accepted, items_taken, computation, AreReplies}

-- For every relay tree and every list of probe, relay, checker and close steps, what the checker has taken of each
-- process is a prefix of what that process emitted, each once, in order, none after its close; when all is drained,
-- the report is the least consistent cut of the whole computation at which every conjunct holds, and none only if no
-- such cut exists.
--
--   every relay tree           a plan that passed its check (IsCheckedPlan): the premise of each call with this promise
--   every list of steps        any steps in any order, refused ones included: a history, each step with its reply
--   every conjunct holds       the state of each watched process is true; another has no condition (IsSatisfyingCut)
--   each step, answered        the reply that the definitions give from the steps and replies before it (AreReplies)
--   what the checker has taken the notes of the items in its replies, in order (items_taken, notes_taken)
--   what a process emitted     the snapshots of its emitted states with their clocks, and its close mark (AreEmissions)
--   a prefix, once, in order   what was taken, followed by some list, is what was emitted (ArePrefixesOfEmissions)
--   none after its close       behind a close mark nothing was taken
--   drained                    what was taken of each process ends with its close mark (IsDrained)
--   the report                 that on the states which the snapshots taken name (IsReportOfTaken)
--   least consistent cut ..    the least satisfying cut of the accepted events, or that there is none (IsReportOf)
pub record IsHeadline (plan : Plan) (history : List Answered) (report : Report) : Type 0 where
  pub replies : AreReplies plan history
  pub taken_is_prefix : (place : ℕ) →
      ArePrefixesOfEmissions plan.n plan.watched plan.flag (computation (accepted (take place history)))
      (items_taken (take place history))
  pub none_after_close : (p count : ℕ) (before after : List Note) → p < plan.n →
      notes_taken p (items_taken history) ≡ before ++ note.Close count ∷ after → after ≡ []
  pub of_what_was_taken : IsReportOfTaken plan.n plan.watched (computation (accepted history))
      (items_taken history) report
  pub when_drained : IsDrained plan.n (items_taken history) →
      IsReportOf plan.n plan.watched (computation (accepted history)) report
  pub found_early : (cut : Intervals) (more : List Answered) → report ≡ Found cut →
      IsLeastCut plan.n plan.watched (computation (accepted (history ++ more))) cut
