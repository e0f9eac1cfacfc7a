-- What a watch of processes tells.
use Rattle.std.specs.Prelude.{◌≡◌, ◌≢◌, ◌↔◌, ℕ, ◌<◌, Bool, false, true, All, Err, IfErr, IfOk, List, Result, Some, length}
use Rattle.std.specs.Prelude.{slice_get, slice_index_or}
use Rattle.std.specs.FinSet as set
use Rattle.std.specs.List.{sum_by}
use Rattle.wcp_clock.specs.ProcessNumbers.{NumberSet}
use Rattle.wcp_clock.specs.declared.note.Item.{Item}
use Rattle.wcp_clock.specs.declared.note.Note.{Note}
use Rattle.wcp_model.specs.PlanFault.{IsCheckedPlan}
use Rattle.wcp_model.specs.ProbeLog.{setup}
use Rattle.wcp_model.specs.ReportByClocks.{ClocksRise, IsReportByClocks}
use Rattle.wcp_model.specs.Report.{IsDrained, notes_taken}
use Rattle.wcp_model.specs.declared.plan.Plan.{Plan}
use Rattle.wcp_model.specs.declared.outcome.Report.{Report}
use Rattle.wcp_model.specs.declared.outcome.Report.TheVariants.{Nothing}
use Rattle.wcp_model.specs.declared.outcome.Tally.{Tally}
use Rattle.wcp_model.specs.declared.probe_setup.ProbeSetup.{ProbeSetup}
use Rattle.wcp_queue.specs.Checker.{IsReportOfAnyClocks}
use Rattle.wcp_relay.specs.LiveProbe.{LiveSide, snapshots_in}
use Rattle.wcp_watch.specs.CheckerEnds.{AreAllEnded, IsLowestLost}
use Rattle.wullaphi.specs.Lent.{HasLeft, HasRun}
use Rattle.wullaphi.specs.Refused.{IfLost, IsRefusalOf}
use Rattle.wullaphi.specs.declared.refused_plan.RefusedPlan.{RefusedPlan}
use Rattle.wullaphi.specs.declared.watch_fault.WatchFault.{WatchFault}
use Rattle.wullaphi.specs.declared.watch_fault.WatchFault.TheVariants as fault
use Rattle.wullaphi.specs.declared.watch_outcome.WatchOutcome.{WatchOutcome}

-- The tally of a process all of whose notes were taken: the number of its snapshots, twice.
abbrev pub tally_of : List Note → Tally
tally_of notes = record { emitted = snapshots_in notes; taken = snapshots_in notes }

-- The watched processes of the first question.
abbrev pub first_of : List NumberSet → NumberSet
first_of questions = slice_index_or questions 0 set.empty

-- A watch of this number and plan, which asked these questions of these processes, tells this: each has run with its
-- probe, of this watch, and gave the answer at its place; what the checker took of it are all notes of its probe, each
-- once and in order; the report of each question is the exact one of all that was taken, for the question's own
-- watched processes, and that of the first is the outcome's; and the totals are the sums of the tallies.
pub record IsWatchOutcome {P A : Type 0} (Leaves : P → LiveSide → A → Type 0) (number : ℕ) (plan : Plan)
    (questions : List NumberSet) (processes : List P) (told : WatchOutcome A) : Type 0 where
  pub taken : List Item
  pub processes_are : length processes ≡ plan.n
  pub answers : length told.answers.items ≡ plan.n
  pub ran : (p : ℕ) (process : P) (answer : A)
      → slice_get processes p ≡ Some process → slice_get told.answers.items p ≡ Some answer
      → HasRun Leaves number (setup plan.n plan.watched plan.flag p) process answer (notes_taken p taken)
  pub drained : IsDrained plan.n taken
  pub all_reports : length told.reports.items ≡ length questions
  pub exact : (question : ℕ) (watched : NumberSet) (report : Report) → slice_get questions question ≡ Some watched
      → slice_get told.reports.items question ≡ Some report → IsReportByClocks plan.n watched taken report
  pub first : slice_get told.reports.items 0 ≡ Some told.outcome.report
  pub all_tallies : length told.outcome.tallies ≡ plan.n
  pub tallies : (p : ℕ) → p < plan.n → slice_get told.outcome.tallies p ≡ Some (tally_of (notes_taken p taken))
  pub emitted_in_all : told.totals.emitted ≡ sum_by (λ tally. tally.emitted) told.outcome.tallies
  pub taken_in_all : told.totals.taken ≡ sum_by (λ tally. tally.taken) told.outcome.tallies

-- A process has run in this watch, and answered something by which its part is done, or isn't.
pub record HasAnswered {P A : Type 0} (Leaves : P → LiveSide → A → Type 0) (done : A → Bool) (watch : ℕ)
    (made : ProbeSetup) (process : P) (is_done : Bool) : Type 0 where
  pub answer : A
  pub left : HasLeft Leaves watch made process answer
  pub done_is : done answer ≡ is_done

-- Process p is the lowest of these processes that was lost in the watch of this number: by its answer its part isn't
-- done, and that of each process before it is. There are the items that the checker took, of each process up to its
-- close mark or the mark that it was lost: p is the lowest that was lost by these too, and the report is that of these,
-- but not that there is no cut, for the watched processes of the first question.
pub record IsLost {P A : Type 0} (Leaves : P → LiveSide → A → Type 0) (done : A → Bool) (number : ℕ) (plan : Plan)
    (questions : List NumberSet) (processes : List P) (p : ℕ) (report : Report) : Type 0 where
  pub process : P
  pub is_process : slice_get processes p ≡ Some process
  pub lost : HasAnswered Leaves done number (setup plan.n plan.watched plan.flag p) process false
  pub before : (q : ℕ) (other : P) → q < p → slice_get processes q ≡ Some other
      → HasAnswered Leaves done number (setup plan.n plan.watched plan.flag q) other true
  pub taken : List Item
  pub ended : AreAllEnded plan.n taken
  pub lowest : IsLowestLost plan.n taken (Some p)
  pub any_clocks : IsReportOfAnyClocks plan.n (first_of questions) taken report
  pub exact : ClocksRise plan.n taken → IsReportByClocks plan.n (first_of questions) taken report
  pub some_report : report ≢ Nothing

-- What a watch of these processes that asks these questions answers: what it tells, where all are done; that its plan is
-- refused, exactly where it has that fault; that they are as many as the plan says, or not; or that one was lost.
pub record AnswersWatch {P A : Type 0} (Leaves : P → LiveSide → A → Type 0) (done : A → Bool) (number : ℕ) (plan : Plan)
    (questions : List NumberSet) (processes : List P) (answer : Result (WatchOutcome A) WatchFault) : Type 0 where
  pub watched : IfOk answer (IsWatchOutcome Leaves number plan questions processes)
  pub refused : (refused : RefusedPlan) → (answer ≡ Err (fault.Plan refused)) ↔ IsRefusalOf plan refused
  pub count : (answer ≡ Err fault.Count) ↔ (IsCheckedPlan plan × (length processes ≢ plan.n))
  pub all_done : IfOk answer (λ told. All (λ one. done one ≡ true) told.answers.items)
  pub lost : IfErr answer (λ fault. IfLost fault (IsLost Leaves done number plan questions processes))
