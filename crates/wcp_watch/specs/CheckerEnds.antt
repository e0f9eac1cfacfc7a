-- What the loop of a checker leaves.
use Rattle.std.specs.Prelude.{◌≡◌, ◌≢◌, ℕ, ◌<◌, ◌↔◌, Bool, true, false, Option, Some, None, IfNone, IfSome, List, []}
use Rattle.std.specs.Prelude.{◌∷◌, ◌++◌, All, length, map}
use Rattle.std.specs.FinSet as set
use Rattle.std.specs.List.{list_any}
use Rattle.wcp_clock.specs.ProcessNumbers.{NumberSet}
use Rattle.wcp_clock.specs.Notes.{place_of, is_close, is_last, is_lost}
use Rattle.wcp_clock.specs.declared.note.Item.{Item}
use Rattle.wcp_book.specs.Allowed.{may_tell}
use Rattle.wcp_book.specs.State.{answer_of_report}
use Rattle.wcp_book.specs.declared.cut_answer.CutAnswer.{CutAnswer}
use Rattle.wcp_model.specs.ReportByClocks.{ClocksRise, IsReportByClocks}
use Rattle.wcp_model.specs.Report.{IsDrained, notes_taken}
use Rattle.wcp_model.specs.declared.outcome.Report.{Report}
use Rattle.wcp_model.specs.declared.outcome.Report.TheVariants.{Nothing}
use Rattle.wcp_lane.specs.Ends.{TakeEnd}
use Rattle.wcp_lane.specs.declared.fault.Cut.{Cut}
use Rattle.wcp_queue.specs.Checker.{CheckerState, processes, taken_of, closed_of, IsReportOfAnyClocks}
use Rattle.wcp_queue.specs.Checker.{IsReportOfStarved, report_of}
use Rattle.wcp_queue.specs.Panel.{StandForItems, question_at, watched_by}
use Rattle.wcp_relay.specs.Feeding.{IsEnded}
use Rattle.wcp_relay.specs.RelayWork.{IsSameTaker}
use Rattle.wcp_relay.specs.declared.bundle.Bundle.{Bundle}
use Rattle.wcp_relay.specs.declared.checker_inbox.CheckerInbox.{CheckerInbox}
use Rattle.wcp_watch.specs.declared.checker_end.CheckFault.{CheckFault}
use Rattle.wcp_watch.specs.declared.checker_end.CheckFault.TheVariants as fault
use Rattle.wcp_watch.specs.declared.checker_end.CheckerEnd.{CheckerEnd}

-- A panel is of the processes of a lane: each of its questions is, and there is one.
pub record IsOfLane (taker : TakeEnd Bundle Item) (panel : List CheckerState) : Type 0 where
  pub some : 0 < length panel
  pub members : All (λ question. (p : ℕ)
      → (set.contains taker.members p ≡ true) ↔ (p < processes question)) panel

-- A panel keeps up with the taker of a lane of its processes: each question has taken what the taker took.
pub record KeepsUp (taker : TakeEnd Bundle Item) (panel : List CheckerState) : Type 0 where
  pub of_lane : IsOfLane taker panel
  pub stands : StandForItems panel taker.taken

-- A panel is fresh for an inbox where it is of the inbox's processes, neither has taken anything, and no question was
-- starved.
pub record IsFreshFor (inbox : CheckerInbox) (panel : List CheckerState) : Type 0 where
  pub of_lane : IsOfLane inbox.taker panel
  pub none_taken : inbox.taker.taken ≡ []
  pub stands : StandForItems panel []
  pub not_starved : All (λ question. question.starved ≡ false) panel

-- How many processes each question has.
abbrev pub processes_by : List CheckerState → List ℕ
processes_by panel = map processes panel

-- A panel keeps its questions: each is of the same processes, of which the same are watched.
pub record IsSameWatch (old new : List CheckerState) : Type 0 where
  pub processes : processes_by new ≡ processes_by old
  pub watched : watched_by new ≡ watched_by old

-- A book of which these answers are allowed may tell what this checker reports.
abbrev pub MayTellReport : (CutAnswer → Bool) → CheckerState → Type 0
MayTellReport allows checker = may_tell allows (answer_of_report (report_of checker)) ≡ true

-- It may tell what the first question of the same watch reports, whatever that takes of the lane.
abbrev pub MayTellReports : (CutAnswer → Bool) → TakeEnd Bundle Item → List CheckerState → Type 0
MayTellReports allows taker panel = (taken : TakeEnd Bundle Item) (told : List CheckerState) → IsSameTaker taker taken
    → IsSameWatch panel told → KeepsUp taken told → MayTellReport allows (question_at told 0)

-- A checker has taken the close mark of process p, and so many snapshots of it.
pub record HasTakenClose (checker : CheckerState) (p count : ℕ) : Type 0 where
  pub within : p < processes checker
  pub closed : closed_of checker p ≡ true
  pub counted : taken_of checker p ≡ count

-- Each question of a panel took these items, one after another.
abbrev pub TakesItems : List CheckerState → List CheckerState → List Item → Type 0
TakesItems old new given = (items : List Item) → StandForItems old items → StandForItems new (items ++ given)

-- Where the last of these items is a close mark, a checker has taken it.
abbrev pub HasTakenLast : CheckerState → List Item → Type 0
HasTakenLast checker items = (front : List Item) (end : Item) → items ≡ front ++ end ∷ [] → is_close end.note ≡ true
    → HasTakenClose checker end.from (place_of end.note)

-- The mark that process p was lost is among these items.
abbrev pub was_lost : ℕ → List Item → Bool
was_lost p items = list_any is_lost (notes_taken p items)

-- The lowest of n processes that was lost by these items, if one was.
abbrev pub IsLowestLost : ℕ → List Item → Option ℕ → Type 0
IsLowestLost n items (Some p) = (p < n) × (was_lost p items ≡ true) × ((q : ℕ) → q < p → was_lost q items ≡ false)
IsLowestLost n items None = (p : ℕ) → p < n → was_lost p items ≡ false

-- The notes taken of each of n processes end with its close mark or the mark that it was lost.
abbrev pub AreAllEnded : ℕ → List Item → Type 0
AreAllEnded n items = (p : ℕ) → p < n → IsEnded is_last (notes_taken p items)

-- The fault of a loop of which a question was starved, whose lane was cut, or of which a process was lost: the first that
-- applies.
abbrev pub first_fault : Bool → Option Cut → Option ℕ → Option CheckFault
first_fault true cut lost = Some fault.Memory
first_fault false (Some cut) lost = Some (fault.Cut cut)
first_fault false None (Some p) = Some (fault.Lost p)
first_fault false None None = None

-- What the loop of a checker leaves whose questions have these watched processes: its receipt is of the inbox's lane and
-- was matched with no putter yet; unless the lane was cut each process has ended, and all is drained unless one was
-- lost. Each question has taken all that was taken.
pub record IsEndOfLoop (inbox : CheckerInbox) (questions : List NumberSet) (end : CheckerEnd) : Type 0 where
  pub watch : end.watch ≡ inbox.watch
  pub relays : end.relays ≡ inbox.relays
  pub lane : end.receipt.lane ≡ inbox.taker.lane
  pub members : end.receipt.members ≡ inbox.taker.members
  pub processes : (p : ℕ) → (set.contains end.receipt.members p ≡ true) ↔ (p < end.processes)
  pub same_watched : watched_by end.panel ≡ questions
  pub unmatched : end.receipt.matched ≡ set.empty
  pub ended : IfNone end.cut (AreAllEnded end.processes end.receipt.taken)
  pub lost : IsLowestLost end.processes end.receipt.taken end.lost
  pub drained : IfNone end.cut (IfNone end.lost (IsDrained end.processes end.receipt.taken))
  pub some : 0 < length end.panel
  pub of_processes : All (λ question. question.count ≡ end.processes) end.panel
  pub stands : StandForItems end.panel end.receipt.taken
  pub starved : Bool
  pub fed : (starved ≡ false) ↔ All (λ question. question.starved ≡ false) end.panel
  pub fault : end.fault ≡ first_fault starved end.cut end.lost

-- What the end of a loop has of a question, and what it tells it.
abbrev pub watched_at : CheckerEnd → ℕ → NumberSet
watched_at end question = (question_at end.panel question).watched

abbrev pub report_at : CheckerEnd → ℕ → Report
report_at end question = report_of (question_at end.panel question)

-- The end of a loop tells this of a question: the report of all that was taken, for the question's own watched
-- processes, and never nothing where a process was lost; where the question was starved it is a cut found among these
-- snapshots, or undecided.
pub record IsReportTold (end : CheckerEnd) (question : ℕ) (report : Report) : Type 0 where
  pub within : question < length end.panel
  pub is : report ≡ report_at end question
  pub never_none : IfSome end.lost (λ p. report ≢ Nothing)
  pub any_clocks : (question_at end.panel question).starved ≡ false
      → IsReportOfAnyClocks end.processes (watched_at end question) end.receipt.taken report
  pub exact : (question_at end.panel question).starved ≡ false → ClocksRise end.processes end.receipt.taken
      → IsReportByClocks end.processes (watched_at end question) end.receipt.taken report
  pub of_starved : (question_at end.panel question).starved ≡ true
      → IsReportOfStarved end.processes (watched_at end question) end.receipt.taken report
