-- What the end of a checker's loop tells of a question.
use Rattle.wcp_watch.proofs.Words.{◌≡◌, ◌≢◌, ◌↔◌, ℕ, ◌<◌, true, false, List, [], length, length-map, subst, sym, ap, ◌∙◌}
use Rattle.wcp_watch.proofs.Words.{arith, All, Some, get_or, get_or-map, slice_get, slice_get_within, Item, ClocksRise}
use Rattle.std.specs.Prelude.{IsNone}
use Rattle.wcp_watch.proofs.Words.{Option, None, ◌≤◌, ⊎_elim, cases_lt}
use Rattle.wcp_watch.proofs.Words.{get_or_from_slice_get, CheckerState, IsFreshFor, StandForItems}
use Rattle.wcp_watch.proofs.Words.{processes, lost_of, StandsForItems, NumberSet, CheckerEnd, IsEndOfLoop, IsLowestLost}
use Rattle.wcp_watch.proofs.Words.{IsReportTold, no_question, question_at}
use Rattle.std.specs.FinSet as set
use Rattle.wcp_queue.specs.Panel.{watched_by}
use Rattle.wcp_model.specs.ReportByClocks.{IsReportByClocks}
use Rattle.wcp_model.specs.declared.outcome.Report.{Report}
use Rattle.wcp_model.specs.declared.outcome.Report.TheVariants.{Nothing}
use Rattle.wcp_queue.specs.Checker.{IsReportOfAnyClocks, IsReportOfStarved, report_of}
use Rattle.wcp_relay.specs.declared.checker_inbox.CheckerInbox.{CheckerInbox}
use Rattle.wcp_watch.proofs.CheckedItems.{never_none}

-- what a checker says of its report, whatever it took
pub record Tells (checker : CheckerState) (report : Report) : Type 0 where
  pub value : report ≡ report_of checker
  pub any_clocks : checker.starved ≡ false → (items : List Item) → StandsForItems checker items
      → IsReportOfAnyClocks (processes checker) checker.watched items report
  pub exact : checker.starved ≡ false → (items : List Item) → StandsForItems checker items
      → ClocksRise (processes checker) items
      → IsReportByClocks (processes checker) checker.watched items report
  pub starved : checker.starved ≡ true → (items : List Item) → StandsForItems checker items
      → IsReportOfStarved (processes checker) checker.watched items report
  pub lost : (p : ℕ) → p < processes checker → lost_of checker p ≡ true → report ≢ Nothing

-- says it of all that was taken
pub told_at : {inbox : CheckerInbox} {questions : List NumberSet} (end : CheckerEnd) (question : ℕ) (report : Report)
    → IsEndOfLoop inbox questions end → question < length end.panel
    → Tells (question_at end.panel question) report
    → IsReportTold end question report
told_at end question report of within tells =
    let checker = question_at end.panel question in
    let taken = end.receipt.taken in
    let stands : StandsForItems checker taken = of.stands question no_question within in
    let count : processes checker ≡ end.processes = of.of_processes question no_question within in
    record {
      within = within;
      is = tells.value;
      never_none = never_none checker taken end.lost report stands
          (subst (λ n. IsLowestLost n taken end.lost) (sym count) of.lost) tells.lost;
      any_clocks = λ fed. subst (λ n. IsReportOfAnyClocks n checker.watched taken report) count
          (tells.any_clocks fed taken stands);
      exact = λ fed rise. subst (λ n. IsReportByClocks n checker.watched taken report) count
          (tells.exact fed taken stands (subst (λ n. ClocksRise n taken) (sym count) rise));
      of_starved = λ starved. subst (λ n. IsReportOfStarved n checker.watched taken report) count
          (tells.starved starved taken stands);
    }

-- the sets of watched processes stand at the places of their questions
pub watched_of : {questions : List NumberSet} {watched : NumberSet} (panel : List CheckerState)
    → watched_by panel ≡ questions → (question : ℕ) → slice_get questions question ≡ Some watched
    → (question_at panel question).watched ≡ watched
watched_of {questions} {watched} panel are question at =
    let of : CheckerState → NumberSet = λ checker. checker.watched in
    let within : question < length panel =
    omega (arith, slice_get_within questions question watched at, ap length are, length-map panel of) in
    sym (get_or-map of panel question no_question watched within) ∙ ap (λ sets. get_or sets question watched) are
    ∙ get_or_from_slice_get questions question watched watched at

-- a panel that was made for the processes of an inbox is fresh for it
pub fresh_for : {inbox : CheckerInbox} {n : ℕ} {panel : List CheckerState} {questions : List NumberSet}
    → ((p : ℕ) → (set.contains inbox.taker.members p ≡ true) ↔ (p < n)) → inbox.taker.taken ≡ []
    → watched_by panel ≡ questions → 0 < length questions → All (λ question. processes question ≡ n) panel
    → StandForItems panel [] → All (λ question. question.starved ≡ false) panel → IsFreshFor inbox panel
fresh_for {panel = panel} members none watched some processes_are stands fed = record {
  of_lane = record {
    some = omega (arith, some, ap length watched, length-map panel (λ (checker : CheckerState). checker.watched));
    members = λ k d within p. rw (processes_are k d within) (members p);
  };
  none_taken = none;
  stands = stands;
  not_starved = fed;
}

-- some is not none
some_is : {X : Type 0} (x : X) → IsNone (Some x) → ⊥
some_is x none = cc

-- there is a question of a number that isn't past them all
pub is_within : {X : Type 0} (found : Option X) (x : X) (question count : ℕ) → found ≡ Some x
    → IsNone found ↔ (count ≤ question) → question < count
is_within None x question count is none = absurd (cc)
is_within (Some y) x question count is none =
    ⊎_elim (λ (below : question < count). below) (λ (past : count ≤ question). absurd (some_is y (none.1 past)))
    (cases_lt question count)
