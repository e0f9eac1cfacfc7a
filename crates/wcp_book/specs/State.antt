use Rattle.std.specs.Prelude.{Bool, Option, Some, None, List}
use Rattle.wcp_model.specs.Cut.{Intervals}
use Rattle.wcp_model.specs.declared.outcome.Report.{Report}
use Rattle.wcp_model.specs.declared.outcome.Report.TheVariants as report
use Rattle.wcp_model.specs.declared.outcome.Tally.{Tally}
use Rattle.wcp_book.specs.declared.cut_answer.CutAnswer.{CutAnswer}
use Rattle.wcp_book.specs.declared.cut_answer.CutAnswer.TheVariants as answer
use Rattle.wcp_book.specs.declared.news.News.{News}
use Rattle.wcp_book.specs.declared.news.News.TheVariants.{Told, Awaited}

-- What a book tells: the shares that were posted, one place for each process, the cut that was found, once it was told,
-- what its watch came to, once it has ended, after which nothing more is told, and whether a watch has it that runs.
pub record BookState : Type 0 where
  pub shares : List (Option Tally)
  pub found : Option Intervals
  pub ended : Option CutAnswer
  pub in_use : Bool

-- What one who waits for the cut is told of a watch that has run to its end with this report.
abbrev pub answer_of_report : Report → CutAnswer
answer_of_report (report.Found cut) = answer.Found cut
answer_of_report report.Nothing = answer.Nothing
answer_of_report report.Undecided = answer.Undecided

-- What one who waits for the cut is told, if anything is told yet: the cut that was told, and else what the watch came
-- to.
abbrev pub first_answer : Option Intervals → Option CutAnswer → Option CutAnswer
first_answer (Some cut) ended = Some (answer.Found cut)
first_answer None ended = ended

abbrev pub answer_of : BookState → Option CutAnswer
answer_of book = first_answer book.found book.ended

-- This news is to come.
abbrev pub IsAwaited : {A : Type 0} → News A → Type 0
IsAwaited (Told answer) = ⊥
IsAwaited (Awaited one) = Unit {0}
