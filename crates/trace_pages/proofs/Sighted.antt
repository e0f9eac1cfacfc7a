-- What is shown of a log, by what was sighted of it.
use Rattle.std.specs.Prelude.{◌≡◌, ℕ, Bool, List, Option}
use Rattle.trace_log.specs.declared.turn.Form.{Form}
use Rattle.trace_detect.specs.Told.{Told, definite, found, none, possible, told_by}
use Rattle.trace_text.specs.Printed.{told_status}
use Rattle.trace_text.specs.declared.printed.Printed.{Printed}
use Rattle.trace_detect.specs.declared.fault.DetectFault.{DetectFault}
use Rattle.trace_detect.specs.declared.fault.DetectFault.TheVariants.{Forgets, Log, NoHost, Read, Memory}
use Rattle.trace_asking.specs.declared.question.Question.{Question}
use Rattle.trace_asking.specs.declared.reading_on.Sighting.{Sighting}
use Rattle.trace_asking.specs.ReadingOn.{AnswersOn}
use Rattle.trace_pages.specs.Pages.{most_behind, page_status, says_told, shown_answer, IsLogShown, ShowsAnswer}
use Rattle.trace_pages.specs.Pages.{ShowsUnknown}
use Rattle.trace_text.specs.Unknown.{unknown_status}
use Rattle.std.proofs.Common.{Result, Ok, Err, IfOk, inl, inr, refl}

-- The status of an answer is that of what is shown of it.
pub status_shown : (told : Told) → page_status (shown_answer told) ≡ told_status told
status_shown (found members) = refl
status_shown (none counts) = refl
status_shown (definite runs) = refl
status_shown (possible members) = refl

module _ (svg : Bool) (form : Form) (question : Question) (input rest : Option (List ℕ)) where
  pub shown_of : (sighting : Sighting) (result : Result Printed DetectFault)
      → AnswersOn form question most_behind input rest (Ok sighting)
      → IfOk result (λ answer. ShowsAnswer svg (says_told sighting.answer) sighting.behind answer.text.items)
      → IfOk result (λ answer. answer.status ≡ told_status (told_by sighting.answer.answer))
      → IfOk result (λ answer. IsLogShown svg form question input rest answer.text.items answer.status)
  shown_of sighting (Ok answer) answers shows same = inl (record {
    sighting = sighting;
    answers = answers;
    status_is = same;
    shows = shows;
  })
  shown_of sighting (Err fault) answers shows same = tt

  pub unknown_of : (why : DetectFault) (result : Result Printed DetectFault)
      → AnswersOn form question most_behind input rest (Err why)
      → IfOk result (λ answer. ShowsUnknown svg why answer.text.items)
      → IfOk result (λ answer. answer.status ≡ unknown_status)
      → IfOk result (λ answer. IsLogShown svg form question input rest answer.text.items answer.status)
  unknown_of (Log what) (Ok answer) answers shows same = inr (record {
    fault = what;
    fails = answers.sights;
    status_is = same;
    shows = shows;
  })
  unknown_of (NoHost host) (Ok answer) answers shows same = absurd shows.waits
  unknown_of (Forgets what) (Ok answer) answers shows same = absurd shows.waits
  unknown_of Read (Ok answer) answers shows same = absurd shows.waits
  unknown_of Memory (Ok answer) answers shows same = absurd shows.waits
  unknown_of why (Err fault) answers shows same = tt
