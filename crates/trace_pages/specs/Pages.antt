-- The page of a log, and the picture of one.
use Rattle.std.specs.Prelude.{◌≡◌, ◌⊎◌, ℕ, Bool, true, false, List, [], ◌∷◌, map, Ok, Option, string_bytes}
use Rattle.draw_page.specs.declared.model.Page.{Page}
use Rattle.draw_page.specs.declared.model.PageReply.{PageReply}
use Rattle.draw_page.specs.declared.model.PageAnswer.{PageAnswer}
use Rattle.draw_page.specs.declared.model.PageAnswer.TheVariants.{Definite, Found, NoMoment, Possible, Undecided}
use Rattle.draw_page.specs.Data.{document}
use Rattle.draw_still.specs.Still.{IsStillOf}
use Rattle.trace_log.specs.declared.turn.Form.{Form}
use Rattle.trace_detect.specs.declared.answer.ReasonedAnswer.{ReasonedAnswer}
use Rattle.trace_detect.specs.declared.fault.DetectFault.{DetectFault}
use Rattle.trace_detect.specs.declared.fault.DetectFault.TheVariants.{Log}
use Rattle.trace_asking.specs.declared.question.Question.{Question}
use Rattle.trace_asking.specs.declared.reading_on.Behind.{Behind}
use Rattle.trace_asking.specs.declared.reading_on.Behind.TheVariants.{GoesOn, Ended, Stopped}
use Rattle.trace_asking.specs.declared.reading_on.Sighting.{Sighting}
use Rattle.trace_asking.specs.OfBytes.{StopsFor}
use Rattle.trace_asking.specs.ReadingOn.{AnswersOn}
use Rattle.trace_log.specs.declared.fault.LogFault.{LogFault}
use Rattle.trace_text.specs.Waiting.{ToldWaiting}
use Rattle.trace_pages.specs.declared.answered.Answered.{Answered}
use Rattle.trace_text.specs.Unknown.{SaysWaiting, answer_lines, unknown_status}
use Rattle.trace_detect.specs.Told.{Told, definite, found, none, possible, told_by}
use Rattle.trace_text.specs.Lines.{unknown_lines}
use Rattle.trace_text.specs.Printed.{told_status}

-- So many events are read behind the moment at most, to be shown.
abbrev pub most_behind : ℕ
most_behind = 500

-- Whether the log goes on behind what was read of it, or may go on.
abbrev pub may_go_on : Behind → Bool
may_go_on GoesOn = true
may_go_on Ended = false
may_go_on Stopped = true

-- What a page says of a log: the words, and which answer it is.
pub record Said : Type 0 where
  pub words : List ℕ
  pub answer : PageAnswer

-- Which answer is told.
abbrev pub shown_answer : Told → PageAnswer
shown_answer (found members) = Found
shown_answer (none counts) = NoMoment
shown_answer (definite runs) = Definite
shown_answer (possible members) = Possible

-- What is said of an answer; and where lines wait, so that the answer isn't known.
abbrev pub says_told : ReasonedAnswer → Said
says_told told = record { words = answer_lines told; answer = shown_answer (told_by told.answer) }

abbrev pub says_waiting : ToldWaiting → Said
says_waiting waiting = record { words = unknown_lines waiting; answer = Undecided }

-- What is said of what was answered.
abbrev pub said_by : Answered → Said
said_by answered = record { words = string_bytes answered.words; answer = answered.answer }

-- What a page says of its first question, and of each other.
abbrev pub said_first : Page → Said
said_first page = record { words = string_bytes page.words; answer = page.answer }

abbrev pub said_of_other : PageReply → Said
said_of_other reply = record { words = string_bytes reply.words; answer = reply.answer }

-- A page says this of its questions, in their order, and whether the log goes on. Which events it shows no clause says.
pub record IsPageOf (saids : List Said) (behind : Behind) (page : Page) : Type 0 where
  pub says : said_first page ∷ map said_of_other page.others.items ≡ saids
  pub more : page.left_out.more ≡ may_go_on behind

-- The exit status of an answer that is shown.
abbrev pub page_status : PageAnswer → ℕ
page_status Found = 0
page_status Definite = 0
page_status NoMoment = 1
page_status Possible = 1
page_status Undecided = unknown_status

-- Bytes are the file of a page, or the still picture of its events where that is asked for.
abbrev pub IsDrawn : Bool → Page → List ℕ → Type 0
IsDrawn false page bytes = bytes ≡ document page
IsDrawn true page bytes = IsStillOf page bytes

-- Bytes are the file of a page that says this alone, and whether the log goes on; or the picture of one.
pub record ShowsAnswer (svg : Bool) (said : Said) (behind : Behind) (bytes : List ℕ) : Type 0 where
  pub page : Page
  pub says : IsPageOf (said ∷ []) behind page
  pub is_drawn : IsDrawn svg page bytes

-- The page of a log of this form, or the picture: its words are what is answered to this question without one. Behind
-- the moment some events more were read.
pub record IsAnswerShown (svg : Bool) (form : Form) (question : Question) (input input_after : Option (List ℕ))
    (printed : List ℕ) (status : ℕ) : Type 0 where
  pub sighting : Sighting
  pub answers : AnswersOn form question most_behind input input_after (Ok sighting)
  pub status_is : status ≡ told_status (told_by sighting.answer.answer)
  pub shows : ShowsAnswer svg (says_told sighting.answer) sighting.behind printed

-- Bytes are the file of a page, or the picture, that says that the answer isn't known, as this fault is that lines
-- wait.
pub record ShowsUnknown (svg : Bool) (fault : DetectFault) (bytes : List ℕ) : Type 0 where
  pub waiting : ToldWaiting
  pub waits : SaysWaiting fault waiting
  pub shows : ShowsAnswer svg (says_waiting waiting) Ended bytes

-- The same where lines wait at the end of the log, and no moment was known of the events before it: its words are that
-- the answer isn't known.
pub record IsUnknownShown (svg : Bool) (form : Form) (question : Question) (input : Option (List ℕ)) (printed : List ℕ)
    (status : ℕ) : Type 0 where
  pub fault : LogFault
  pub fails : StopsFor form question input (Log fault)
  pub status_is : status ≡ unknown_status
  pub shows : ShowsUnknown svg (Log fault) printed

abbrev pub IsLogShown : Bool → Form → Question → Option (List ℕ) → Option (List ℕ) → List ℕ → ℕ → Type 0
IsLogShown svg form question input input_after printed status =
    IsAnswerShown svg form question input input_after printed status
    ⊎ IsUnknownShown svg form question input printed status
