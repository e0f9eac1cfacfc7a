-- The page of several questions about one log, and the picture of one of them.
use Rattle.std.specs.Prelude.{◌≡◌, ◌⊎◌, ◌<◌, ◌==◌, ℕ, Bool, true, false, List, Option, Some, None, Ok, Err, All, length}
use Rattle.std.specs.Prelude.{if◌then◌else◌, slice_index_or}
use Rattle.std.specs.List.{list_any}
use Rattle.draw_page.specs.declared.model.Page.{Page}
use Rattle.draw_page.specs.declared.model.PageAnswer.{PageAnswer}
use Rattle.draw_page.specs.declared.model.PageAnswer.TheVariants.{Definite, Found, NoMoment, Possible, Undecided}
use Rattle.draw_page.specs.Data.{document}
use Rattle.trace_log.specs.declared.fault.LogFault.{LogFault}
use Rattle.trace_log.specs.Log.{Logged}
use Rattle.trace_log.specs.Reading.{SaysWhole}
use Rattle.trace_log.specs.declared.turn.Form.{Form}
use Rattle.trace_detect.specs.declared.answer.ReasonedAnswer.{ReasonedAnswer}
use Rattle.trace_detect.specs.declared.fault.DetectFault.{DetectFault}
use Rattle.trace_detect.specs.declared.fault.DetectFault.TheVariants.{Log}
use Rattle.trace_asking.specs.declared.question.Question.{Question}
use Rattle.trace_asking.specs.declared.reading_on.Behind.{Behind}
use Rattle.trace_asking.specs.declared.reading_on.Behind.TheVariants.{Ended, GoesOn, Stopped}
use Rattle.trace_asking.specs.Asking.{question_at}
use Rattle.trace_asking.specs.OfBytes.{Answers, StopsFor}
use Rattle.trace_text.specs.Unknown.{SaysWaiting, unknown_status}
use Rattle.trace_text.specs.Waiting.{ToldWaiting}
use Rattle.trace_pages.specs.Pages.{IsPageOf, Said, ShowsAnswer, page_status, said_by, says_told, says_waiting}
use Rattle.trace_pages.specs.declared.answered.Answered.{Answered}
use Rattle.trace_pages.specs.declared.replying.Reply.{Reply}
use Rattle.trace_pages.specs.declared.replying.Reply.TheVariants.{Open, Told, Failed}

-- What is said of what is known of a question. Where lines wait at the end of the log, the others aren't known.
abbrev pub IsSaidOf : Option ToldWaiting → Reply → Said → Type 0
IsSaidOf waiting (Told told) said = said ≡ says_told told
IsSaidOf waiting (Failed why) said = said.answer ≡ Undecided
IsSaidOf (Some waiting) Open said = said ≡ says_waiting waiting
IsSaidOf None Open said = ⊥

-- Where no lines wait, it was answered.
abbrev pub IsClosed : Option ToldWaiting → Reply → Type 0
IsClosed waiting (Told told) = Unit {0}
IsClosed waiting (Failed why) = Unit {0}
IsClosed (Some waiting) Open = Unit {0}
IsClosed None Open = ⊥

abbrev pub AreClosed : Option ToldWaiting → List Reply → Type 0
AreClosed waiting replies = All (IsClosed waiting) replies

-- The same of each of several.
pub record AreSaidOf (waiting : Option ToldWaiting) (replies : List Reply) (saids : List Said) : Type 0 where
  pub as_many : length saids ≡ length replies
  pub each : (p : ℕ) (reply : Reply) (said : Said) → p < length replies →
      IsSaidOf waiting (slice_index_or replies p reply) (slice_index_or saids p said)

-- What is said of a question: what is answered to it alone; or that it has no answer; or that the answer isn't known, as
-- these lines wait at the end of the log.
pub data IsSaidTo (form : Form) (input : Option (List ℕ)) (waits : ToldWaiting → DetectFault → Type 0) (question : Question) (said : Said)
    : Type 0 where
  OfAnswer : (left : Option (List ℕ)) (told : ReasonedAnswer) → Answers form question input left (Ok told)
      → said ≡ says_told told → IsSaidTo form input waits question said
  OfNone : (left : Option (List ℕ)) (why : DetectFault) → Answers form question input left (Err why)
      → said.answer ≡ Undecided → IsSaidTo form input waits question said
  OfWaiting : (waiting : ToldWaiting) (why : DetectFault) → waits waiting why
      → StopsFor form question input why → said ≡ says_waiting waiting → IsSaidTo form input waits question said

-- The same of each of several questions, in their order.
pub record AreSaid (form : Form) (input : Option (List ℕ)) (waits : ToldWaiting → DetectFault → Type 0) (questions : List Question)
    (saids : List Said) : Type 0 where
  pub as_many : length saids ≡ length questions
  pub each : (p : ℕ) (question : Question) (said : Said) → p < length questions →
      IsSaidTo form input waits (question_at questions p question) (slice_index_or saids p said)

-- There is a moment, or there must have been one, or could have been.
abbrev pub is_moment : PageAnswer → Bool
is_moment Found = true
is_moment Definite = true
is_moment Possible = true
is_moment NoMoment = false
is_moment Undecided = false

abbrev pub has_moment : Said → Bool
has_moment said = is_moment said.answer

-- The first of several that has a moment, or the first of all where none has.
pub record IsShown (saids : List Said) (place : ℕ) : Type 0 where
  pub within : place < length saids
  pub first : (p : ℕ) (said : Said) → p < place → has_moment (slice_index_or saids p said) ≡ false
  pub has : ((said : Said) → has_moment (slice_index_or saids place said) ≡ true)
      ⊎ ((place ≡ 0) × ((p : ℕ) (said : Said) → p < length saids → has_moment (slice_index_or saids p said) ≡ false))

-- Bytes are the file of a page that says this of the questions; or the picture of a page that says it of the one that is
-- shown.
abbrev pub ShowsSaid : Bool → List Said → Behind → List ℕ → Type 0
ShowsSaid false saids behind bytes = (page : Page) × IsPageOf saids behind page × (bytes ≡ document page)
ShowsSaid true saids behind bytes =
    (place : ℕ) × IsShown saids place × ((said : Said) → ShowsAnswer true (slice_index_or saids place said) behind bytes)

-- The exit status: 2 where a question has no answer, 0 where a moment was found or there must have been one, and else 1.
abbrev pub has_status : ℕ → Said → Bool
has_status status said = page_status said.answer == status

abbrev pub said_status : List Said → ℕ
said_status saids = if list_any (has_status unknown_status) saids then unknown_status
    else if list_any (has_status 0) saids then 0 else 1

-- An answer isn't known; or it is a moment, or that there must have been one.
abbrev pub is_undecided : Answered → Bool
is_undecided answered = has_status unknown_status (said_by answered)

abbrev pub is_found : Answered → Bool
is_found answered = has_status 0 (said_by answered)

-- Bytes show what is known of questions where lines wait, with this status.
pub record ShowsWaiting (svg : Bool) (why : DetectFault) (replies : List Reply) (printed : List ℕ) (status : ℕ) : Type 0
  where
    pub waiting : ToldWaiting
    pub waits : SaysWaiting why waiting
    pub saids : List Said
    pub are : AreSaidOf (Some waiting) replies saids
    pub status_is : status ≡ said_status saids
    pub shows : ShowsSaid svg saids Ended printed

-- A log ended behind what was read of it.
abbrev pub IsReadSo : Form → Option (List ℕ) → Behind → Type 0
IsReadSo form input Ended = (left : Option (List ℕ)) × (logged : List Logged) × SaysWhole form input left logged
IsReadSo form input GoesOn = Unit {0}
IsReadSo form input Stopped = Unit {0}

-- The page of a log for several questions, or the picture: of each it says what is answered to that one alone. Where it
-- says that the log doesn't go on, the whole of it was read.
pub record AreAnswersShown (svg : Bool) (form : Form) (input : Option (List ℕ)) (questions : List Question) (printed : List ℕ) (status : ℕ)
    : Type 0 where
  pub saids : List Said
  pub are : AreSaid form input (λ waiting why. ⊥) questions saids
  pub status_is : status ≡ said_status saids
  pub behind : Behind
  pub read : IsReadSo form input behind
  pub shows : ShowsSaid svg saids behind printed

-- The same where lines wait at the end of the log, so that some answers aren't known.
pub record AreSomeShown (svg : Bool) (form : Form) (input : Option (List ℕ)) (questions : List Question) (printed : List ℕ) (status : ℕ)
    : Type 0 where
  pub saids : List Said
  pub are : AreSaid form input (λ waiting why. SaysWaiting why waiting) questions saids
  pub status_is : status ≡ said_status saids
  pub shows : ShowsSaid svg saids Ended printed

abbrev pub AreShown : Bool → Form → Option (List ℕ) → List Question → List ℕ → ℕ → Type 0
AreShown svg form input questions printed status =
    AreAnswersShown svg form input questions printed status ⊎ AreSomeShown svg form input questions printed status
