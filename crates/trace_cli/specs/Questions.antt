-- The answers to the questions of a file.
use Rattle.std.specs.Prelude.{◌≡◌, ◌⊎◌, ◌≤◌, ℕ, zero, suc, Bool, true, false, List, [], ◌∷◌, ◌++◌, length, map, min, All, IfSome}
use Rattle.std.specs.Prelude.{◌==◌, ◌||◌, ◌<◌, if◌then◌else◌, slice_index_or, string_bytes, Option, Result, Ok, Err, Some}
use Rattle.std.specs.Prelude.{None}
use Rattle.std.specs.Borrow.{Bor}
use Rattle.std.specs.List.{list_any}
use Rattle.std.specs.Str.{bytes_eq}
use Rattle.std.specs.Io.KnownBytes.{Appends, Keeps}
use Rattle.wcp_io.specs.Edge.{Edge}
use Rattle.wcp_io.specs.Prefixes.{AppendsPrefix}
use Rattle.trace_log.specs.declared.turn.Form.{Form}
use Rattle.trace_source.specs.Story.{Story}
use Rattle.trace_detect.specs.declared.answer.ReasonedAnswer.{ReasonedAnswer}
use Rattle.trace_asking.specs.declared.asking.QuestionAnswer.{QuestionAnswer}
use Rattle.trace_detect.specs.declared.fault.DetectFault.{DetectFault}
use Rattle.trace_detect.specs.declared.fault.DetectFault.TheVariants.{Log}
use Rattle.trace_log.specs.declared.fault.LogFault.{LogFault}
use Rattle.trace_asking.specs.declared.question.Question.{Question}
use Rattle.trace_asking.specs.declared.question.Subject.{Subject}
use Rattle.trace_asking.specs.declared.question.Subject.TheVariants.{AnyTwo, Definitely, Hosts}
use Rattle.trace_asking.specs.Asking.{IsAsking, answered_by}
use Rattle.trace_asking.specs.OfBytes.{AnswersOne, StopAll}
use Rattle.trace_detect.specs.Told.{told_by}
use Rattle.trace_pages.specs.Pages.{IsLogShown}
use Rattle.trace_text.specs.declared.format.AnswerFormat.{AnswerFormat}
use Rattle.trace_text.specs.Printed.{told_status as answer_status, unknown_bytes}
use Rattle.trace_text.specs.Waiting.{ToldWaiting}
use Rattle.trace_questions.specs.Questions.{AreQuestionsOf, AskWhy}
use Rattle.trace_cli.specs.declared.fault.TraceFault.{TraceFault}
use Rattle.trace_words.specs.declared.options.Options.{Options}
use Rattle.trace_cli.specs.declared.answering.Answering.{Answering}
use Rattle.trace_cli.specs.Requested.{Known}
use Rattle.trace_words.specs.Fitting.{are_answers_alone, go_together}
use Rattle.trace_cli.specs.Statuses.{closed_pipe, refused, status_of}
use Rattle.trace_text.specs.Unknown.{SaysWaiting, reasoned_bytes}

-- The name of the question at a place.
abbrev pub names_of : List Question → List (List ℕ)
names_of questions = map (λ question. string_bytes question.name) questions

abbrev pub name_at : List Question → ℕ → List ℕ
name_at questions place = slice_index_or (names_of questions) place []

-- What is printed of the answer to a question, with its name. Where there is none, nothing is printed.
abbrev pub answer_text : AnswerFormat → List ℕ → Result ReasonedAnswer DetectFault → List ℕ
answer_text format name (Ok told) = reasoned_bytes format (Some name) told
answer_text format name (Err why) = []

-- What is printed of these answers, of which the last one stands first.
abbrev pub told_text : AnswerFormat → List Question → List QuestionAnswer → List ℕ
told_text format questions [] = []
told_text format questions (one ∷ earlier) =
    told_text format questions earlier ++ answer_text format (name_at questions one.place) one.answer

-- The exit status with one answer more: 2 where a question has no answer, 0 where a moment was found or there must have
-- been one, and else 1.
abbrev pub status_with : Result ReasonedAnswer DetectFault → ℕ → ℕ
status_with (Ok told) before = if before == refused then refused else min (answer_status (told_by told.answer)) before
status_with (Err why) before = refused

abbrev pub told_status : List QuestionAnswer → ℕ
told_status [] = 1
told_status (one ∷ earlier) = status_with one.answer (told_status earlier)

-- These answers were given one after another, of which the last one stands first: each is the answer to a question that
-- had none before, and now these questions have one.
abbrev pub HasTold : Form → List Question → Known → List QuestionAnswer → List Bool → Type 0
HasTold form questions input [] answered =
    All (λ one. one ≡ false) answered × (length answered ≡ length questions)
HasTold form questions input (one ∷ earlier) answered =
    (before : List Bool) × (rest : Known) × HasTold form questions input earlier before
    × AnswersOne form questions input rest before one answered

-- These were told of an input, of which a source gives the events.
pub record IsTelling {S : Type 0} (story : Story S) (form : Form) (format : AnswerFormat) (questions : List Question)
    (input output output_now : Known) (told : List QuestionAnswer) (answering : Answering S) : Type 0 where
  pub by : answering.questions.now ≡ questions
  pub formatted : answering.format ≡ format
  pub is : IsAsking story questions answering.asking
  pub has_told : HasTold form questions input told (answered_by answering.asking)
  pub written : Appends output output_now (told_text format questions told)
  pub status : answering.status ≡ told_status told

-- Something was told.
pub record IsTellingSome {S : Type 0} (story : Story S) (form : Form) (format : AnswerFormat)
    (questions : List Question) (input output output_now : Known) (answering : Answering S) : Type 0 where
  pub told : List QuestionAnswer
  pub is : IsTelling story form format questions input output output_now told answering

-- Something was told before telling stopped, and these questions were answered.
pub record HasToldSome {S : Type 0} (form : Form) (format : AnswerFormat) (questions : List Question)
    (input output output_now : Known) (answered : List Bool) (answering : Answering S) : Type 0 where
  pub by : answering.questions.now ≡ questions
  pub formatted : answering.format ≡ format
  pub told : List QuestionAnswer
  pub has_told : HasTold form questions input told answered
  pub written : Appends output output_now (told_text format questions told)

-- Telling can go on with what the source gives.
pub record CanTell {W S : Type 0} (story : W → Story S) (answering : Answering S) : Type 0 where
  pub whole : W
  pub is : IsAsking (story whole) answering.questions.now answering.asking

-- What is printed of the question at a place, where lines wait at the end of the log: nothing where it was answered.
abbrev pub unknown_at : AnswerFormat → List Question → List Bool → ToldWaiting → ℕ → List ℕ
unknown_at format questions answered waiting place =
    if slice_index_or answered place true then [] else unknown_bytes format (Some (name_at questions place)) waiting

-- The same of the first so many.
unfoldable pub unknown_first : AnswerFormat → List Question → List Bool → ToldWaiting → ℕ → List ℕ
unknown_first format questions answered waiting zero = []
unknown_first format questions answered waiting (suc place) =
    unknown_first format questions answered waiting place ++ unknown_at format questions answered waiting place

-- The questions that weren't answered have no answer, as lines wait at the end of the log and no moment was known of
-- the events before it.
pub record AreNotKnown (form : Form) (questions : List Question) (input : Known) (answered : List Bool)
    (waiting : ToldWaiting) : Type 0 where
  pub why : DetectFault
  pub stops : StopAll form questions input answered why
  pub says : SaysWaiting why waiting

-- All questions were answered, and the answers printed, with this status; or, behind the answers so far, that the others
-- aren't known; or telling stopped for a fault: then the answers so far were printed, or a prefix of what is printed
-- where a write failed.
pub data HasWritten (form : Form) (format : AnswerFormat) (questions : List Question)
    (input output output_now : Known) (status : ℕ) : Type 0 where
  AllTold : (told : List QuestionAnswer) (answered : List Bool) → HasTold form questions input told answered
      → All (λ one. one ≡ true) answered → Appends output output_now (told_text format questions told)
      → status ≡ told_status told → HasWritten form format questions input output output_now status
  SomeTold : (told : List QuestionAnswer) (answered : List Bool) → HasTold form questions input told answered
      → Appends output output_now (told_text format questions told) → status ≡ refused
      → HasWritten form format questions input output output_now status
  NotKnown : (told : List QuestionAnswer) (answered : List Bool) → HasTold form questions input told answered
      → (waiting : ToldWaiting) → AreNotKnown form questions input answered waiting
      → Appends output output_now
      (told_text format questions told ++ unknown_first format questions answered waiting (length questions))
      → status ≡ refused → HasWritten form format questions input output output_now status
  CutNotKnown : (told : List QuestionAnswer) (answered : List Bool) → HasTold form questions input told answered
      → (waiting : ToldWaiting) → AreNotKnown form questions input answered waiting
      → (count : ℕ) → count ≤ length questions → AppendsPrefix output output_now
      (told_text format questions told ++ unknown_first format questions answered waiting count)
      → (status ≡ refused) ⊎ (status ≡ closed_pipe) → HasWritten form format questions input output output_now status
  CutOff : (told : List QuestionAnswer) (answered : List Bool) → HasTold form questions input told answered
      → AppendsPrefix output output_now (told_text format questions told)
      → (status ≡ refused) ⊎ (status ≡ closed_pipe) → HasWritten form format questions input output output_now status

-- Where the log has a fault, still the same questions were answered.
abbrev pub KeepsAnswered : DetectFault → List Bool → List Bool → Type 0
KeepsAnswered why before now = (what : LogFault) → why ≡ Log what → now ≡ before

-- What telling does that goes on until all are answered.
abbrev pub TellsAll : {S : Type 0} → Form → AnswerFormat → List Question → Known → Known → Known
    → Result (Unit {0}) TraceFault → Answering S → Type 0
TellsAll form format questions input output output_now (Ok _) answering =
    HasWritten form format questions input output output_now answering.status
TellsAll form format questions input output output_now (Err fault) answering =
    HasWritten form format questions input output output_now (status_of fault)

-- A question asks whether its conditions must have held at once.
abbrev pub is_definite : Subject → Bool
is_definite (Hosts conditions) = false
is_definite (AnyTwo condition) = false
is_definite (Definitely conditions) = true

abbrev pub asks_definitely : Question → Bool
asks_definitely question = is_definite question.subject

-- One of these questions does.
abbrev pub ask_definitely : List Question → Bool
ask_definitely questions = list_any asks_definitely questions

-- The form in which a log is read for these questions: an event that forgets is a fault where one asks definitely.
abbrev pub form_for : Form → List Question → Form
form_for form questions = record form { check = form.check || ask_definitely questions }

-- The question at a place has this name.
pub record IsNamed (questions : List Question) (name : List ℕ) (place : ℕ) : Type 0 where
  pub within : place < length questions
  pub question : Question
  pub is : question ≡ slice_index_or questions place question
  pub named : bytes_eq (string_bytes question.name) name ≡ true

-- Of the questions of a file these are asked: all of them, or the one with the name that is said.
abbrev pub IsPicked : Option (Bor (List ℕ)) → List Question → List Question → Type 0
IsPicked None all picked = picked ≡ all
IsPicked (Some name) all picked =
    (place : ℕ) × (one : IsNamed all name.now place) × (picked ≡ one.question ∷ [])

-- These are asked of a file with these bytes.
pub record ArePicked (options : Options) (text : List ℕ) (picked : List Question) : Type 0 where
  pub all : List Question
  pub read : AreQuestionsOf text all
  pub picks : IsPicked options.question all picked

-- The answer to one question of a file is shown as a page or a picture.
pub record ShowsOne (options : Options) (file : Known) (edge : Edge) (printed : List ℕ) (status : ℕ) : Type 0 where
  pub together : go_together options ≡ true
  pub as_view : are_answers_alone options ≡ false
  pub question : Question
  pub asked : IfSome file (λ text. ArePicked options text (question ∷ []))
  pub why : AskWhy options.explain (question ∷ [])
  pub shown : IsLogShown options.svg (form_for options.form (question ∷ [])) question edge.input edge.input_after
      printed status

-- What is answered to the questions of a file, of which these are the bytes: they were read, and answered, of a log
-- that is read for them; or the answer to one of them is shown, whole or a prefix of it where a write failed; or nothing
-- is written.
pub data AnswersFile (options : Options) (file : Known) (edge : Edge) (status : ℕ) : Type 0 where
  Asked : (questions : List Question) → go_together options ≡ true → are_answers_alone options ≡ true
      → IfSome file (λ text. ArePicked options text questions) → AskWhy options.explain questions
      → HasWritten (form_for options.form questions) options.format questions edge.input edge.output
      edge.output_after status → AnswersFile options file edge status
  Shown : (printed : List ℕ) → ShowsOne options file edge printed status
      → Appends edge.output edge.output_after printed → AnswersFile options file edge status
  ShownCut : (printed : List ℕ) (wanted : ℕ) → ShowsOne options file edge printed wanted
      → AppendsPrefix edge.output edge.output_after printed → (status ≡ refused) ⊎ (status ≡ closed_pipe)
      → AnswersFile options file edge status
  NotAsked : Keeps edge.output edge.output_after → status ≡ refused → AnswersFile options file edge status
