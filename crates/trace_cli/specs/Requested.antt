-- The answer to what the words ask for.
use Rattle.std.specs.Prelude.{◌≡◌, ℕ, Bool, true, false, List, [], ◌∷◌, ◌++◌, ◌||◌, map, All, Option}
use Rattle.std.specs.Prelude.{Some, Ok, Err, Result, codes, string_bytes}
use Rattle.std.specs.Io.KnownBytes.{Keeps}
use Rattle.trace_log.specs.declared.turn.Form.{Form}
use Rattle.trace_words.specs.declared.options.Options.{Options}
use Rattle.trace_words.specs.declared.options.TraceRequest.{TraceRequest}
use Rattle.trace_words.specs.declared.options.TraceRequest.TheVariants.{Trace, Help, Version, Unknown}
use Rattle.trace_condition.specs.declared.condition.Condition.{Condition}
use Rattle.trace_condition.specs.Asked.{conditions_of}
use Rattle.trace_condition.specs.Conditions.{said_by, IsRead}
use Rattle.trace_detect.specs.declared.answer.ReasonedAnswer.{ReasonedAnswer}
use Rattle.trace_detect.specs.declared.fault.DetectFault.{DetectFault}
use Rattle.trace_asking.specs.declared.question.Question.{Question}
use Rattle.trace_asking.specs.declared.question.Subject.{Subject}
use Rattle.trace_asking.specs.declared.question.Subject.TheVariants.{AnyTwo, Definitely, Hosts}
use Rattle.trace_asking.specs.OfBytes.{AnswersAlone}
use Rattle.trace_condition.specs.declared.rule.Rule.{Rule}
use Rattle.trace_pairs.specs.declared.hosts_condition.HostsCondition.{HostsCondition}
use Rattle.trace_pairs.specs.Words.{ReadsHosts}
use Rattle.trace_words.specs.AnyTwo.{asks_any_two, pair_words}
use Rattle.trace_words.specs.Fitting.{asked_by, go_together}
use Rattle.trace_pages.specs.Pages.{IsLogShown}
use Rattle.trace_text.specs.Unknown.{Tells}
use Rattle.trace_cli.specs.Scheduled.{DetectsScheduled}

-- What is known of the bytes that a reader has left, or of those that a writer holds.
abbrev pub Known : Type 0
Known = Option (List ℕ)

-- The options ask under these conditions of hosts: for a moment, or whether they must have held at once.
pub record AsksHosts (definitely : Bool) (options : Options) (conditions : List Condition) : Type 0 where
  pub of_hosts : asks_any_two options ≡ false
  pub decides : options.definitely ≡ definitely
  pub said : conditions_of (asked_by options) ≡ Some (map said_by conditions)
  pub were_read : All IsRead conditions

-- The options ask about any two of the hosts whose names match, under this condition.
pub record AsksTwo (options : Options) (condition : HostsCondition) : Type 0 where
  pub of_two : asks_any_two options ≡ true
  pub words : Rule (List ℕ)
  pub said : pair_words options ≡ Some words
  pub was_read : ReadsHosts words (Ok condition)

-- What the options ask.
abbrev pub Asks : Options → Subject → Type 0
Asks options (Hosts conditions) = AsksHosts false options conditions.items
Asks options (Definitely conditions) = AsksHosts true options conditions.items
Asks options (AnyTwo condition) = AsksTwo options condition

-- The question that the options ask, with the reasons of its answer where they are asked for.
pub record AsksSo (options : Options) (question : Question) : Type 0 where
  pub asks : Asks options question.subject
  pub why : question.why ≡ options.explain

-- What is detected for a question: what is answered to it alone; or that with a schedule.
abbrev pub DetectsSo : Bool → Form → Question → Known → Known → Result ReasonedAnswer DetectFault → Type 0
DetectsSo false form question input input_after detected = AnswersAlone form question input input_after detected
DetectsSo true form question input input_after detected = DetectsScheduled form question input input_after detected

-- The answer to what the options ask, whose words go together, or that lines wait at the end of the log, so that it
-- isn't known. One moment is asked for.
pub record AnswersTrace (options : Options) (input input_after : Known) (printed : List ℕ) (status : ℕ) : Type 0 where
  pub together : go_together options ≡ true
  pub one : options.all ≡ false
  pub question : Question
  pub asks : AsksSo options question
  pub detected : Result ReasonedAnswer DetectFault
  pub detects : DetectsSo options.order options.form question input input_after detected
  pub tells : Tells options.format detected printed status

-- The answer to what the options ask, whose words go together, as a page or a picture.
pub record AnswersShown (options : Options) (input input_after : Known) (printed : List ℕ) (status : ℕ) : Type 0 where
  pub together : go_together options ≡ true
  pub question : Question
  pub asks : AsksSo options question
  pub shown : IsLogShown options.svg options.form question input input_after printed status

-- The answer to a log: shown by a page or a picture, where one is asked for.
abbrev pub AnswersLog : Bool → Options → Known → Known → List ℕ → ℕ → Type 0
AnswersLog false options input input_after printed status = AnswersTrace options input input_after printed status
AnswersLog true options input input_after printed status = AnswersShown options input input_after printed status

-- Not each moment is asked for.
abbrev pub AsksForOne : TraceRequest → Type 0
AsksForOne (Trace options) = options.all ≡ false
AsksForOne (Help text) = Unit {0}
AsksForOne Version = Unit {0}
AsksForOne (Unknown why) = Unit {0}

-- The answer to a request for the version: the program's name and version, and the toolchain that it is proved with,
-- a line each.
abbrev pub version_text : List ℕ
version_text = codes "wcptrace 0.3.0" ++ 10 ∷ codes "rattle-kit-13f logic dac8208d650f15bf" ++ 10 ∷ []

-- The answer to a request. Help, whose text it carries, and the version read nothing.
abbrev pub AnswersRequest : TraceRequest → Known → Known → List ℕ → ℕ → Type 0
AnswersRequest (Trace options) input input_after printed status =
    AnswersLog (options.page || options.svg) options input input_after printed status
AnswersRequest (Help text) input input_after printed status =
    Keeps input input_after × (printed ≡ string_bytes text) × (status ≡ 0)
AnswersRequest Version input input_after printed status =
    Keeps input input_after × (printed ≡ version_text) × (status ≡ 0)
AnswersRequest (Unknown why) input input_after printed status = ⊥
