-- What a text has whose questions weren't read.
use Rattle.std.specs.Prelude.{◌≡◌, ◌+◌, ℕ, List, ◌∷◌, ◌++◌, length, map, All, Some, None, Result, Ok, Err}
use Rattle.std.specs.Prelude.{string_bytes}
use Rattle.std.specs.Str.{IsUtf8}
use Rattle.regex.specs.Patterns.{default_config}
use Rattle.regex.specs.Failures.{IsPattern}
use Rattle.std.specs.declared.vec.Vec.{Vec}
use Rattle.toml.specs.Data.{Members}
use Rattle.toml.specs.Parse.{parse_document}
use Rattle.trace_condition.specs.Asked.{Text, ◌>>=◌, all_read}
use Rattle.trace_condition.specs.Conditions.{CanBeRead, RefusesWords}
use Rattle.trace_condition.specs.declared.fault.ConditionFault.{ConditionFault}
use Rattle.trace_condition.specs.declared.fault.ConditionFault.TheVariants as of_words
use Rattle.trace_pairs.specs.Words.{ReadsHosts}
use Rattle.trace_asking.specs.declared.question.Question.{Question}
use Rattle.trace_asking.specs.declared.question.Subject.{Subject}
use Rattle.trace_questions.specs.declared.fault.QuestionsFault.{QuestionsFault}
use Rattle.trace_questions.specs.declared.fault.QuestionsFault.TheVariants as fault
use Rattle.trace_questions.specs.Wordings.{AskedWords, Wording, of_any_two, of_hosts, of_hosts_definitely, questions_in}
use Rattle.trace_questions.specs.Questions.{Meant, Said, of_each, of_each_definitely, of_two, said_in, asked_by}
use Rattle.trace_questions.specs.Questions.{IsReadQuestion, IsReadSubject, meaning_of, meant_by}

-- Words weren't read, with this fault: they say nothing, or an expression isn't one, or memory ran out.
abbrev pub RefusesAsked : AskedWords → ConditionFault → Type 0
RefusesAsked (of_hosts asked) why = RefusesWords asked why
RefusesAsked (of_hosts_definitely asked) why = RefusesWords asked why
RefusesAsked (of_any_two words) why = ReadsHosts words (Err why)

-- Words were read as what a question asks, or refused.
abbrev pub ReadsAsked : AskedWords → Result Subject ConditionFault → Type 0
ReadsAsked words (Ok subject) = (meant_by words ≡ Some (meaning_of subject)) × IsReadSubject subject
ReadsAsked words (Err why) = RefusesAsked words why

-- A question's words weren't read, with this fault: they say nothing, or an expression isn't one.
abbrev pub RefusesQuestion : ℕ → Wording → QuestionsFault → Type 0
RefusesQuestion place wording (fault.Question line) = meant_by wording.asks ≡ None
RefusesQuestion place wording (fault.Expression at name host why) =
    (at ≡ place) × (string_bytes name ≡ wording.name) × RefusesAsked wording.asks (of_words.Expression host why)
RefusesQuestion place wording fault.Memory = Unit {0}
RefusesQuestion place wording (fault.Text line) = ⊥
RefusesQuestion place wording (fault.Toml line column why) = ⊥

-- A question's words were read, or refused.
abbrev pub ReadsQuestion : ℕ → Wording → Result Question QuestionsFault → Type 0
ReadsQuestion place wording (Ok question) = (said_in wording ≡ Some (asked_by question)) × IsReadQuestion question
ReadsQuestion place wording (Err why) = RefusesQuestion place wording why

-- The grammar reads each expression of a question.
abbrev pub CanBeMeant : Meant → Type 0
CanBeMeant (of_each sayings) = All CanBeRead sayings
CanBeMeant (of_each_definitely sayings) = All CanBeRead sayings
CanBeMeant (of_two saying) = IsPattern default_config saying.host × CanBeRead saying

abbrev pub CanBeAsked : Said → Type 0
CanBeAsked said = CanBeMeant said.meant

-- The question at this place, counted from 1, is the first whose words weren't read. Those before it say something,
-- and the grammar reads their expressions.
pub record FailsAt (place : ℕ) (name : Text) (why : ConditionFault) (wordings : List Wording) : Type 0 where
  pub before : List Wording
  pub failed : Wording
  pub others : List Wording
  pub split : wordings ≡ before ++ failed ∷ others
  pub at : place ≡ length before + 1
  pub said_before : List Said
  pub were_said : all_read said_in before ≡ Some said_before
  pub were_read : All CanBeAsked said_before
  pub named : name ≡ failed.name
  pub refused : RefusesAsked failed.asks why

-- Wordings weren't read, with this fault.
abbrev pub RefusesWordings : List Wording → QuestionsFault → Type 0
RefusesWordings wordings (fault.Question line) = all_read said_in wordings ≡ None
RefusesWordings wordings (fault.Expression place name host why) =
    FailsAt place (string_bytes name) (of_words.Expression host why) wordings
RefusesWordings wordings fault.Memory = Unit {0}
RefusesWordings wordings (fault.Text line) = ⊥
RefusesWordings wordings (fault.Toml line column why) = ⊥

module _ {Z : Type 0} where
  -- Wordings were read as these questions, or refused.
  abbrev pub ReadsWordings : List Wording → Result (Vec Question Z) QuestionsFault → Type 0
  ReadsWordings wordings (Ok questions) =
      (all_read said_in wordings ≡ Some (map asked_by questions.items)) × All IsReadQuestion questions.items
  ReadsWordings wordings (Err why) = RefusesWordings wordings why

-- A document says no questions, or the words of one of them say nothing.
abbrev pub SaysNone : Members → Type 0
SaysNone document = (questions_in document >>= all_read said_in) ≡ None

-- A text's document words questions, and the words of the one at this place are the first that weren't read.
pub record RefusesAt (text : Text) (place : ℕ) (name : Text) (why : ConditionFault) : Type 0 where
  pub document : Members
  pub wordings : List Wording
  pub parsed : parse_document text ≡ Some document
  pub worded : questions_in document ≡ Some wordings
  pub fails : FailsAt place name why wordings

-- A text wasn't read, with this fault: it isn't UTF-8, or it's no document, or its document says no questions or words
-- that say nothing, or an expression of the named question isn't one, or memory ran out.
abbrev pub RefusesText : Text → QuestionsFault → Type 0
RefusesText text (fault.Text line) = ¬ IsUtf8 text
RefusesText text (fault.Toml line column why) = parse_document text ≡ None
RefusesText text (fault.Question line) =
    (document : Members) × (parse_document text ≡ Some document) × SaysNone document
RefusesText text (fault.Expression place name host why) =
    RefusesAt text place (string_bytes name) (of_words.Expression host why)
RefusesText text fault.Memory = Unit {0}
