-- The questions that a text asks.
use Rattle.std.specs.Prelude.{◌≡◌, Bool, List, map, All, Option, Some, option_map, string_bytes}
use Rattle.toml.specs.Data.{Members}
use Rattle.toml.specs.Parse.{parse_document}
use Rattle.trace_condition.specs.Asked.{Text, Saying, ◌>>=◌, all_read, conditions_of}
use Rattle.trace_condition.specs.Conditions.{said_by, IsRead}
use Rattle.trace_pairs.specs.Words.{AreReadHosts, hosts_said}
use Rattle.trace_asking.specs.declared.question.Question.{Question}
use Rattle.trace_asking.specs.declared.question.Subject.{Subject}
use Rattle.trace_asking.specs.declared.question.Subject.TheVariants.{Hosts, AnyTwo, Definitely}
use Rattle.trace_questions.specs.Wordings.{AskedWords, Wording, of_any_two, of_hosts, of_hosts_definitely, questions_in}

-- What a question says: of each of its hosts, for a moment or whether it must have been; or of any two, whose names are
-- said by an expression.
pub data Meant : Type 0 where
  of_each : List Saying → Meant
  of_each_definitely : List Saying → Meant
  of_two : Saying → Meant

-- What words say.
abbrev pub meant_by : AskedWords → Option Meant
meant_by (of_hosts asked) = option_map of_each (conditions_of asked)
meant_by (of_hosts_definitely asked) = option_map of_each_definitely (conditions_of asked)
meant_by (of_any_two words) = option_map of_two (hosts_said words)

-- A question that is said: its name, and what it says.
pub record Said : Type 0 where
  pub name : Text
  pub meant : Meant

-- What a wording says: its name, and what its words say.
abbrev pub said_in : Wording → Option Said
said_in wording = do
  meant ← meant_by wording.asks
  Some (record { name = wording.name; meant = meant })

-- What a question asks.
abbrev pub meaning_of : Subject → Meant
meaning_of (Hosts conditions) = of_each (map said_by conditions.items)
meaning_of (AnyTwo condition) = of_two (said_by condition.condition)
meaning_of (Definitely conditions) = of_each_definitely (map said_by conditions.items)

abbrev pub asked_by : Question → Said
asked_by question = record { name = string_bytes question.name; meant = meaning_of question.subject }

-- Each condition of a question is what its expressions say; and so are the names of any two hosts.
abbrev pub IsReadSubject : Subject → Type 0
IsReadSubject (Hosts conditions) = All IsRead conditions.items
IsReadSubject (AnyTwo condition) = AreReadHosts (said_by condition.condition) condition
IsReadSubject (Definitely conditions) = All IsRead conditions.items

abbrev pub IsReadQuestion : Question → Type 0
IsReadQuestion question = IsReadSubject question.subject

-- The reasons of the answers to these questions are asked for, or of none.
abbrev pub AskWhy : Bool → List Question → Type 0
AskWhy why questions = All (λ question. question.why ≡ why) questions

-- A text asks these questions: it's a document, whose wordings say them in their order.
pub record AreQuestionsOf (text : Text) (questions : List Question) : Type 0 where
  pub document : Members
  pub wordings : List Wording
  pub parsed : parse_document text ≡ Some document
  pub worded : questions_in document ≡ Some wordings
  pub said : all_read said_in wordings ≡ Some (map asked_by questions)
  pub were_read : All IsReadQuestion questions
