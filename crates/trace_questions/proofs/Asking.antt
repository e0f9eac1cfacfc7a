-- Wordings that were read, and the first that wasn't.
use Rattle.trace_questions.proofs.Words.{◌≡◌, ℕ, ◌<◌, ◌+◌, List, [], ◌∷◌, ◌++◌, map, length, get_or, take, drop}
use Rattle.trace_questions.proofs.Words.{Some, None, refl, ap, sym, ◌∙◌, subst, add-one, arith, drop-cons}
use Rattle.trace_questions.proofs.Words.{map-append, take-append-drop, length-map, all_read, seen_wording, Wording, Text}
use Rattle.trace_questions.proofs.Words.{Result, Ok, Err}
use Rattle.trace_questions.proofs.Reading.{read_more, read_fails}
use Rattle.std.specs.Prelude.{All, IfErr, slice_index_or}
use Rattle.std.specs.declared.vec.Vec.{Vec}
use Rattle.toml.specs.Data.{Members}
use Rattle.toml.specs.Parse.{parse_document}
use Rattle.std.proofs.lemmas.List.{length-take-le}
use Rattle.std.proofs.lemmas.List.Elements.{All-map, All-push}
use Rattle.std.proofs.lemmas.Grind.{common_steps}
use Rattle.regex.specs.Patterns.{default_config}
use Rattle.regex.specs.Strings.{regex_source}
use Rattle.regex.specs.Failures.{IsPattern}
use Rattle.regex.specs.declared.string.regex.Regex.{Regex}
use Rattle.trace_condition.specs.Conditions.{CanBeRead, IsReadExpression, said_by}
use Rattle.trace_condition.specs.Rules.{EachOf, map_rule}
use Rattle.trace_condition.specs.declared.rule.Rule.{Rule}
use Rattle.trace_condition.proofs.Conditions.{can_be_read}
use Rattle.trace_asking.specs.declared.question.Question.{Question}
use Rattle.trace_asking.specs.declared.question.Subject.{Subject}
use Rattle.trace_asking.specs.declared.question.Subject.TheVariants.{Hosts, AnyTwo, Definitely}
use Rattle.trace_questions.specs.declared.fault.QuestionsFault.{QuestionsFault}
use Rattle.trace_questions.specs.declared.fault.QuestionsFault.TheVariants as fault
use Rattle.trace_questions.specs.declared.wording.Wording.{Wording as OwnWording}
use Rattle.trace_questions.specs.Questions.{said_in, asked_by, meaning_of, meant_by, IsReadQuestion, IsReadSubject}
use Rattle.trace_questions.specs.Wordings.{questions_in}
use Rattle.trace_questions.specs.Faults.{CanBeAsked, CanBeMeant, ReadsWordings, RefusesQuestion, RefusesText}
use Rattle.trace_questions.specs.Faults.{RefusesWordings}
use Rattle.trace_questions.specs.Faults.{SaysNone}

-- The wordings before the i-th were read as these questions.
abbrev pub HaveRead : List OwnWording → ℕ → List Question → Type 0
HaveRead wordings i questions =
    (all_read said_in (map seen_wording (take i wordings)) ≡ Some (map asked_by questions))
    × All IsReadQuestion questions

split_at : (wordings : List OwnWording) (i : ℕ) (one : OwnWording) → i < length wordings
    → one ≡ get_or wordings i one
    → map seen_wording wordings
    ≡ map seen_wording (take i wordings) ++ seen_wording one ∷ map seen_wording (drop (i + 1) wordings)
split_at wordings i one within is =
    let left : drop i wordings ≡ one ∷ drop (i + 1) wordings =
    rw (add-one, drop-cons wordings i one within, ← is) refl in
    let whole : wordings ≡ take i wordings ++ (one ∷ drop (i + 1) wordings) =
    sym (take-append-drop i wordings) ∙ ap (λ (rest : List OwnWording). take i wordings ++ rest) left in
    ap (map seen_wording) whole ∙ map-append seen_wording (take i wordings) (one ∷ drop (i + 1) wordings)

says_none : (wording : Wording) → meant_by wording.asks ≡ None → said_in wording ≡ None
says_none wording none = rw none refl

rule_can_be_read : (rule : Rule Regex) → EachOf IsReadExpression rule
    → EachOf (IsPattern default_config) (map_rule regex_source rule)
rule_can_be_read rule read = grind (arith, common_steps, can_be_read)

can_be_meant : (subject : Subject) → IsReadSubject subject → CanBeMeant (meaning_of subject)
can_be_meant (Hosts conditions) read =
    All-map CanBeRead said_by conditions.items (λ i d within. rule_can_be_read _ (read i d within))
can_be_meant (AnyTwo condition) read =
    (subst (IsPattern default_config) read.hosts (can_be_read condition.hosts read.names), rule_can_be_read _ read.read)
can_be_meant (Definitely conditions) read =
    All-map CanBeRead said_by conditions.items (λ i d within. rule_can_be_read _ (read i d within))

can_be_asked : (question : Question) → IsReadQuestion question → CanBeAsked (asked_by question)
can_be_asked question read = can_be_meant question.subject read

all_can_be_asked : (questions : List Question) → All IsReadQuestion questions
    → All CanBeAsked (map asked_by questions)
all_can_be_asked questions read =
    All-map CanBeAsked asked_by questions (λ i d within. can_be_asked (slice_index_or questions i d) (read i d within))

before_at : (wordings : List OwnWording) (i : ℕ) → i < length wordings
    → length (map seen_wording (take i wordings)) ≡ i
before_at wordings i within =
    length-map (take i wordings) seen_wording ∙ length-take-le i wordings (omega arith)

-- The i-th wording wasn't read, and those before it were.
pub fails_at : (wordings : List OwnWording) (i : ℕ) (one : OwnWording) (questions : List Question)
    (why : QuestionsFault) → i < length wordings → one ≡ get_or wordings i one → HaveRead wordings i questions
    → RefusesQuestion (i + 1) (seen_wording one) why → RefusesWordings (map seen_wording wordings) why
fails_at wordings i one questions (fault.Question line) within is so_far refuses =
    read_fails said_in seen_wording wordings i one within (rw (← is) (says_none (seen_wording one) refuses))
fails_at wordings i one questions (fault.Expression place name host why) within is so_far refuses = record {
  before = map seen_wording (take i wordings);
  failed = seen_wording one;
  others = map seen_wording (drop (i + 1) wordings);
  split = split_at wordings i one within is;
  at = refuses.0 ∙ ap (λ n. n + 1) (sym (before_at wordings i within));
  said_before = map asked_by questions;
  were_said = so_far.0;
  were_read = all_can_be_asked questions so_far.1;
  named = refuses.1;
  refused = refuses.2;
}
fails_at wordings i one questions fault.Memory within is so_far refuses = tt
fails_at wordings i one questions (fault.Text line) within is so_far refuses = refuses
fails_at wordings i one questions (fault.Toml line column why) within is so_far refuses = refuses

-- One question more.
pub have_more : (wordings : List OwnWording) (i : ℕ) (one : OwnWording) (questions : List Question)
    (question : Question) → i < length wordings → one ≡ get_or wordings i one → HaveRead wordings i questions
    → (said_in (seen_wording one) ≡ Some (asked_by question)) × IsReadQuestion question
    → HaveRead wordings (i + 1) (questions ++ question ∷ [])
have_more wordings i one questions question within is so_far reads =
    let more = read_more said_in seen_wording wordings i one _ _ within so_far.0 (rw (← is) reads.0) in (
      rw (map-append asked_by questions (question ∷ [])) more,
      All-push IsReadQuestion questions question so_far.1 reads.1,
    )

-- A document that says no questions.
pub says_no_questions : (document : Members) → questions_in document ≡ None → SaysNone document
says_no_questions document none = rw none refl

module _ (text : Text) (document : Members) (wordings : List Wording)
    (parsed : parse_document text ≡ Some document) (worded : questions_in document ≡ Some wordings) where
  refused_text : (why : QuestionsFault) → RefusesWordings wordings why → RefusesText text why
  refused_text (fault.Question line) refuses = (document, parsed, rw worded refuses)
  refused_text (fault.Expression place name host why) fails = record {
    document = document;
    wordings = wordings;
    parsed = parsed;
    worded = worded;
    fails = fails;
  }
  refused_text fault.Memory refuses = tt
  refused_text (fault.Text line) refuses = absurd refuses
  refused_text (fault.Toml line column why) refuses = absurd refuses

  -- The text of wordings that weren't read.
  pub refuses_text : {Z : Type 0} (result : Result (Vec Question Z) QuestionsFault) → ReadsWordings wordings result
      → IfErr result (RefusesText text)
  refuses_text (Ok questions) reads = tt
  refuses_text (Err why) reads = refused_text why reads
