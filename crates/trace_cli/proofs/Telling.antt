-- One answer more that is told, and where telling stops.
use Rattle.std.proofs.Common.{◌≡◌, ◌∙◌, refl, ap, sym, subst, ℕ, ◌+◌, Bool, List, [], ◌∷◌, ◌++◌, length, take}
use Rattle.std.proofs.Common.{◌<◌, ◌⊎◌, add-one, append_assoc, suc}
use Rattle.std.proofs.Common.{Some, None, Result, Ok, Err, IfErr, IsErr, IsErrAnd, IfSome, true, true≢false, suc-add, arith}
use Rattle.std.proofs.lemmas.List.{append-nil, length-map}
use Rattle.std.proofs.KnownBytes.{Appends-nil, Appends-trans}
use Rattle.std.specs.Io.KnownBytes.{Appends, Keeps}
use Rattle.std.specs.List.{All}
use Rattle.wcp_io.specs.Edge.{Edge}
use Rattle.wcp_io.specs.Prefixes.{AppendsPrefix}
use Rattle.trace_log.specs.declared.turn.Form.{Form}
use Rattle.trace_source.specs.Story.{Story}
use Rattle.trace_asking.specs.declared.asking.QuestionAnswer.{QuestionAnswer}
use Rattle.trace_asking.specs.declared.question.Question.{Question}
use Rattle.trace_asking.specs.declared.asking.Asking.{Asking}
use Rattle.trace_detect.specs.declared.fault.DetectFault.{DetectFault}
use Rattle.trace_detect.specs.declared.fault.DetectFault.TheVariants.{Forgets, Log, NoHost, Read, Memory}
use Rattle.trace_asking.specs.Asking.{IsAsking, answered_by, is_answered}
use Rattle.trace_asking.specs.OfBytes.{AnswersOne, StopAll}
use Rattle.trace_text.specs.Waiting.{ToldWaiting}
use Rattle.trace_text.specs.Unknown.{SaysWaiting}
use Rattle.trace_cli.specs.Questions.{AreNotKnown, CutNotKnown, HasToldSome, KeepsAnswered, NotKnown, told_text}
use Rattle.trace_cli.specs.Questions.{unknown_at, unknown_first}
use Rattle.trace_cli.specs.declared.answering.Answering.{Answering}
use Rattle.trace_cli.specs.declared.fault.TraceFault.{TraceFault}
use Rattle.trace_cli.specs.declared.fault.TraceFault.TheVariants.{Detection}
use Rattle.trace_text.specs.declared.format.AnswerFormat.{AnswerFormat}
use Rattle.trace_questions.specs.Questions.{AskWhy}
use Rattle.trace_words.specs.declared.options.Options.{Options}
use Rattle.trace_cli.specs.Questions.{AnswersFile, ArePicked, Asked}
use Rattle.trace_cli.specs.Questions.{AllTold, CanTell, CutOff, HasTold, HasWritten, IsTelling, IsTellingSome, SomeTold}
use Rattle.trace_cli.specs.Questions.{TellsAll, form_for}
use Rattle.trace_cli.specs.Questions.{answer_text, name_at, status_with}
use Rattle.trace_cli.specs.Requested.{Known}
use Rattle.trace_words.specs.Fitting.{are_answers_alone, go_together}
use Rattle.trace_cli.specs.Statuses.{closed_pipe, refused, status_after, status_of}
use Rattle.trace_cli.proofs.Statuses.{status_of_either}

-- A prefix of what comes behind a text is a prefix of both.
pub prefix_behind : (first second : List ℕ) (count : ℕ)
    → take (length first + count) (first ++ second) ≡ first ++ take count second
prefix_behind [] second count =
    let same : 0 + count ≡ count = omega arith in ap (λ (n : ℕ). take n second) same
prefix_behind (byte ∷ first) second count =
    rw (suc-add (length first) count) (ap (λ bytes. byte ∷ bytes) (prefix_behind first second count))

-- Nothing was written.
pub kept_so_far : (output now : Known) → Keeps output now → Appends output now []
kept_so_far None now kept = tt
kept_so_far (Some bytes) None kept = absurd kept
kept_so_far (Some bytes) (Some same) kept = kept ∙ sym (append-nil bytes)

pub none_written : {X E : Type 0} (result : Result X E) (output : Known) (text : List ℕ)
    → IfErr result (λ _. AppendsPrefix output output text)
none_written (Ok value) output text = tt
none_written (Err fault) output text = (0, Appends-nil output)

-- As many questions are answered or open as are asked.
pub as_many_answered : {S : Type 0} (story : Story S) (questions : List Question) (asking : Asking S)
    → IsAsking story questions asking → length (answered_by asking) ≡ length questions
as_many_answered story questions asking is =
    length-map asking.asked.items (λ one. is_answered one.stage) ∙ is.asked.as_many

pub cut_behind : (output mid now : Known) (first second : List ℕ) → Appends output mid first → AppendsPrefix mid now second
    → AppendsPrefix output now (first ++ second)
cut_behind output mid now first second before prefix = (
  length first + prefix.0,
  subst (Appends output now) (sym (prefix_behind first second prefix.0))
      (Appends-trans output mid now first _ before prefix.1),
)

-- What was told, with what telling stands at.
module _ {S : Type 0} (story : Story S) (form : Form) (format : AnswerFormat) (questions : List Question)
    (known before mid : Known) (old : Answering S)
    (some : IsTellingSome story form format questions known before mid old) where
  pub ends : (answered : List Bool) → answered ≡ answered_by old.asking → All (λ one. one ≡ true) answered
      → HasWritten form format questions known before mid old.status
  ends answered same all =
      AllTold some.told (answered_by old.asking) some.is.has_told
      (subst (All (λ (one : Bool). one ≡ true)) same all) some.is.written some.is.status

  pub stops : HasWritten form format questions known before mid refused
  stops = SomeTold some.told (answered_by old.asking) some.is.has_told some.is.written refl

  pub stops_for : (result : Result (Unit {0}) TraceFault) (why : DetectFault) (new : Answering S)
      → IsErr result × IsErrAnd result (λ given. given ≡ Detection why)
      → TellsAll form format questions known before mid result new
  stops_for (Ok done) why new given = absurd (true≢false (sym given.0))
  stops_for (Err fault) why new given = rw (ap status_of given.1) stops

  -- Telling stops.
  pub has_told_some : (new : Answering S) → new.questions ≡ old.questions → new.format ≡ old.format
      → HasToldSome form format questions known before mid (answered_by old.asking) new
  has_told_some new asked formatted = record {
    by = ap (λ those. those.now) asked ∙ some.is.by;
    formatted = formatted ∙ some.is.formatted;
    told = some.told;
    has_told = some.is.has_told;
    written = some.is.written;
  }

  -- One answer more, behind which so much of the input is left.
  module _ (asking : Asking S) (rest now : Known) (one : QuestionAnswer)
      (answers : AnswersOne form questions known rest (answered_by old.asking) one (answered_by asking)) where
    has_told_more : HasTold form questions known (one ∷ some.told) (answered_by asking)
    has_told_more = (answered_by old.asking, rest, some.is.has_told, answers)

    pub tells_more : (new : Answering S) → new.questions ≡ old.questions → new.format ≡ old.format → new.asking ≡ asking
        → IsAsking story questions asking
        → Appends mid now (answer_text old.format (name_at old.questions.now one.place) one.answer)
        → new.status ≡ status_with one.answer old.status
        → IsTellingSome story form format questions known before now new
    tells_more new same same_format same_asking is written status = record {
      told = one ∷ some.told;
      is = record {
        by = ap (λ asked. asked.now) same ∙ some.is.by;
        formatted = same_format ∙ some.is.formatted;
        is = subst (λ (it : Asking S). IsAsking story questions it) (sym same_asking) is;
        has_told = subst (λ (it : Asking S). HasTold form questions known (one ∷ some.told) (answered_by it))
            (sym same_asking) has_told_more;
        written = Appends-trans before mid now _ _ some.is.written (rw (some.is.by, some.is.formatted) at written);
        status = status ∙ ap (status_with one.answer) some.is.status;
      };
    }

    pub is_cut_off : (result : Result (Unit {0}) TraceFault) (new : Answering S) → IsErr result
        → AppendsPrefix mid now (answer_text old.format (name_at old.questions.now one.place) one.answer)
        → TellsAll form format questions known before now result new
    is_cut_off (Ok done) new bad prefix = absurd (true≢false (sym bad))
    is_cut_off (Err fault) new bad prefix =
        CutOff (one ∷ some.told) (answered_by asking) has_told_more
        (cut_behind before mid now _ _ some.is.written (rw (some.is.by, some.is.formatted) at prefix)) (status_of_either fault)

-- Telling can go on behind an answer.
pub can_tell_more : {W S : Type 0} (story : W → Story S) (old new : Answering S) (asking : Asking S) (whole : W)
    → new.questions ≡ old.questions → new.asking ≡ asking → IsAsking (story whole) old.questions.now asking
    → CanTell story new
can_tell_more {S = S} story old new asking whole same same_asking is = record {
  whole = whole;
  is = subst (λ (it : Asking S). IsAsking (story whole) new.questions.now it) (sym same_asking)
      (subst (λ (asked : List Question). IsAsking (story whole) asked asking) (sym (ap (λ asked. asked.now) same)) is);
}

-- What is printed of the first questions that have no answer.
module _ (format : AnswerFormat) (questions : List Question) (answered : List Bool) (waiting : ToldWaiting) where
  pub none_unknown : unknown_first format questions answered waiting 0 ≡ []
  unfolding unknown_first
  none_unknown = refl

  pub one_unknown : (count : ℕ) → unknown_first format questions answered waiting (count + 1)
      ≡ unknown_first format questions answered waiting count ++ unknown_at format questions answered waiting count
  unfolding unknown_first
  one_unknown count = rw add-one refl

-- Lines wait at the end of the log, so that the other answers aren't known.
module _ {S : Type 0} (form : Form) (format : AnswerFormat) (questions : List Question) (known before mid : Known)
    (answered : List Bool) (old : Answering S)
    (some : HasToldSome form format questions known before mid answered old) where
  pub some_stopped : (status : ℕ) → status ≡ refused → HasWritten form format questions known before mid status
  some_stopped status is = SomeTold some.told answered some.has_told some.written is

  pub stops_by : (result : Result (Unit {0}) TraceFault) (fault : TraceFault) (new : Answering S)
      → IsErr result × IsErrAnd result (λ given. given ≡ fault) → status_of fault ≡ refused
      → TellsAll form format questions known before mid result new
  stops_by (Ok done) fault new given small = absurd (true≢false (sym given.0))
  stops_by (Err why) fault new given small = some_stopped (status_of why) (ap status_of given.1 ∙ small)

  module _ (why : DetectFault) (stopped : StopAll form questions known answered why)
      (keeps : KeepsAnswered why answered (answered_by old.asking)) (waiting : ToldWaiting)
      (says : SaysWaiting why waiting) where
    -- The fault is one of the log.
    same_answered : (why' : DetectFault) → why' ≡ why → SaysWaiting why' waiting
        → answered_by old.asking ≡ answered
    same_answered (Log what) same said = keeps what (sym same)
    same_answered (NoHost host) same said = absurd said
    same_answered (Forgets what) same said = absurd said
    same_answered Read same said = absurd said
    same_answered Memory same said = absurd said

    not_known : AreNotKnown form questions known answered waiting
    not_known = record { why = why; stops = stopped; says = says }

    abbrev first_unknown : ℕ → List ℕ
    first_unknown count = unknown_first old.format old.questions.now (answered_by old.asking) waiting count

    same_first : (count : ℕ) → first_unknown count
        ≡ unknown_first format questions answered waiting count
    same_first count =
        ap (λ f. unknown_first f old.questions.now (answered_by old.asking) waiting count) some.formatted
        ∙ ap (λ asked. unknown_first format asked (answered_by old.asking) waiting count) some.by
        ∙ ap (λ those. unknown_first format questions those waiting count) (same_answered why refl says)

    pub tells_unknown : (now : Known) (status : ℕ) → Appends mid now (first_unknown (length old.questions.now))
        → status ≡ refused → HasWritten form format questions known before now status
    tells_unknown now status written is =
        NotKnown some.told answered some.has_told waiting not_known
        (Appends-trans before mid now _ _ some.written
        (subst (Appends mid now)
        (ap (λ those. first_unknown (length those)) some.by ∙ same_first (length questions)) written)) is

    pub cuts_unknown : (between now : Known) (count status : ℕ) → count < length old.questions.now
        → Appends mid between (first_unknown count)
        → AppendsPrefix between now
        (unknown_at old.format old.questions.now (answered_by old.asking) waiting count)
        → (status ≡ refused) ⊎ (status ≡ closed_pipe) → HasWritten form format questions known before now status
    unfolding unknown_first
    cuts_unknown between now count status within written prefix is =
        let asked : length old.questions.now ≡ length questions = ap length some.by in
        CutNotKnown some.told answered some.has_told waiting not_known (suc count)
        (omega (arith, within, asked))
        (subst (λ bytes. AppendsPrefix before now (told_text format questions some.told ++ bytes))
        (same_first (suc count))
        (subst (AppendsPrefix before now) (append_assoc (told_text format questions some.told) (first_unknown count) _)
        (cut_behind before between now _ _ (Appends-trans before mid between _ _ some.written written) prefix))) is

    pub cuts_by : (between now : Known) (count : ℕ) (result : Result (Unit {0}) TraceFault) (new : Answering S)
        → IsErr result → count < length old.questions.now → Appends mid between (first_unknown count)
        → AppendsPrefix between now
        (unknown_at old.format old.questions.now (answered_by old.asking) waiting count)
        → TellsAll form format questions known before now result new
    cuts_by between now count (Ok done) new bad within written prefix = absurd (true≢false (sym bad))
    cuts_by between now count (Err given) new bad within written prefix =
        cuts_unknown between now count (status_of given) within written prefix (status_of_either given)

pub nothing_told : {S : Type 0} (story : Story S) (form : Form) (format : AnswerFormat) (questions : List Question)
    (known before now : Known) (answering : Answering S)
    → IsTelling story form format questions known before now [] answering
    → IsTellingSome story form format questions known before now answering
nothing_told story form format questions known before now answering is = record { told = []; is = is }

-- The questions of a file were answered, by a log that was read for them.
pub file_answered : (options : Options) (file : Known) (edge : Edge) (form : Form) (questions items : List Question)
    (status : ℕ) → form ≡ form_for options.form questions → questions ≡ items → go_together options ≡ true
    → are_answers_alone options ≡ true → IfSome file (λ text. ArePicked options text items)
    → AskWhy options.explain items
    → HasWritten form options.format questions edge.input edge.output edge.output_after status
    → AnswersFile options file edge status
file_answered options file edge form questions items status read_so same together alone asked whys written =
    Asked questions together alone (subst (λ (those : List Question). IfSome file (λ text. ArePicked options text those))
    (sym same) asked) (subst (AskWhy options.explain) (sym same) whys)
    (subst (λ (read : Form). HasWritten read options.format questions edge.input edge.output edge.output_after status)
    read_so written)

pub status_handed : (result : Result ℕ TraceFault) (fault : TraceFault)
    → IsErr result × IsErrAnd result (λ given. given ≡ fault) → status_after result ≡ status_of fault
status_handed (Ok status) fault given = absurd (true≢false (sym given.0))
status_handed (Err why) fault given = ap status_of given.1
