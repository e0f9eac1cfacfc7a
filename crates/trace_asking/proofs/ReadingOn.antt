-- Reading on behind an answer.
use Rattle.std.proofs.Common.{append_assoc}
use Rattle.std.proofs.lemmas.Grind.{common_steps}
use Rattle.std.specs.Io.KnownBytes.{prepend_known}
use Rattle.std.specs.Option.{IsSomeAnd}
use Rattle.trace_asking.proofs.Words.{◌≡◌, ◌∙◌, ℕ, ◌+◌, ◌<◌, Bool, true, false, List, [], ◌∷◌, ◌++◌, Option, Some, None}
use Rattle.trace_asking.proofs.Words.{Result, Ok, Err, length, length-append, refl, sym, subst, arith, inl, inr, Logged}
use Rattle.trace_log.specs.declared.turn.Form.{Form}
use Rattle.trace_source.specs.declared.clocked.Clocked.{Clocked}
use Rattle.trace_source.specs.Clocked.{LogInput, left_of, log_story}
use Rattle.trace_source.specs.Story.{GivesNext, Story}
use Rattle.trace_detect.specs.declared.answer.ReasonedAnswer.{ReasonedAnswer}
use Rattle.trace_detect.specs.declared.fault.DetectFault.{DetectFault}
use Rattle.trace_detect.specs.declared.fault.DetectFault.TheVariants as fault
use Rattle.trace_asking.specs.declared.question.Question.{Question}
use Rattle.trace_asking.specs.declared.reading_on.Behind.{Behind}
use Rattle.trace_asking.specs.declared.reading_on.Behind.TheVariants.{GoesOn, Ended, Stopped}
use Rattle.trace_asking.specs.declared.reading_on.ReadOn.{ReadOn}
use Rattle.trace_asking.specs.declared.reading_on.Sighting.{Sighting}
use Rattle.trace_asking.specs.Answered.{AnswersOf, StopsOf}
use Rattle.trace_asking.specs.Asking.{HasGivenSo}
use Rattle.trace_asking.specs.OfBytes.{StopsFor}
use Rattle.trace_asking.specs.ReadingOn.{AnswersOn, ReadsOn, ReadsOnSo, Sights, SightsBefore, of_bytes, of_story}
use Rattle.trace_asking.proofs.Bridge.{answers, stopped, stops_for}

-- Behind these events a source gave so many more.
pub record HasReadOn {S : Type 0} (story : Story S) (logged : List Logged) (source : S) (count : ℕ) : Type 0 where
  pub more : List Logged
  pub count_is : length more ≡ count
  pub gave : story.gave (logged ++ more) source

module _ {S : Type 0} (story : Story S) (logged : List Logged) where
  pub has_read_none : (source : S) → story.gave logged source → HasReadOn story logged source 0
  has_read_none source gave = record {
    more = [];
    count_is = refl;
    gave = subst (λ (l : List Logged). story.gave l source) (grind (arith, common_steps)) gave;
  }

  appended : (a b c : List Logged) → (a ++ b) ++ c ≡ a ++ (b ++ c)
  appended a b c = append_assoc a b c

  -- The event that was given last is one more.
  pub reads_last : (old new : S) (count : ℕ) (last : Option Logged) → (before : HasReadOn story logged old count)
      → IsSomeAnd last (λ one. GivesNext story (logged ++ before.more) one new) → HasReadOn story logged new (count + 1)
  reads_last old new count (Some one) before next = record {
    more = before.more ++ one ∷ [];
    count_is = omega (arith, before.count_is, length-append before.more (one ∷ []));
    gave = subst (λ (l : List Logged). story.gave l new) (appended logged before.more (one ∷ [])) next.gave;
  }
  reads_last old new count None before next = absurd next

  pub goes_on_behind : (most : ℕ) (source : S) (count : ℕ) → count ≡ most → HasReadOn story logged source count
      → ReadsOn story.gave story.ended most logged most GoesOn source
  goes_on_behind most source count all had = (had.more, had.count_is ∙ all, refl, had.gave)

  pub ends_behind : (most : ℕ) (old new : S) (count : ℕ) → count < most → (had : HasReadOn story logged old count)
      → story.ended (logged ++ had.more) new → ReadsOn story.gave story.ended most logged count Ended new
  ends_behind most old new count within had ended = (had.more, had.count_is, within, ended)

  pub stops_behind : (most : ℕ) (source : S) (count : ℕ) → count < most → HasReadOn story logged source count
      → ReadsOn story.gave story.ended most logged count Stopped source
  stops_behind most source count within had = (had.more, had.count_is, within, (source, had.gave))

  -- What is sighted, by what was read behind the answer.
  pub sighted : (question : Question) (most : ℕ) (ended : Bool) (old new : S) (answer : ReasonedAnswer) (on : ReadOn)
      → HasGivenSo ended story logged old → AnswersOf story question old (Ok answer)
      → ReadsOnSo ended story most logged on old new
      → Sights (of_story story question) most new (Ok (record { answer = answer; more = on.more; behind = on.behind }))
  sighted question most true old new answer on given answers reads = inr (record {
    answer = subst (λ (s : S). AnswersOf story question s (Ok answer)) (sym reads.0) answers;
    logged = logged;
    ended = subst (λ (s : S). story.ended logged s) (sym reads.0) given;
    none_more = reads.1;
    has_ended = reads.2;
  })
  sighted question most false old new answer on given answers reads = inl (record {
    left_then = old;
    answer = answers;
    logged = logged;
    gave = given;
    reads_on = reads;
  })

-- What is answered where it stops for a fault.
pub on_stops : (form : Form) (question : Question) (most : ℕ) (input rest : Option (List ℕ)) (why : DetectFault)
    → StopsFor form question input why → AnswersOn form question most input rest (Err why)
on_stops form question most input rest why stops =
    record { ahead = []; few = omega arith; sights = stopped form question input _ why stops }

pub on_for_memory : (form : Form) (question : Question) (most : ℕ) (input rest : Option (List ℕ))
    → AnswersOn form question most input rest (Err fault.Memory)
on_for_memory form question most input rest = on_stops form question most input rest fault.Memory tt

-- What is sighted of a log with clocks is what is sighted of its bytes.
module _ {I : Type 0} (remaining : I → Option (List ℕ)) (log : LogInput) (question : Question) (most : ℕ) where
  abbrev Told : (source : Clocked I) → Result Sighting DetectFault → Type 0
  Told source result = Sights (of_story (log_story remaining log) question) most source result

  abbrev Before : (source : Clocked I) → Sighting → Type 0
  Before source sighting = SightsBefore (of_story (log_story remaining log) question) most source sighting

  abbrev OnOfLog : (logged : List Logged) → ℕ → Behind → Clocked I → Type 0
  OnOfLog logged count behind source =
      ReadsOn (log_story remaining log).gave (log_story remaining log).ended most logged count behind source

  abbrev OnOfBytes : (logged : List Logged) → ℕ → Behind → Option (List ℕ) → Type 0
  OnOfBytes logged count behind left =
      ReadsOn (of_bytes log.form question log.bytes).gave (of_bytes log.form question log.bytes).ended most logged count
      behind left

  reads_on : (logged : List Logged) (count : ℕ) (behind : Behind) (source : Clocked I)
      → OnOfLog logged count behind source → OnOfBytes logged count behind (left_of remaining source)
  reads_on logged count GoesOn source on = (on.0, on.1, on.2, on.3.read.says)
  reads_on logged count Ended source on = (on.0, on.1, on.2, on.3.says)
  reads_on logged count Stopped source on = (on.0, on.1, on.2, (left_of remaining on.3.0, on.3.1.read.says))

  pub sights : (source : Clocked I) (result : Result Sighting DetectFault) → Told source result
      → Sights (of_bytes log.form question log.bytes) most (left_of remaining source) result
  sights source (Ok sighting) (inl before) = inl (record {
    left_then = left_of remaining before.left_then;
    answer = answers remaining log question before.left_then (Ok sighting.answer) before.answer;
    logged = before.logged;
    gave = before.gave.read.says;
    reads_on = reads_on before.logged sighting.more sighting.behind source before.reads_on;
  })
  sights source (Ok sighting) (inr whole) = inr (record {
    answer = answers remaining log question source (Ok sighting.answer) whole.answer;
    logged = whole.logged;
    ended = whole.ended.says;
    none_more = whole.none_more;
    has_ended = whole.has_ended;
  })
  sights source (Err why) is = answers remaining log question source (Err why) is

  -- The source has given the input back.
  given_back : (source : Clocked I) (rest : Option (List ℕ)) (result : Result Sighting DetectFault)
      → rest ≡ remaining source.input.now → Told source result
      → AnswersOn log.form question most log.bytes rest result
  given_back source rest result back is = record {
    ahead = source.events.lines.ahead;
    few = source.events.few;
    sights = rw back (sights source result is);
  }

  stops_back : (rest : Option (List ℕ)) (why : DetectFault) → StopsOf (log_story remaining log) question why
      → AnswersOn log.form question most log.bytes rest (Err why)
  stops_back rest why stops =
      on_stops log.form question most log.bytes rest why (stops_for remaining log question why stops)

  abbrev GivesBack : (source : Clocked I) → Option (List ℕ) → Type 0
  GivesBack source rest = source.input.ghost_name ≡ log.lent → rest ≡ remaining source.input.now

  before_back : (source : Clocked I) (rest : Option (List ℕ)) (sighting : Sighting) (behind : Behind)
      → sighting.behind ≡ behind → GivesBack source rest → (before : Before source sighting)
      → OnOfLog before.logged sighting.more behind source
      → AnswersOn log.form question most log.bytes rest (Ok sighting)
  before_back source rest sighting GoesOn is back before on =
      given_back source rest (Ok sighting) (back on.3.lent) (inl before)
  before_back source rest sighting Ended is back before on =
      given_back source rest (Ok sighting) (back on.3.lent) (inl before)
  before_back source rest sighting Stopped is back before on = record {
    ahead = [];
    few = omega arith;
    sights = inl (record {
      left_then = left_of remaining before.left_then;
      answer = answers remaining log question before.left_then (Ok sighting.answer) before.answer;
      logged = before.logged;
      gave = before.gave.read.says;
      reads_on = subst (λ (b : Behind). OnOfBytes before.logged sighting.more b (prepend_known [] rest)) (sym is)
          (on.0, on.1, on.2, (left_of remaining on.3.0, on.3.1.read.says));
    });
  }

  pub on_given_back : (source : Clocked I) (rest : Option (List ℕ)) (result : Result Sighting DetectFault)
      → GivesBack source rest → Told source result → AnswersOn log.form question most log.bytes rest result
  on_given_back source rest (Ok sighting) back (inl before) =
      before_back source rest sighting sighting.behind refl back before before.reads_on
  on_given_back source rest (Ok sighting) back (inr whole) =
      given_back source rest (Ok sighting) (back whole.ended.lent) (inr whole)
  on_given_back source rest (Err (fault.NoHost named)) back whole =
      given_back source rest (Err (fault.NoHost named)) (back whole.ended.lent) whole
  on_given_back source rest (Err (fault.Log what)) back is = stops_back rest (fault.Log what) is
  on_given_back source rest (Err (fault.Forgets what)) back is = stops_back rest (fault.Forgets what) is
  on_given_back source rest (Err fault.Read) back is = stops_back rest fault.Read is
  on_given_back source rest (Err fault.Memory) back is = stops_back rest fault.Memory is
