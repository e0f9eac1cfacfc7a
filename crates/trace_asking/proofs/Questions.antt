-- Questions, each asked by its place.
use Rattle.trace_asking.proofs.Words.{◌≡◌, ◌∙◌, ◌+◌, ◌-◌, ◌^◌, ◌<◌, ℕ, Bool, true, false, List, [], ◌∷◌, ◌++◌, length}
use Rattle.trace_asking.proofs.Words.{Option, Result, Ok, Err, inl, inr, sym, ap, subst, arith, refl, length-append}
use Rattle.trace_asking.proofs.Words.{length-set}
use Rattle.trace_asking.proofs.Words.{length-map, map-set, get_or-map, get_or-set_same, get_or-set_other, cases_eq}
use Rattle.trace_asking.proofs.Words.{get_or_append_left, get_or-append_seam, slice_index_or, Logged, FollowsIn}
use Rattle.std.specs.Prelude.{◌≢◌, All, slice_set}
use Rattle.std.specs.Result.{IsErr, IsErrAnd}
use Rattle.std.proofs.lemmas.Result.{err_from_is_err_and}
use Rattle.trace_log.specs.declared.event_fault.EventFault.{EventFault}
use Rattle.trace_source.specs.Story.{Advances, GivesNext, Story}
use Rattle.trace_detect.specs.declared.answer.ReasonedAnswer.{ReasonedAnswer}
use Rattle.trace_detect.specs.declared.fault.DetectFault.{DetectFault}
use Rattle.trace_detect.specs.Faults.{fault_of_events}
use Rattle.trace_asking.specs.declared.asked.Asked.{Asked}
use Rattle.trace_asking.specs.declared.asked.Stage.{Stage}
use Rattle.trace_asking.specs.declared.asked.Stage.TheVariants as stage
use Rattle.trace_asking.specs.declared.asking.Asking.{Asking}
use Rattle.trace_asking.specs.declared.asking.QuestionAnswer.{QuestionAnswer}
use Rattle.trace_asking.specs.declared.question.Question.{Question}
use Rattle.trace_asking.specs.declared.seeker.Seeker.{Seeker}
use Rattle.trace_asking.specs.Answered.{AnswersOf, HasFirstKnown, StopsOf}
use Rattle.trace_asking.specs.Asking.{AnswersNext, AnswersOneOf, AreAsked, CanGoOn, CanReadOne, IsAsking}
use Rattle.trace_asking.specs.Asking.{IsAt, IsStanding, IsWaiting, KnowsFirst, NoneAt, ReadsFurther, ReadsOne, StandsAs}
use Rattle.trace_asking.specs.Asking.{StopAllOf, TakesAs, TakesOne, WaitsAs, answered_by, answered_in, is_answered}
use Rattle.trace_asking.specs.Asking.{question_at}
use Rattle.trace_asking.specs.Seeking.{CanSeek, HasSought, IsKnowing, IsSeeking, KnowsSome, TellsKnownSo, TellsLastSo}
use Rattle.trace_asking.proofs.Seekers.{last_answers, none_is_known, stops_seeking}

-- An open question can take one event more.
pub can_take_open : (question : Question) (before : List Logged) (asked : Asked) (one : Logged)
    → IsWaiting before question asked → FollowsIn before one.event → length before < 2 ^ 64 - 1
    → asked.stage ≡ stage.Open → CanSeek asked.seeker one
can_take_open question before asked one waiting follows few is =
    record { question = question; before = before; is = rw is at waiting; follows = follows; few = few }

-- A search knows a moment for the first time.
pub knows_first : (question : Question) (before : List Logged) (one : Logged) (old new : Seeker)
    → IsSeeking question before old → IsKnowing question (before ++ one ∷ []) new → KnowsFirst question before one new
knows_first question before one old new seeking knows =
    record { knows = knows; none_before = none_is_known question before old seeking }

-- A question more is asked.
pub AreAsked-push : (P : Question → Asked → Type 0) (questions : List Question) (asked : List Asked)
    (question : Question) (one : Asked) → AreAsked P questions asked → P question one
    → AreAsked P (questions ++ question ∷ []) (asked ++ one ∷ [])
AreAsked-push P questions asked question one are this = record {
  as_many = omega (arith, length-append questions (question ∷ []), length-append asked (one ∷ []), are.as_many);
  each = λ p q a within. elim (cases_eq p (length questions)) [
    | inl same ↦
        let question_is : slice_index_or (questions ++ question ∷ []) p q ≡ question =
        ap (λ k. slice_index_or (questions ++ question ∷ []) k q) same ∙ get_or-append_seam questions question [] q in
        let one_is : slice_index_or (asked ++ one ∷ []) p a ≡ one =
        ap (λ k. slice_index_or (asked ++ one ∷ []) k a) (same ∙ sym are.as_many) ∙ get_or-append_seam asked one [] a in
        subst (λ (x : Question). P x (slice_index_or (asked ++ one ∷ []) p a)) (sym question_is)
        (subst (P question) (sym one_is) this)
    | inr other ↦
        let below : p < length questions = omega (arith, length-append questions (question ∷ [])) in
        subst (λ (x : Question). P x (slice_index_or (asked ++ one ∷ []) p a))
        (sym (get_or_append_left questions (question ∷ []) q p below))
        (subst (P (question_at questions p q))
        (sym (get_or_append_left asked (one ∷ []) a p (omega (arith, are.as_many)))) (are.each p q a below))
  ];
}

-- A question at a place was answered.
pub AreAsked-set : (P : Question → Asked → Type 0) (questions : List Question) (asked : List Asked) (place : ℕ)
    (after : Asked) → AreAsked P questions asked → place < length asked → ((question : Question) → P question after)
    → AreAsked P questions (slice_set asked place after)
AreAsked-set P questions asked place after are within this = record {
  as_many = length-set asked place after ∙ are.as_many;
  each = λ p q a under. elim (cases_eq p place) [
    | inl same ↦ subst (P (question_at questions p q))
        (sym (ap (λ k. slice_index_or (slice_set asked place after) k a) same
        ∙ get_or-set_same asked place after a within)) (this (question_at questions p q))
    | inr other ↦ subst (P (question_at questions p q)) (sym (get_or-set_other asked place p after a other))
        (are.each p q a under)
  ];
}

-- Those below a place have taken something, and now the one at that place has.
pub each_more : (P : ℕ → Asked → Type 0) (now : List Asked) (place : ℕ) (after : Asked) → place < length now
    → ((k : ℕ) (a : Asked) → k < place → P k (slice_index_or now k a)) → P place after
    → (k : ℕ) (a : Asked) → k < place + 1 → P k (slice_index_or (slice_set now place after) k a)
each_more P now place after within below this k a under = elim (cases_eq k place) [
  | inl same ↦ rw (same, get_or-set_same now place after a within) this
  | inr other ↦ rw (get_or-set_other now place k after a other) (below k a (omega arith))
]

-- Some question, where there is one.
pub any_of : (questions : List Question) (p : ℕ) → p < length questions → Question
any_of [] p within = absurd (omega (arith, within))
any_of (question ∷ questions) p within = question

-- Some asked question, where there is one.
some_at : (asked : List Asked) (p : ℕ) → p < length asked → Asked
some_at [] p within = absurd (omega (arith, within))
some_at (one ∷ asked) p within = one

-- A question that stands at a stage, where so much of an input was read.
stands_at : {S : Type 0} (story : Story S) (questions : List Question) (asking : Asking S) (place : ℕ)
    (question : Question) (one : Asked) → (are : IsAsking story questions asking)
    → place < length asking.asked.items
    → IsStanding story asking.source are.logged (question_at questions place question)
    (slice_index_or asking.asked.items place one)
stands_at story questions asking place question one are within =
    are.asked.each place question one (omega (arith, are.asked.as_many))

-- The first known moment of a question at that stage.
first_known_at : {S : Type 0} (story : Story S) (questions : List Question) (asking : Asking S) (place : ℕ)
    (question : Question) (one : Asked) → IsAsking story questions asking
    → IsAt stage.Known asking.asked.items place
    → HasFirstKnown story (question_at questions place question) asking.source
    (slice_index_or asking.asked.items place one).seeker
first_known_at story questions asking place question one are at =
    rw (at.at one) at (stands_at story questions asking place question one are at.within)

-- What an open question's search has taken.
sought_at : {S : Type 0} (story : Story S) (questions : List Question) (asking : Asking S) (place : ℕ)
    (question : Question) (one : Asked) → (are : IsAsking story questions asking)
    → IsAt stage.Open asking.asked.items place
    → IsSeeking (question_at questions place question) are.logged (slice_index_or asking.asked.items place one).seeker
sought_at story questions asking place question one are at =
    rw (at.at one) at (stands_at story questions asking place question one are at.within)

pub knows_at : {W S : Type 0} (story : W → Story S) (asking : Asking S) (place : ℕ) (one : Asked)
    → IsAt stage.Known asking.asked.items place → CanGoOn story asking
    → KnowsSome (slice_index_or asking.asked.items place one).seeker
knows_at story asking place one at can =
    let question = any_of can.questions place (omega (arith, can.is.asked.as_many, at.within)) in
    let first = first_known_at (story can.whole) can.questions asking place question one can.is at in
    record {
      question = question_at can.questions place question;
      logged = first.before ++ first.one ∷ [];
      is = first.knows;
    }

pub seeks_at : {W S : Type 0} (story : W → Story S) (asking : Asking S) (place : ℕ) (one : Asked)
    → IsAt stage.Open asking.asked.items place → CanGoOn story asking
    → HasSought (slice_index_or asking.asked.items place one).seeker
seeks_at story asking place one at can =
    let question = any_of can.questions place (omega (arith, can.is.asked.as_many, at.within)) in
    record {
      question = question_at can.questions place question;
      logged = can.is.logged;
      is = sought_at (story can.whole) can.questions asking place question one can.is at;
    }

-- One question is answered.
answers_one : {S : Type 0} (story : Story S) (questions : List Question) (asking : Asking S) (place : ℕ)
    (one after : Asked) (at_stage : Stage) (answer : Result ReasonedAnswer DetectFault)
    → IsAsking story questions asking → IsAt at_stage asking.asked.items place → is_answered at_stage ≡ false
    → is_answered after.stage ≡ true
    → ((question : Question) → AnswersOf story (question_at questions place question) asking.source answer)
    → AnswersOneOf story questions asking.source (answered_by asking) (record { place = place; answer = answer })
    (answered_in (slice_set asking.asked.items place after))
answers_one story questions asking place one after at_stage answer are at not_yet now answers = record {
  within = omega (arith, are.asked.as_many, at.within);
  unanswered = λ b. get_or-map (λ (a : Asked). is_answered a.stage) asking.asked.items place one b at.within
      ∙ ap is_answered (at.at one) ∙ not_yet;
  now = map-set (λ (a : Asked). is_answered a.stage) asking.asked.items place after
      ∙ ap (λ (b : Bool). slice_set (answered_by asking) place b) now;
  answer = answers;
}

pub answers_known : {S : Type 0} (story : Story S) (questions : List Question) (asking : Asking S) (place : ℕ)
    (one after : Asked) (answer : ReasonedAnswer) → IsAsking story questions asking
    → IsAt stage.Known asking.asked.items place → one ≡ slice_index_or asking.asked.items place one
    → ((question : Question) (logged : List Logged) → IsKnowing question logged one.seeker
    → TellsKnownSo question logged answer) → is_answered after.stage ≡ true
    → AnswersOneOf story questions asking.source (answered_by asking) (record { place = place; answer = Ok answer })
    (answered_in (slice_set asking.asked.items place after))
answers_known story questions asking place one after answer are at is found now =
    answers_one story questions asking place one after stage.Known (Ok answer) are at refl now (λ question.
    let first : HasFirstKnown story (question_at questions place question) asking.source one.seeker =
    rw is (first_known_at story questions asking place question one are at) in
    inl (record {
      before = first.before;
      one = first.one;
      none_before = first.none_before;
      gives = first.gives;
      tells = found (question_at questions place question) (first.before ++ first.one ∷ []) first.knows;
    }))

pub answers_at_end : {S : Type 0} (story : Story S) (questions : List Question) (asking : Asking S) (place : ℕ)
    (one after : Asked) (answer : Result ReasonedAnswer DetectFault)
    → (are : IsAsking story questions asking) → IsAt stage.Open asking.asked.items place
    → asking.ended ≡ true → one ≡ slice_index_or asking.asked.items place one
    → ((question : Question) (logged : List Logged) → IsSeeking question logged one.seeker
    → TellsLastSo question logged answer) → is_answered after.stage ≡ true
    → AnswersOneOf story questions asking.source (answered_by asking) (record { place = place; answer = answer })
    (answered_in (slice_set asking.asked.items place after))
answers_at_end story questions asking place one after answer are at ended is last now =
    answers_one story questions asking place one after stage.Open answer are at refl now (λ question.
    let asks = question_at questions place question in
    let seeks : IsSeeking asks are.logged one.seeker =
    rw is (sought_at story questions asking place question one are at) in
    last_answers story asks asking.source are.logged answer (rw ended at are.given)
    (none_is_known asks are.logged one.seeker seeks) (last asks are.logged seeks))

-- A question that waits stands the same, whatever was read.
waits_stands : {S : Type 0} (story : Story S) (source : S) (logged : List Logged) (at_stage : Stage)
    (question : Question) (seeker : Seeker) → WaitsAs at_stage question logged seeker
    → StandsAs story source logged at_stage question seeker
waits_stands story source logged stage.Open question seeker waits = waits
waits_stands story source logged stage.Known question seeker waits = absurd waits
waits_stands story source logged stage.Answered question seeker waits = tt

pub all_stand : {S : Type 0} (story : Story S) (questions : List Question) (source : S)
    (logged : List Logged) (asked : List Asked) → AreAsked (IsWaiting logged) questions asked
    → AreAsked (IsStanding story source logged) questions asked
all_stand story questions source logged asked are = record {
  as_many = are.as_many;
  each = λ p q a within. waits_stands story source logged (slice_index_or asked p a).stage
      (question_at questions p q) (slice_index_or asked p a).seeker (are.each p q a within);
}

-- Where no moment has become known, each question waits.
stands_waits : {S : Type 0} (story : Story S) (source : S) (logged : List Logged) (at_stage : Stage)
    (question : Question) (seeker : Seeker) → at_stage ≢ stage.Known
    → StandsAs story source logged at_stage question seeker → WaitsAs at_stage question logged seeker
stands_waits story source logged stage.Open question seeker other stands = stands
stands_waits story source logged stage.Known question seeker other stands = absurd (other refl)
stands_waits story source logged stage.Answered question seeker other stands = tt

pub all_wait : {S : Type 0} (story : Story S) (questions : List Question) (source : S)
    (logged : List Logged) (asked : List Asked) → AreAsked (IsStanding story source logged) questions asked
    → NoneAt stage.Known asked → AreAsked (IsWaiting logged) questions asked
all_wait story questions source logged asked are none = record {
  as_many = are.as_many;
  each = λ p q a within. stands_waits story source logged (slice_index_or asked p a).stage
      (question_at questions p q) (slice_index_or asked p a).seeker
      (none p a (omega (arith, are.as_many))) (are.each p q a within);
}

-- A question that has taken one event more stands where that was read.
takes_stands : {S : Type 0} (story : Story S) (source : S) (before : List Logged) (one : Logged)
    (at_stage : Stage) (question : Question) (seeker : Seeker) → GivesNext story before one source
    → TakesAs at_stage question before one seeker
    → StandsAs story source (before ++ one ∷ []) at_stage question seeker
takes_stands story source before one stage.Open question seeker reads takes = takes
takes_stands story source before one stage.Known question seeker reads takes = record {
  before = before;
  one = one;
  none_before = takes.none_before;
  gives = reads.gives;
  knows = takes.knows;
}
takes_stands story source before one stage.Answered question seeker reads takes = tt

pub all_stand_further : {S : Type 0} (story : Story S) (questions : List Question) (source : S)
    (before : List Logged) (asked : List Asked) → (taken : TakesOne story questions before source asked)
    → AreAsked (IsStanding story source (before ++ taken.one ∷ [])) questions asked
all_stand_further story questions source before asked taken = record {
  as_many = taken.takes.as_many;
  each = λ p q a within. takes_stands story source before taken.one (slice_index_or asked p a).stage
      (question_at questions p q) (slice_index_or asked p a).seeker taken.gives
      (taken.takes.each p q a within);
}

-- An event has a fault in place of it: no question that isn't answered knows a moment before it.
stops_for : {S : Type 0} (story : Story S) (before : List Logged) (last : Option Logged) (source : S) (why : EventFault)
    (at_stage : Stage) (question : Question) (seeker : Seeker)
    → Advances story before (Err why) last source → is_answered at_stage ≡ false
    → WaitsAs at_stage question before seeker
    → StopsOf story question (fault_of_events why)
stops_for story before last source why stage.Open question seeker reads not_yet waits =
    stops_seeking story question before last source why seeker reads waits
stops_for story before last source why stage.Known question seeker reads not_yet waits = absurd waits
stops_for story before last source why stage.Answered question seeker reads not_yet waits = absurd (cc)

pub all_stop : {S : Type 0} (story : Story S) (questions : List Question) (before : List Logged)
    (last : Option Logged) (source : S) (why : EventFault) (asked : List Asked) → Advances story before (Err why) last source
    → AreAsked (IsWaiting before) questions asked
    → StopAllOf story questions (answered_in asked) (fault_of_events why)
all_stop story questions before last source why asked reads are p question b within not_yet =
    let one = some_at asked p (omega (arith, are.as_many)) in
    stops_for story before last source why (slice_index_or asked p one).stage
    (question_at questions p question) (slice_index_or asked p one).seeker reads
    (sym (get_or-map (λ (a : Asked). is_answered a.stage) asked p one b (omega (arith, are.as_many))) ∙ not_yet)
    (are.each p question one within)

-- A fault that was handed on.
pub hands_all : {S : Type 0} (story : Story S) (questions : List Question) (before : List Logged)
    (old new : List Asked) (source : S) (result : Result Bool DetectFault) (given : DetectFault)
    → IsErr result × IsErrAnd result (λ fault. fault ≡ given)
    → StopAllOf story questions (answered_in old) given
    → ReadsOne story questions before old result source new
hands_all story questions before old new source result given back stops =
    let handed = err_from_is_err_and result back.1 in
    rw (handed.1, handed.2) stops

-- One event can be read, and each question can take it.
pub can_read_one : {W S : Type 0} (story : W → Story S) (asking : Asking S) → CanGoOn story asking
    → NoneAt stage.Known asking.asked.items → asking.ended ≡ false → asking.count < 2 ^ 64 - 1
    → CanReadOne story asking.source asking.asked.items
can_read_one story asking can none goes_on few = record {
  whole = can.whole;
  questions = can.questions;
  before = can.is.logged;
  gave = rw goes_on at can.is.given;
  are = all_wait (story can.whole) can.questions asking.source can.is.logged asking.asked.items can.is.asked
      none;
  few = omega (arith, can.is.many, few);
}

-- One event more was read.
pub reads_further : {S : Type 0} (story : Story S) (questions : List Question) (asking new : Asking S)
    → (are : IsAsking story questions asking)
    → TakesOne story questions are.logged new.source new.asked.items → new.count ≡ asking.count + 1
    → new.ended ≡ false → IsAsking story questions new
reads_further story questions asking new are taken count goes_on = record {
  logged = are.logged ++ taken.one ∷ [];
  given = rw goes_on taken.gives.gave;
  many = omega (arith, length-append are.logged (taken.one ∷ []), are.many, count);
  asked = all_stand_further story questions new.source are.logged new.asked.items taken;
}

-- The log has ended.
pub reads_to_end : {S : Type 0} (story : Story S) (questions : List Question) (asking new : Asking S)
    → (are : IsAsking story questions asking) → NoneAt stage.Known asking.asked.items
    → story.ended are.logged new.source → new.asked.items ≡ asking.asked.items → new.count ≡ asking.count
    → new.ended ≡ true → IsAsking story questions new
reads_to_end story questions asking new are none says same count ended = record {
  logged = are.logged;
  given = rw ended says;
  many = are.many ∙ sym count;
  asked = rw same (all_stand story questions new.source are.logged asking.asked.items
      (all_wait story questions asking.source are.logged asking.asked.items are.asked none));
}

-- A fault of reading that was handed on.
pub hands_further : {S : Type 0} (story : Story S) (questions : List Question) (old : List Bool)
    (asking : Asking S) (result : Result (Unit {0}) DetectFault) (given : DetectFault)
    → IsErr result × IsErrAnd result (λ fault. fault ≡ given) → StopAllOf story questions old given
    → ReadsFurther story questions old result asking
hands_further story questions old asking result given back stops =
    let handed = err_from_is_err_and result back.1 in
    rw (handed.1, handed.2) stops

-- A question that is neither open nor known was answered.
stage_answered : (at_stage : Stage) → at_stage ≢ stage.Known → at_stage ≢ stage.Open → is_answered at_stage ≡ true
stage_answered stage.Open known open_ = absurd (open_ refl)
stage_answered stage.Known known open_ = absurd (known refl)
stage_answered stage.Answered known open_ = refl

pub all_answered : (asked : List Asked) → NoneAt stage.Known asked → NoneAt stage.Open asked
    → All (λ answered. answered ≡ true) (answered_in asked)
all_answered asked none_known none_open k d within =
    let below : k < length asked = omega (arith, length-map asked (λ (a : Asked). is_answered a.stage)) in
    let one = some_at asked k below in
    get_or-map (λ (a : Asked). is_answered a.stage) asked k one d below
    ∙ stage_answered (slice_index_or asked k one).stage (none_known k one below) (none_open k one below)

-- A fault that ends asking was handed on.
pub hands_next : {S : Type 0} (story : Story S) (questions : List Question) (source : S) (old new : List Bool)
    (result : Result (Option QuestionAnswer) DetectFault) (given : DetectFault)
    → IsErr result × IsErrAnd result (λ fault. fault ≡ given) → StopAllOf story questions old given
    → AnswersNext story questions source old result new
hands_next story questions source old new result given back stops =
    let handed = err_from_is_err_and result back.1 in
    rw (handed.1, handed.2) stops
