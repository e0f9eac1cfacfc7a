-- The search for the answer to a question, by what the question asks.
use Rattle.trace_asking.proofs.Words.{◌≡◌, ◌∙◌, ℕ, Bool, true, false, List, [], Some}
use Rattle.trace_asking.proofs.Words.{Option, Result, Ok, Err, inr, length, sym, ap, subst, Logged}
use Rattle.std.specs.declared.alloc.AllocError.{AllocError}
use Rattle.std.specs.Prelude.{IfOk, string_bytes}
use Rattle.trace_log.specs.declared.event_fault.EventFault.{EventFault}
use Rattle.trace_log.specs.declared.event_fault.EventFault.TheVariants as events
use Rattle.trace_log.specs.declared.forgotten.Forgotten.{Forgotten}
use Rattle.trace_log.specs.declared.fault.LogFault.{LogFault}
use Rattle.trace_source.specs.Story.{Advances, Story}
use Rattle.trace_moment.specs.Moment.{HostWatch, IsKnown}
use Rattle.trace_moment.specs.Search.{is_known, watched_by, Keeps}
use Rattle.trace_condition.specs.declared.condition.Condition.{Condition}
use Rattle.trace_pairs.specs.declared.hosts_condition.HostsCondition.{HostsCondition}
use Rattle.trace_pairs.specs.declared.moment.PairMoment.{PairMoment}
use Rattle.trace_pairs.specs.Searching.{CanTakeMore, HasTakenLog, HasTakenSome, names_of, rule_in}
use Rattle.trace_pairs.proofs.Telling.{none_known_of}
use Rattle.trace_detect.specs.declared.answer.ReasonedAnswer.{ReasonedAnswer}
use Rattle.trace_detect.specs.declared.answer.TraceAnswer.{TraceAnswer}
use Rattle.trace_detect.specs.declared.fault.DetectFault.{DetectFault}
use Rattle.trace_detect.specs.declared.fault.DetectFault.TheVariants as fault
use Rattle.trace_detect.specs.declared.recording.Recording.{Recording}
use Rattle.trace_detect.specs.Detection.{AnswersLast}
use Rattle.trace_detect.specs.Faults.{fault_of_events}
use Rattle.trace_detect.specs.Reasons.{IsWhySo, KeepsSo, answer_alone}
use Rattle.trace_detect.specs.Recording.{CanRecord, IsRecording, RecordsNext}
use Rattle.trace_detect.specs.Told.{found_told, told_by}
use Rattle.trace_detect.specs.Watcher.{IsWatching}
use Rattle.trace_detect.specs.Watching.{taken_of, watches}
use Rattle.trace_detect.proofs.Detecting.{first_unknown, known_moment, knows_none}
use Rattle.trace_detect.proofs.RunsTaken.{knows_no_runs, tells_runs}
use Rattle.trace_definitely.specs.Logs.{LogRun}
use Rattle.trace_runs.specs.Keeping.{KeepRuns}
use Rattle.trace_runs.specs.Search.{is_known as runs_are_known, watched_by as hosts_with_runs}
use Rattle.trace_detect.specs.declared.run_watcher.RunWatcher.{RunWatcher}
use Rattle.trace_detect.specs.Definite.{DecidesLast, definite_told}
use Rattle.trace_detect.specs.RunWatcher.{CanWatchRuns, HasWatchedRuns, IsWatchingRuns, WatchesRuns}
use Rattle.trace_asking.specs.AnyTwo.{AnswersLastOfTwo}
use Rattle.trace_asking.specs.TwoTold.{pair_told}
use Rattle.trace_asking.specs.declared.question.Question.{Question}
use Rattle.trace_asking.specs.declared.question.Subject.{Subject}
use Rattle.trace_asking.specs.declared.question.Subject.TheVariants.{Hosts, AnyTwo, Definitely}
use Rattle.trace_asking.specs.declared.seeker.PairSeeker.{PairSeeker}
use Rattle.trace_asking.specs.declared.seeker.Seeker.{Seeker}
use Rattle.trace_asking.specs.declared.seeker.Seeker.TheVariants as seeker
use Rattle.trace_asking.specs.Answered.{AnswersOf, StopsOf}
use Rattle.trace_asking.specs.Seeking.{CanSeek, HasSought, IsKnowing, IsKnowingBy, IsSeeking, IsSeekingBy}
use Rattle.trace_asking.specs.Seeking.{IsRecordingYet, IsSeekingTwo, IsWhyOf, KnowsSome, NoneIsKnown, SeeksNext}
use Rattle.trace_asking.specs.Seeking.{SeeksNextBy, SeeksNextOfTwo, TellsKnown, TellsKnownSo, TellsLast, TellsLastSo}

-- Where a search knows no moment, none is known.
pub none_is_known : (question : Question) (logged : List Logged) (seeking : Seeker) → IsSeeking question logged seeking
    → NoneIsKnown question.subject logged
none_is_known question logged seeking is = of question.why question.subject seeking is
  where
    of : (why : Bool) (subject : Subject) (seeking : Seeker) → IsSeekingBy why subject logged seeking
        → NoneIsKnown subject logged
    of why (Hosts conditions) (seeker.Hosts recording) is =
        knows_none conditions.items logged recording.watcher is.is.watching is.none_known
    of why (Hosts conditions) (seeker.AnyTwo pair) is = absurd is
    of why (Hosts conditions) (seeker.Definitely watcher) is = absurd is
    of why (AnyTwo condition) (seeker.Hosts recording) is = absurd is
    of why (AnyTwo condition) (seeker.AnyTwo pair) is =
        none_known_of (names_of condition) (rule_in condition) logged pair.search is.taken
    of why (AnyTwo condition) (seeker.Definitely watcher) is = absurd is
    of why (Definitely conditions) (seeker.Hosts recording) is = absurd is
    of why (Definitely conditions) (seeker.AnyTwo pair) is = absurd is
    of why (Definitely conditions) (seeker.Definitely watcher) is = knows_no_runs conditions.items logged watcher is

-- There is a fault in place of the next event.
pub stops_seeking : {S : Type 0} (story : Story S) (question : Question) (before : List Logged) (last : Option Logged)
    (source : S) (why : EventFault) (seeking : Seeker) → Advances story before (Err why) last source
    → IsSeeking question before seeking → StopsOf story question (fault_of_events why)
stops_seeking story question before last source (events.Log what) seeking fails is =
    record { logged = before; failed = fails; none_known = none_is_known question before seeking is }
stops_seeking story question before last source (events.Forgets what) seeking checks is = checks
stops_seeking story question before last source events.Read seeking fails is = tt
stops_seeking story question before last source events.Memory seeking fails is = tt

-- Before the first event.
pub seeks_hosts : (conditions : List Condition) (why : Bool) (recording : Recording)
    → IsRecording conditions why [] recording → IsRecordingYet conditions why [] recording
seeks_hosts conditions why recording is =
    record { is = is; none_known = first_unknown conditions recording.watcher is.watching }

-- A search can take the next event: one of hosts,
pub hosts_can_take : (recording : Recording) (one : Logged) → CanSeek (seeker.Hosts recording) one
    → CanRecord recording
hosts_can_take recording one can = of can.question.why can.question.subject can.is
  where
    of : (why : Bool) (subject : Subject) → IsSeekingBy why subject can.before (seeker.Hosts recording)
        → CanRecord recording
    of why (Hosts conditions) is = record {
      why = why;
      before = can.before;
      is = subst (λ (cs : List Condition). IsRecording cs why can.before recording) (sym is.is.watching.by) is.is;
      none_known = is.none_known;
      few = can.few;
    }
    of why (AnyTwo condition) is = absurd is
    of why (Definitely conditions) is = absurd is

-- one of any two,
pub two_can_take : (pair : PairSeeker) (one : Logged) → CanSeek (seeker.AnyTwo pair) one → CanTakeMore pair.search one
two_can_take pair one can = of can.question.why can.question.subject can.is
  where
    of : (why : Bool) (subject : Subject) → IsSeekingBy why subject can.before (seeker.AnyTwo pair)
        → CanTakeMore pair.search one
    of why (Hosts conditions) is = absurd is
    of why (AnyTwo condition) is = record {
      pattern = names_of condition;
      rule = rule_in condition;
      logged = can.before;
      taken = is.taken;
      follows = can.follows;
      few = can.few;
    }
    of why (Definitely conditions) is = absurd is

-- and one of runs.
pub runs_can_take : (watcher : RunWatcher) (one : Logged) → CanSeek (seeker.Definitely watcher) one
    → CanWatchRuns watcher
runs_can_take watcher one can = of can.question.why can.question.subject can.is
  where
    of : (why : Bool) (subject : Subject) → IsSeekingBy why subject can.before (seeker.Definitely watcher)
        → CanWatchRuns watcher
    of why (Hosts conditions) is = absurd is
    of why (AnyTwo condition) is = absurd is
    of why (Definitely conditions) is = record {
      before = can.before;
      is = subst (λ (cs : List Condition). IsWatchingRuns cs can.before watcher) (sym is.watching.by) is;
      few = can.few;
    }

-- And it has taken it.
pub hosts_take : (question : Question) (before : List Logged) (one : Logged) (old new : Recording)
    (result : Result Bool AllocError) → IsSeeking question before (seeker.Hosts old)
    → ((conditions : List Condition) (why : Bool) → IsRecording conditions why before old
    → RecordsNext conditions why before one result new)
    → SeeksNext question before one result (seeker.Hosts new)
hosts_take question before one old new result is next = of question.why question.subject result is next
  where
    of : (why : Bool) (subject : Subject) (result : Result Bool AllocError)
        → IsSeekingBy why subject before (seeker.Hosts old)
        → ((conditions : List Condition) (why : Bool) → IsRecording conditions why before old
        → RecordsNext conditions why before one result new)
        → SeeksNextBy why subject before one result (seeker.Hosts new)
    of why (Hosts conditions) (Ok true) is next =
        let taken = next conditions.items why is.is in record { is = taken.0; known = taken.1 }
    of why (Hosts conditions) (Ok false) is next =
        let taken = next conditions.items why is.is in record { is = taken.0; none_known = taken.1 }
    of why (Hosts conditions) (Err _) is next = tt
    of why (AnyTwo condition) result is next = absurd is
    of why (Definitely conditions) result is next = absurd is

pub two_take : (question : Question) (before : List Logged) (one : Logged) (old new : PairSeeker)
    (result : Result Bool AllocError) → IsSeeking question before (seeker.AnyTwo old)
    → ((condition : HostsCondition) → IsSeekingTwo condition before old
    → SeeksNextOfTwo condition before one result new)
    → SeeksNext question before one result (seeker.AnyTwo new)
two_take question before one old new result is next = of question.why question.subject result is next
  where
    of : (why : Bool) (subject : Subject) (result : Result Bool AllocError)
        → IsSeekingBy why subject before (seeker.AnyTwo old)
        → ((condition : HostsCondition) → IsSeekingTwo condition before old
        → SeeksNextOfTwo condition before one result new)
        → SeeksNextBy why subject before one result (seeker.AnyTwo new)
    of why (Hosts conditions) result is next = absurd is
    of why (AnyTwo condition) (Ok true) is next = next condition is
    of why (AnyTwo condition) (Ok false) is next = next condition is
    of why (AnyTwo condition) (Err _) is next = tt
    of why (Definitely conditions) result is next = absurd is

pub runs_take : (question : Question) (before : List Logged) (one : Logged) (old new : RunWatcher)
    (result : Result Bool AllocError) → IsSeeking question before (seeker.Definitely old)
    → ((conditions : List Condition) → IsWatchingRuns conditions before old
    → WatchesRuns conditions before one result new)
    → SeeksNext question before one result (seeker.Definitely new)
runs_take question before one old new result is next = of question.why question.subject result is next
  where
    of : (why : Bool) (subject : Subject) (result : Result Bool AllocError)
        → IsSeekingBy why subject before (seeker.Definitely old)
        → ((conditions : List Condition) → IsWatchingRuns conditions before old
        → WatchesRuns conditions before one result new)
        → SeeksNextBy why subject before one result (seeker.Definitely new)
    of why (Hosts conditions) result is next = absurd is
    of why (AnyTwo condition) result is next = absurd is
    of why (Definitely conditions) (Ok true) is next = next conditions.items is
    of why (Definitely conditions) (Ok false) is next = next conditions.items is
    of why (Definitely conditions) (Err _) is next = tt

-- What a search knows where it knows a moment.
pub hosts_know : (recording : Recording) → KnowsSome (seeker.Hosts recording)
    → (is_known recording.watcher.search ≡ true)
    × (watched_by recording.watcher.search ≡ watches recording.watcher.conditions.now)
hosts_know recording some = of some.question.why some.question.subject some.is
  where
    of : (why : Bool) (subject : Subject) → IsKnowingBy why subject some.logged (seeker.Hosts recording)
        → (is_known recording.watcher.search ≡ true)
        × (watched_by recording.watcher.search ≡ watches recording.watcher.conditions.now)
    of why (Hosts conditions) is = (is.known, is.is.watching.watched ∙ ap watches (sym is.is.watching.by))
    of why (AnyTwo condition) is = absurd is
    of why (Definitely conditions) is = absurd is

pub two_know : (pair : PairSeeker) → KnowsSome (seeker.AnyTwo pair) → (told : PairMoment) × (pair.known ≡ Some told)
two_know pair some = of some.question.why some.question.subject some.is
  where
    of : (why : Bool) (subject : Subject) → IsKnowingBy why subject some.logged (seeker.AnyTwo pair)
        → (told : PairMoment) × (pair.known ≡ Some told)
    of why (Hosts conditions) is = absurd is
    of why (AnyTwo condition) is = (is.told, is.kept)
    of why (Definitely conditions) is = absurd is

pub runs_know : (watcher : RunWatcher) → KnowsSome (seeker.Definitely watcher)
    → (runs_are_known watcher.runs ≡ true) × (hosts_with_runs watcher.runs ≡ watches watcher.watcher.conditions.now)
runs_know watcher some = of some.question.why some.question.subject some.is
  where
    of : (why : Bool) (subject : Subject) → IsKnowingBy why subject some.logged (seeker.Definitely watcher)
        → (runs_are_known watcher.runs ≡ true)
        × (hosts_with_runs watcher.runs ≡ watches watcher.watcher.conditions.now)
    of why (Hosts conditions) is = absurd is
    of why (AnyTwo condition) is = absurd is
    of why (Definitely conditions) is = (is.known, is.watched ∙ ap watches (sym is.watching.by))

-- What is told where the moment is known, and why.
pub hosts_tell : (question : Question) (logged : List Logged) (recording : Recording)
    (result : Result ReasonedAnswer AllocError) → IsKnowing question logged (seeker.Hosts recording)
    → ((moment : ℕ → Logged) → Keeps recording.watcher.search moment
    → IfOk result (λ told. told_by told.answer ≡ found_told recording.watcher.conditions.now moment))
    → ((conditions : List Condition) (why : Bool) (logged : List Logged)
    → KeepsSo why conditions logged recording.history
    → IfOk result (λ told. IsWhySo why conditions logged (string_bytes told.why)))
    → IfOk result (TellsKnownSo question logged)
hosts_tell question logged recording (Err _) knows tells whys = tt
hosts_tell question logged recording (Ok told) knows tells whys =
    let both = of question.why question.subject knows in record { tells = both.0; why = both.1 }
  where
    of : (why : Bool) (subject : Subject) → IsKnowingBy why subject logged (seeker.Hosts recording)
        → TellsKnown subject logged (told_by told.answer) × IsWhyOf why subject logged (string_bytes told.why)
    of why (Hosts conditions) knows =
        let watching = knows.is.watching in
        let taken = taken_of conditions.items logged in
        let found = known_moment taken recording.watcher.search watching.taken knows.known in (
          record {
            moment = found.moment;
            known = subst (λ (w : List HostWatch). IsKnown w taken found.moment) watching.watched found.known;
            tells = tells found.moment found.kept_is
                ∙ ap (λ (cs : List Condition). found_told cs found.moment) watching.by;
          },
          whys conditions.items why logged knows.is.kept,
        )
    of why (AnyTwo condition) knows = absurd knows
    of why (Definitely conditions) knows = absurd knows

-- Where no reasons are given.
known_alone : (question : Question) (logged : List Logged) (found : Result TraceAnswer AllocError)
    (result : Result ReasonedAnswer AllocError) → answer_alone result ≡ found
    → IfOk found (λ answer. TellsKnown question.subject logged (told_by answer))
    → IfOk result (λ told. IsWhyOf question.why question.subject logged (string_bytes told.why))
    → IfOk result (TellsKnownSo question logged)
known_alone question logged found (Ok told) same tells why = record { tells = rw (← same) at tells; why = why }
known_alone question logged found (Err _) same tells why = tt

pub two_tell : (question : Question) (logged : List Logged) (pair : PairSeeker) (found : Result TraceAnswer AllocError)
    (result : Result ReasonedAnswer AllocError) → IsKnowing question logged (seeker.AnyTwo pair)
    → IfOk found (λ told. (known : PairMoment) → pair.known ≡ Some known → told_by told ≡ pair_told known)
    → answer_alone result ≡ found → IfOk result (λ told. string_bytes told.why ≡ [])
    → IfOk result (TellsKnownSo question logged)
two_tell question logged pair found result knows tells same none =
    known_alone question logged found result same (of question.why question.subject found knows tells)
    (whys question.why question.subject result knows none)
  where
    of : (why : Bool) (subject : Subject) (found : Result TraceAnswer AllocError)
        → IsKnowingBy why subject logged (seeker.AnyTwo pair)
        → IfOk found (λ told. (known : PairMoment) → pair.known ≡ Some known → told_by told ≡ pair_told known)
        → IfOk found (λ answer. TellsKnown subject logged (told_by answer))
    of why (Hosts conditions) found knows tells = absurd knows
    of why (AnyTwo condition) (Ok told) knows tells =
        record { moment = knows.told; known = knows.known; tells = tells knows.told knows.kept }
    of why (AnyTwo condition) (Err _) knows tells = tt
    of why (Definitely conditions) found knows tells = absurd knows

    whys : (why : Bool) (subject : Subject) (result : Result ReasonedAnswer AllocError)
        → IsKnowingBy why subject logged (seeker.AnyTwo pair) → IfOk result (λ told. string_bytes told.why ≡ [])
        → IfOk result (λ told. IsWhyOf why subject logged (string_bytes told.why))
    whys why (Hosts conditions) result knows none = absurd knows
    whys why (AnyTwo condition) result knows none = none
    whys why (Definitely conditions) result knows none = absurd knows

pub runs_tell : (question : Question) (logged : List Logged) (watcher : RunWatcher)
    (found : Result TraceAnswer AllocError) (result : Result ReasonedAnswer AllocError)
    → IsKnowing question logged (seeker.Definitely watcher)
    → ((runs : ℕ → LogRun) → KeepRuns watcher.runs.queues.items runs
    → IfOk found (λ told. told_by told ≡ definite_told watcher.watcher.conditions.now runs))
    → answer_alone result ≡ found → IfOk result (λ told. string_bytes told.why ≡ [])
    → IfOk result (TellsKnownSo question logged)
runs_tell question logged watcher found result knows tells same none =
    known_alone question logged found result same (of question.why question.subject found knows tells)
    (whys question.why question.subject result knows none)
  where
    of : (why : Bool) (subject : Subject) (found : Result TraceAnswer AllocError)
        → IsKnowingBy why subject logged (seeker.Definitely watcher)
        → ((runs : ℕ → LogRun) → KeepRuns watcher.runs.queues.items runs
        → IfOk found (λ told. told_by told ≡ definite_told watcher.watcher.conditions.now runs))
        → IfOk found (λ answer. TellsKnown subject logged (told_by answer))
    of why (Hosts conditions) found knows tells = absurd knows
    of why (AnyTwo condition) found knows tells = absurd knows
    of why (Definitely conditions) (Ok told) knows tells =
        tells_runs conditions.items logged watcher (told_by told) knows tells
    of why (Definitely conditions) (Err _) knows tells = tt

    whys : (why : Bool) (subject : Subject) (result : Result ReasonedAnswer AllocError)
        → IsKnowingBy why subject logged (seeker.Definitely watcher) → IfOk result (λ told. string_bytes told.why ≡ [])
        → IfOk result (λ told. IsWhyOf why subject logged (string_bytes told.why))
    whys why (Hosts conditions) result knows none = absurd knows
    whys why (AnyTwo condition) result knows none = absurd knows
    whys why (Definitely conditions) result knows none = none

-- What a search has at the end of the log.
pub hosts_sought : (recording : Recording) → HasSought (seeker.Hosts recording)
    → (length recording.watcher.judges.items ≡ length recording.watcher.conditions.now)
    × (watched_by recording.watcher.search ≡ watches recording.watcher.conditions.now)
hosts_sought recording some = of some.question.why some.question.subject some.is
  where
    of : (why : Bool) (subject : Subject) → IsSeekingBy why subject some.logged (seeker.Hosts recording)
        → (length recording.watcher.judges.items ≡ length recording.watcher.conditions.now)
        × (watched_by recording.watcher.search ≡ watches recording.watcher.conditions.now)
    of why (Hosts conditions) is = (
      is.is.watching.judges.as_many ∙ ap length (sym is.is.watching.by),
      is.is.watching.watched ∙ ap watches (sym is.is.watching.by),
    )
    of why (AnyTwo condition) is = absurd is
    of why (Definitely conditions) is = absurd is

pub two_sought : (pair : PairSeeker) → HasSought (seeker.AnyTwo pair) → HasTakenSome pair.search
two_sought pair some = of some.question.why some.question.subject some.is
  where
    of : (why : Bool) (subject : Subject) → IsSeekingBy why subject some.logged (seeker.AnyTwo pair)
        → HasTakenSome pair.search
    of why (Hosts conditions) is = absurd is
    of why (AnyTwo condition) is = record {
      pattern = names_of condition;
      rule = rule_in condition;
      logged = some.logged;
      taken = is.taken;
    }
    of why (Definitely conditions) is = absurd is

pub runs_sought : (watcher : RunWatcher) → HasSought (seeker.Definitely watcher) → HasWatchedRuns watcher
runs_sought watcher some = of some.question.why some.question.subject some.is
  where
    of : (why : Bool) (subject : Subject) → IsSeekingBy why subject some.logged (seeker.Definitely watcher)
        → HasWatchedRuns watcher
    of why (Hosts conditions) is = absurd is
    of why (AnyTwo condition) is = absurd is
    of why (Definitely conditions) is = record { conditions = conditions.items; logged = some.logged; is = is }

-- What is told at the end of the log, and why.
pub hosts_last : (question : Question) (logged : List Logged) (recording : Recording)
    (result : Result ReasonedAnswer DetectFault) → IsSeeking question logged (seeker.Hosts recording)
    → ((conditions : List Condition) (logged : List Logged) → IsWatching conditions logged recording.watcher
    → AnswersLast conditions logged (answer_alone result))
    → ((conditions : List Condition) (why : Bool) (logged : List Logged)
    → KeepsSo why conditions logged recording.history
    → IfOk result (λ told. IsWhySo why conditions logged (string_bytes told.why)))
    → TellsLastSo question logged result
hosts_last question logged recording result is last whys =
    let both = of question.why question.subject is in record { tells = both.0; why = both.1 }
  where
    of : (why : Bool) (subject : Subject) → IsSeekingBy why subject logged (seeker.Hosts recording)
        → TellsLast subject logged (answer_alone result)
        × IfOk result (λ told. IsWhyOf why subject logged (string_bytes told.why))
    of why (Hosts conditions) is =
        (last conditions.items logged is.is.watching, whys conditions.items why logged is.is.kept)
    of why (AnyTwo condition) is = absurd is
    of why (Definitely conditions) is = absurd is

pub two_last : (question : Question) (logged : List Logged) (pair : PairSeeker)
    (found : Result TraceAnswer DetectFault) (result : Result ReasonedAnswer DetectFault)
    → IsSeeking question logged (seeker.AnyTwo pair)
    → (HasTakenLog (names_of pair.condition.now) (rule_in pair.condition.now) logged pair.search
    → AnswersLastOfTwo pair.condition.now logged found) → answer_alone result ≡ found
    → IfOk result (λ told. string_bytes told.why ≡ []) → TellsLastSo question logged result
two_last question logged pair found result is last same none =
    let both = of question.why question.subject is in record { tells = both.0; why = both.1 }
  where
    of : (why : Bool) (subject : Subject) → IsSeekingBy why subject logged (seeker.AnyTwo pair)
        → TellsLast subject logged (answer_alone result)
        × IfOk result (λ told. IsWhyOf why subject logged (string_bytes told.why))
    of why (Hosts conditions) is = absurd is
    of why (AnyTwo condition) is = (
      rw same (subst (λ (c : HostsCondition). AnswersLastOfTwo c logged found) is.by
          (last (subst (λ (c : HostsCondition). HasTakenLog (names_of c) (rule_in c) logged pair.search) (sym is.by)
          is.taken))),
      none,
    )
    of why (Definitely conditions) is = absurd is

pub runs_last : (question : Question) (logged : List Logged) (watcher : RunWatcher)
    (found : Result TraceAnswer DetectFault) (result : Result ReasonedAnswer DetectFault)
    → IsSeeking question logged (seeker.Definitely watcher)
    → ((conditions : List Condition) (logged : List Logged) → IsWatchingRuns conditions logged watcher
    → DecidesLast conditions logged found) → answer_alone result ≡ found
    → IfOk result (λ told. string_bytes told.why ≡ []) → TellsLastSo question logged result
runs_last question logged watcher found result is last same none =
    let both = of question.why question.subject is in record { tells = both.0; why = both.1 }
  where
    of : (why : Bool) (subject : Subject) → IsSeekingBy why subject logged (seeker.Definitely watcher)
        → TellsLast subject logged (answer_alone result)
        × IfOk result (λ told. IsWhyOf why subject logged (string_bytes told.why))
    of why (Hosts conditions) is = absurd is
    of why (AnyTwo condition) is = absurd is
    of why (Definitely conditions) is = (rw same (last conditions.items logged is), none)

-- The end of a log has no fault.
no_fault_last : (subject : Subject) (logged : List Logged) (what : LogFault)
    → TellsLast subject logged (Err (fault.Log what)) → ⊥
no_fault_last (Hosts conditions) logged what tells = tells
no_fault_last (AnyTwo condition) logged what tells = tells
no_fault_last (Definitely conditions) logged what tells = tells

no_lapse_last : (subject : Subject) (logged : List Logged) (what : Forgotten)
    → TellsLast subject logged (Err (fault.Forgets what)) → ⊥
no_lapse_last (Hosts conditions) logged what tells = tells
no_lapse_last (AnyTwo condition) logged what tells = tells
no_lapse_last (Definitely conditions) logged what tells = tells

-- What is answered there.
pub last_answers : {S : Type 0} (story : Story S) (question : Question) (source : S) (logged : List Logged)
    (result : Result ReasonedAnswer DetectFault) → story.ended logged source → NoneIsKnown question.subject logged
    → TellsLastSo question logged result → AnswersOf story question source result
last_answers story question source logged (Ok answer) ended none tells =
    inr (record { logged = logged; ended = ended; none_known = none; tells = tells })
last_answers story question source logged (Err (fault.NoHost named)) ended none tells =
    record { logged = logged; ended = ended; none_known = none; tells = tells }
last_answers story question source logged (Err fault.Memory) ended none tells = tt
last_answers story question source logged (Err fault.Read) ended none tells = tt
last_answers story question source logged (Err (fault.Log what)) ended none tells =
    absurd (no_fault_last question.subject logged what tells.tells)
last_answers story question source logged (Err (fault.Forgets what)) ended none tells =
    absurd (no_lapse_last question.subject logged what tells.tells)
