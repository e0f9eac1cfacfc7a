-- What a search for runs takes of the events of a log, and what is told of it.
use Rattle.trace_detect.proofs.Words.{◌≡◌, ◌∙◌, ◌+◌, ◌<◌, ◌≤◌, ℕ, Bool, true, false, List, [], ◌∷◌, ◌++◌, Result, Ok, Err}
use Rattle.trace_detect.proofs.Words.{None, length, map, drop, sym, ap, subst, arith, append_assoc}
use Rattle.trace_detect.proofs.Words.{append-nil, map-append, slice_index_or, Logged, FollowsIn, Taken, HostWatch}
use Rattle.trace_detect.proofs.Words.{IsNextAt, Condition, host_of, watches, condition_at, taken_of, IsPlace}
use Rattle.trace_detect.proofs.Words.{JudgesOneAt, Judged, Watcher, IsWatching, WatchesNext}
use Rattle.std.specs.Prelude.{IsFalse, MatchBool, map}
use Rattle.std.proofs.Math.ListN.{drop_of_length-le}
use Rattle.std.specs.declared.alloc.AllocError.{AllocError}
use Rattle.trace_moment.specs.declared.search.Search.{Search}
use Rattle.trace_moment.specs.Moment.{IsEarliest}
use Rattle.trace_moment.specs.Standing.{HasNoMoment}
use Rattle.trace_moment.specs.Search.{Keeps, watched_by as watched_for_moments}
use Rattle.trace_definitely.specs.Logs.{LogRun}
use Rattle.trace_runs.specs.declared.search.RunSearch.{RunSearch}
use Rattle.trace_runs.specs.Keeping.{KeepRuns, KeepTaken}
use Rattle.trace_runs.specs.Runs.{AreLeastIn, HasNoRuns, NoneAreKnown}
use Rattle.trace_runs.specs.Search.{HasTaken, KeepsAtEnd, KeepsKnown, KnowsNext, TakesNext, is_known, watched_by}
use Rattle.trace_detect.specs.declared.answer.HostRun.{HostRun}
use Rattle.trace_detect.specs.declared.answer.TraceAnswer.{TraceAnswer}
use Rattle.trace_detect.specs.declared.fault.DetectFault.{DetectFault}
use Rattle.trace_detect.specs.declared.fault.DetectFault.TheVariants as fault
use Rattle.trace_detect.specs.declared.run_watcher.RunWatcher.{RunWatcher}
use Rattle.trace_detect.specs.Definite.{DecidesLast, Definite, IsLastDecision, KnowsNoRuns, NoMoment, Possible, TellsRuns}
use Rattle.trace_detect.specs.Definite.{definite_told, possible_told, run_of, runs_from}
use Rattle.trace_detect.specs.Detection.{AnswersLast, IsLastAnswer, Found, NoMoment as NoMomentAlone}
use Rattle.trace_detect.specs.RunWatcher.{IsWatchingRuns, KnowsRuns, WatchesRuns}
use Rattle.trace_detect.specs.Told.{Told, ToldRun, seen_run, told_by}
use Rattle.trace_detect.proofs.Detecting.{EndsWith}
use Rattle.trace_detect.proofs.NextTaken.{next_at, taken_one}
use Rattle.trace_detect.proofs.Telling.{drop_next}
use Rattle.trace_detect.proofs.Watches.{none_taken, passes_over, taken_over}

-- Nothing was taken yet.
pub runs-none : (conditions : List Condition) (search : RunSearch) → HasTaken [] search
    → HasTaken (taken_of conditions []) search
runs-none conditions search had = subst (λ (taken : List Taken). HasTaken taken search) (sym (none_taken conditions)) had

-- An event of a host without a condition.
pub runs-over : (conditions : List Condition) (before : List Logged) (one : Logged) (watcher : RunWatcher)
    → IsWatchingRuns conditions before watcher → condition_at one.event.host conditions ≡ None
    → IsWatchingRuns conditions (before ++ one ∷ []) watcher
runs-over conditions before one watcher is none = record {
  watching = passes_over conditions None before one watcher.watcher is.watching none;
  watched = is.watched;
  taken = subst (λ (taken : List Taken). HasTaken taken watcher.runs) (taken_over conditions before one none) is.taken;
  none_known = is.none_known;
}

-- The next event of a host with a condition.
module _ (conditions : List Condition) (before : List Logged) (one : Logged) (place : ℕ) (old : Watcher)
    (judges : List Judged) (holds : Bool) (runs : RunSearch) (new : RunWatcher) (watching : IsWatching conditions before old)
    (follow : FollowsIn before one.event) (is_place : IsPlace one.event.host conditions place)
    (judged : JudgesOneAt place old.judges.items one.event.text holds judges)
    (watched : watched_by runs ≡ watches conditions) (had : HasTaken (taken_of conditions before) runs)
    (unknown : is_known runs ≡ false) (same : watched_by new.runs ≡ watched_by runs) where
  runs-place : (c : Condition) (answer : Result Bool AllocError)
      → ((taken : List Taken) → HasTaken taken runs → IsNextAt (watched_by runs) place taken one
      → TakesNext taken (record { logged = one; holds = holds }) answer new.runs)
      → ((taken : List Taken) → HasTaken taken runs → IsFalse (is_known runs)
      → IsNextAt (watched_by runs) place taken one
      → KnowsNext taken (record { logged = one; holds = holds }) answer new.runs)
      → IsWatching conditions (before ++ one ∷ []) new.watcher → WatchesRuns conditions before one answer new
  runs-place c (Err _) takes knows after = tt
  runs-place c (Ok true) takes knows after =
      let next = subst (λ (w : List HostWatch). IsNextAt w place (taken_of conditions before) one)
      (watching.watched ∙ sym watched) (next_at conditions None before one place c old watching follow is_place) in
      let taken_is = taken_one conditions None before one place c old watching follow is_place judges holds judged in
      record {
        watching = after;
        watched = same ∙ watched;
        keeps = subst (λ (taken : List Taken). KeepsKnown taken new.runs) taken_is
            (knows (taken_of conditions before) had unknown next);
        known = (takes (taken_of conditions before) had next).1;
      }
  runs-place c (Ok false) takes knows after =
      let next = subst (λ (w : List HostWatch). IsNextAt w place (taken_of conditions before) one)
      (watching.watched ∙ sym watched) (next_at conditions None before one place c old watching follow is_place) in
      let taken_is = taken_one conditions None before one place c old watching follow is_place judges holds judged in
      record {
        watching = after;
        watched = same ∙ watched;
        taken = subst (λ (taken : List Taken). HasTaken taken new.runs) taken_is
            (takes (taken_of conditions before) had next).0;
        none_known = (takes (taken_of conditions before) had next).1;
      }

pub any_condition : (conditions : List Condition) (place : ℕ) → place < length conditions → Condition
any_condition [] place within = absurd (omega (arith, within))
any_condition (condition ∷ conditions) place within = condition

pub runs-next : (conditions : List Condition) (before : List Logged) (one : Logged) (place : ℕ) (old : Watcher)
    (judges : List Judged) (holds : Bool) (runs : RunSearch) (new : RunWatcher) → IsWatching conditions before old
    → FollowsIn before one.event → (is_place : IsPlace one.event.host conditions place)
    → JudgesOneAt place old.judges.items one.event.text holds judges
    → watched_by runs ≡ watches conditions → HasTaken (taken_of conditions before) runs → is_known runs ≡ false
    → watched_by new.runs ≡ watched_by runs → (answer : Result Bool AllocError)
    → ((taken : List Taken) → HasTaken taken runs → IsNextAt (watched_by runs) place taken one
    → TakesNext taken (record { logged = one; holds = holds }) answer new.runs)
    → ((taken : List Taken) → HasTaken taken runs → IsFalse (is_known runs)
    → IsNextAt (watched_by runs) place taken one
    → KnowsNext taken (record { logged = one; holds = holds }) answer new.runs)
    → (known : Bool) → WatchesNext conditions None before one (Ok known) new.watcher
    → WatchesRuns conditions before one answer new
runs-next conditions before one place old judges holds runs new watching follow is_place judged watched had unknown same
    answer takes knows known after =
    runs-place conditions before one place old judges holds runs new watching follow is_place judged watched had unknown
    same (any_condition conditions place is_place.within) answer takes knows after.0

-- Where it knows none, none is known.
pub knows_no_runs : (conditions : List Condition) (logged : List Logged) (watcher : RunWatcher)
    → IsWatchingRuns conditions logged watcher → KnowsNoRuns conditions logged
knows_no_runs conditions logged watcher is =
    let had : KeepTaken (taken_of conditions logged) watcher.runs.queues.items false =
    subst (λ (known : Bool). KeepTaken (taken_of conditions logged) watcher.runs.queues.items known) is.none_known
    is.taken in
    subst (λ (w : List HostWatch). NoneAreKnown w (taken_of conditions logged)) is.watched had.none_known

-- Where it knows some, they are told.
pub tells_runs : (conditions : List Condition) (logged : List Logged) (watcher : RunWatcher) (told : Told)
    → (is : KnowsRuns conditions logged watcher)
    → ((runs : ℕ → LogRun) → KeepRuns watcher.runs.queues.items runs
    → told ≡ definite_told watcher.watcher.conditions.now runs) → TellsRuns conditions logged told
tells_runs conditions logged watcher told is tells = record {
  runs = is.keeps.runs;
  known = rw (sym is.watched) is.keeps.known;
  tells = tells is.keeps.runs is.keeps.are
      ∙ ap (λ (cs : List Condition). definite_told cs is.keeps.runs) is.watching.by;
}

-- One run more was told.
pub runs_next : (items more : List HostRun) (one : HostRun) (conditions : List Condition) (place : ℕ) (c : Condition)
    (runs : ℕ → LogRun) (whole : List ToldRun) → place < length conditions → more ≡ items ++ one ∷ []
    → c ≡ slice_index_or conditions place c → seen_run one ≡ run_of (host_of c) (runs place)
    → map seen_run items ++ runs_from place (drop place conditions) runs ≡ whole
    → map seen_run more ++ runs_from (place + 1) (drop (place + 1) conditions) runs ≡ whole
runs_next items more one conditions place c runs whole within pushed at is so_far =
    ap (λ (l : List HostRun). map seen_run l ++ runs_from (place + 1) (drop (place + 1) conditions) runs) pushed
    ∙ ap (λ (l : List ToldRun). l ++ runs_from (place + 1) (drop (place + 1) conditions) runs)
    (map-append seen_run items (one ∷ []) ∙ ap (λ (m : ToldRun). map seen_run items ++ m ∷ [])
    (is ∙ ap (λ (those : Condition). run_of (host_of those) (runs place)) at))
    ∙ append_assoc (map seen_run items) (run_of (host_of (slice_index_or conditions place c)) (runs place) ∷ [])
    (runs_from (place + 1) (drop (place + 1) conditions) runs)
    ∙ ap (λ l. map seen_run items ++ l) (sym (ap (λ l. runs_from place l runs) (drop_next conditions place c within)))
    ∙ so_far

pub runs_whole : (told : List ToldRun) (conditions : List Condition) (place : ℕ) (runs : ℕ → LogRun)
    (whole : List ToldRun) → length conditions ≤ place → told ++ runs_from place (drop place conditions) runs ≡ whole
    → told ≡ whole
runs_whole told conditions place runs whole all so_far =
    sym (append-nil told) ∙ ap (λ l. told ++ runs_from place l runs) (sym (drop_of_length-le conditions all)) ∙ so_far

-- The log has ended: runs overlap.
abbrev pub EndsRuns : Bool → RunSearch → RunSearch → Type 0
EndsRuns known old new = (taken : List Taken) → HasTaken taken old
    → MatchBool known (KeepsAtEnd (is_known old) taken new) (HasNoRuns (watched_by new) taken)

pub last_definite : (conditions : List Condition) (logged : List Logged) (watcher : RunWatcher) (new : RunSearch)
    (known : Bool) (told : Told) → IsWatchingRuns conditions logged watcher → EndsRuns known watcher.runs new
    → known ≡ true → watched_by new ≡ watched_by watcher.runs
    → ((runs : ℕ → LogRun) → KeepRuns new.queues.items runs
    → told ≡ definite_told watcher.watcher.conditions.now runs) → IsLastDecision conditions logged told
last_definite conditions logged watcher new true told is ends at same tells =
    let kept = subst (λ (b : Bool). KeepsAtEnd b (taken_of conditions logged) new) is.none_known
    (ends (taken_of conditions logged) is.taken) in
    Definite kept.runs (subst (λ (w : List HostWatch). AreLeastIn w (taken_of conditions logged) kept.runs)
    (same ∙ is.watched) kept.least)
    (tells kept.runs kept.are ∙ ap (λ (cs : List Condition). definite_told cs kept.runs) is.watching.by)
last_definite conditions logged watcher new false told is ends at same tells = absurd (cc)

-- None do.
pub no_runs_last : (conditions : List Condition) (logged : List Logged) (watcher : RunWatcher) (new : RunSearch)
    (known : Bool) → IsWatchingRuns conditions logged watcher → EndsRuns known watcher.runs new → known ≡ false
    → watched_by new ≡ watched_by watcher.runs → HasNoRuns (watches conditions) (taken_of conditions logged)
no_runs_last conditions logged watcher new true is ends at same = absurd (cc)
no_runs_last conditions logged watcher new false is ends at same =
    subst (λ (w : List HostWatch). HasNoRuns w (taken_of conditions logged)) (same ∙ is.watched)
    (ends (taken_of conditions logged) is.taken)

-- They could have overlapped.
pub last_possible : (conditions : List Condition) (logged : List Logged) (watcher : Watcher) (new : Search)
    (known : Bool) (told : Told) → HasNoRuns (watches conditions) (taken_of conditions logged)
    → IsWatching conditions logged watcher → EndsWith known watcher.search new → known ≡ true
    → watched_for_moments new ≡ watched_for_moments watcher.search
    → ((moment : ℕ → Logged) → Keeps new moment → told ≡ possible_told watcher.conditions.now moment)
    → IsLastDecision conditions logged told
last_possible conditions logged watcher new true told no_runs watching ends is same tells =
    let found = ends (taken_of conditions logged) watching.taken in
    Possible no_runs found.moment
    (subst (λ (w : List HostWatch). IsEarliest w (taken_of conditions logged) found.moment)
    (same ∙ watching.watched) found.earliest)
    (tells found.moment found.kept_is ∙ ap (λ (cs : List Condition). possible_told cs found.moment) watching.by)
last_possible conditions logged watcher new false told no_runs watching ends is same tells = absurd (cc)

-- There is no moment either.
pub last_none : (conditions : List Condition) (logged : List Logged) (result : Result TraceAnswer DetectFault)
    → HasNoRuns (watches conditions) (taken_of conditions logged)
    → HasNoMoment (watches conditions) (taken_of conditions logged) → AnswersLast conditions logged result
    → DecidesLast conditions logged result
last_none conditions logged (Ok answer) no_runs no_moment answers = of answers
  where
    of : IsLastAnswer conditions logged (told_by answer) → IsLastDecision conditions logged (told_by answer)
    of (Found moment earliest tells) = absurd (no_moment moment earliest.one)
    of (NoMomentAlone none all tells) = NoMoment no_runs none all tells
last_none conditions logged (Err (fault.Log what)) no_runs no_moment answers = absurd answers
last_none conditions logged (Err (fault.NoHost host)) no_runs no_moment answers = answers
last_none conditions logged (Err (fault.Forgets what)) no_runs no_moment answers = absurd answers
last_none conditions logged (Err fault.Read) no_runs no_moment answers = absurd answers
last_none conditions logged (Err fault.Memory) no_runs no_moment answers = answers
