-- What a history keeps, with one event of the log more, and why an answer stands by it.
use Rattle.trace_detect.proofs.Words.{◌≡◌, ◌∙◌, ℕ, ◌<◌, Bool, true, false, List, [], ◌∷◌, ◌++◌, Option, Some, None}
use Rattle.trace_detect.proofs.Words.{Result, Ok, Err, length, sym, subst, ap, arith, length-map, Logged, FollowsIn}
use Rattle.trace_detect.proofs.Words.{Taken, HostWatch, IsNextAt, Condition, watches, watch_of, condition_at, taken_of}
use Rattle.trace_detect.proofs.Words.{IsPlace, JudgesOneAt, Judged, Watcher, IsWatching, WatchesNext}
use Rattle.std.proofs.Common.{String, Global}
use Rattle.std.specs.Prelude.{IfOk, IfSome, string_bytes}
use Rattle.std.specs.Result.{IsErr, IsErrAnd}
use Rattle.std.specs.declared.alloc.AllocError.{AllocError}
use Rattle.std.proofs.lemmas.Result.{err_from_is_err_and}
use Rattle.trace_explain.specs.declared.history.History.{History}
use Rattle.trace_explain.specs.declared.reason.Explanation.{Explanation}
use Rattle.trace_explain.specs.Reasons.{Explains}
use Rattle.trace_explain.specs.Texts.{explanation_text}
use Rattle.trace_explain.specs.Views.{watched_by, Remembers}
use Rattle.trace_detect.specs.declared.answer.ReasonedAnswer.{ReasonedAnswer}
use Rattle.trace_detect.specs.declared.fault.DetectFault.{DetectFault}
use Rattle.trace_detect.specs.declared.recording.Recording.{Recording}
use Rattle.trace_detect.specs.Detection.{AnswersLast}
use Rattle.trace_detect.specs.Reasons.{HasRecorded, IsWhy, IsWhySo, KeepsSo, TookSo, answer_alone}
use Rattle.trace_detect.specs.Recording.{RecordsNext}
use Rattle.trace_detect.proofs.NextTaken.{next_at, taken_one}
use Rattle.trace_detect.proofs.Watches.{none_taken, taken_over}

pub recorded-none : (conditions : List Condition) (history : History) → watched_by history ≡ watches conditions
    → Remembers [] history → HasRecorded conditions [] history
recorded-none conditions history watched remembers = record {
  watched = watched;
  remembers = subst (λ (taken : List Taken). Remembers taken history) (sym (none_taken conditions)) remembers;
}

-- An event of a host without a condition.
pub recorded-over : (conditions : List Condition) (before : List Logged) (one : Logged) (history : History)
    → HasRecorded conditions before history → condition_at one.event.host conditions ≡ None
    → HasRecorded conditions (before ++ one ∷ []) history
recorded-over conditions before one history recorded none = record {
  watched = recorded.watched;
  remembers = subst (λ (taken : List Taken). Remembers taken history) (taken_over conditions before one none)
      recorded.remembers;
}

pub place-within : (conditions : List Condition) (logged : List Logged) (history : History) (place : ℕ)
    → HasRecorded conditions logged history → place < length conditions → place < length (watched_by history)
place-within conditions logged history place recorded within =
    rw (recorded.watched, length-map conditions watch_of) within

recorded-place : (conditions : List Condition) (before : List Logged) (one : Logged) (place : ℕ) (c : Condition)
    (old : Watcher) (judges : List Judged) (holds : Bool) (history new : History) → IsWatching conditions before old
    → FollowsIn before one.event → IsPlace one.event.host conditions place
    → JudgesOneAt place old.judges.items one.event.text holds judges → HasRecorded conditions before history
    → watched_by new ≡ watched_by history → ((taken : List Taken) → Remembers taken history
    → IsNextAt (watched_by history) place taken one
    → Remembers (taken ++ record { logged = one; holds = holds } ∷ []) new)
    → HasRecorded conditions (before ++ one ∷ []) new
recorded-place conditions before one place c old judges holds history new watching follow is_place judged recorded same
    keeps = record {
      watched = same ∙ recorded.watched;
      remembers = subst (λ (taken : List Taken). Remembers taken new)
          (taken_one conditions None before one place c old watching follow is_place judges holds judged)
          (keeps (taken_of conditions before) recorded.remembers
          (subst (λ (watched : List HostWatch). IsNextAt watched place (taken_of conditions before) one)
          (watching.watched ∙ sym recorded.watched)
          (next_at conditions None before one place c old watching follow is_place)));
    }

pub recorded-next : (conditions : List Condition) (before : List Logged) (one : Logged) (place : ℕ) (old : Watcher)
    (judges : List Judged) (holds : Bool) (history new : History) → IsWatching conditions before old
    → FollowsIn before one.event → IsPlace one.event.host conditions place
    → JudgesOneAt place old.judges.items one.event.text holds judges → HasRecorded conditions before history
    → watched_by new ≡ watched_by history → ((taken : List Taken) → Remembers taken history
    → IsNextAt (watched_by history) place taken one
    → Remembers (taken ++ record { logged = one; holds = holds } ∷ []) new)
    → HasRecorded conditions (before ++ one ∷ []) new
recorded-next [] before one place old judges holds history new watching follow is_place judged recorded same keeps =
    absurd (omega (arith, is_place.within))
recorded-next (first ∷ others) before one place old judges holds history new watching follow is_place judged recorded
    same keeps =
    recorded-place (first ∷ others) before one place first old judges holds history new watching follow is_place judged
    recorded same keeps

-- Where reasons are asked for, and where they aren't.
pub kept-over : (why : Bool) (conditions : List Condition) (before : List Logged) (one : Logged)
    (history : Option History) → KeepsSo why conditions before history → condition_at one.event.host conditions ≡ None
    → KeepsSo why conditions (before ++ one ∷ []) history
kept-over true conditions before one (Some history) kept none = recorded-over conditions before one history kept none
kept-over true conditions before one None kept none = absurd kept
kept-over false conditions before one (Some history) kept none = absurd kept
kept-over false conditions before one None kept none = tt

pub kept-within : (why : Bool) (conditions : List Condition) (logged : List Logged) (history : Option History)
    (place : ℕ) → KeepsSo why conditions logged history → place < length conditions
    → IfSome history (λ kept. place < length (watched_by kept))
kept-within true conditions logged (Some history) place kept within =
    place-within conditions logged history place kept within
kept-within true conditions logged None place kept within = tt
kept-within false conditions logged (Some history) place kept within = absurd kept
kept-within false conditions logged None place kept within = tt

pub kept-next : (why : Bool) (conditions : List Condition) (before : List Logged) (one : Logged) (place : ℕ)
    (old : Watcher) (judges : List Judged) (holds : Bool) (history new : Option History)
    → IsWatching conditions before old → FollowsIn before one.event → IsPlace one.event.host conditions place
    → JudgesOneAt place old.judges.items one.event.text holds judges → KeepsSo why conditions before history
    → TookSo place (record { logged = one; holds = holds }) history new
    → KeepsSo why conditions (before ++ one ∷ []) new
kept-next true conditions before one place old judges holds (Some history) (Some new) watching follow is_place judged
    kept took =
    recorded-next conditions before one place old judges holds history new watching follow is_place judged kept
    took.watched took.remembers
kept-next true conditions before one place old judges holds (Some history) None watching follow is_place judged kept
    took = absurd took
kept-next true conditions before one place old judges holds None new watching follow is_place judged kept took =
    absurd kept
kept-next false conditions before one place old judges holds (Some history) new watching follow is_place judged kept
    took = absurd kept
kept-next false conditions before one place old judges holds None (Some new) watching follow is_place judged kept
    took = absurd took
kept-next false conditions before one place old judges holds None None watching follow is_place judged kept took = tt

-- What the watcher and the history took next.
pub records-next : (conditions : List Condition) (why : Bool) (before : List Logged) (one : Logged)
    (result : Result Bool AllocError) (recording : Recording)
    → WatchesNext conditions None before one result recording.watcher
    → KeepsSo why conditions (before ++ one ∷ []) recording.history
    → RecordsNext conditions why before one result recording
records-next conditions why before one (Ok known) recording watches kept =
    (record { watching = watches.0; kept = kept }, watches.1)
records-next conditions why before one (Err _) recording watches kept = tt

-- The text of an explanation says why.
pub why-of : (conditions : List Condition) (logged : List Logged) (history : History) (explanation : Explanation)
    (result : Result (String Global) AllocError) → HasRecorded conditions logged history
    → ((taken : List Taken) → Remembers taken history → Explains (watched_by history) taken explanation)
    → IfOk result (λ text. string_bytes text ≡ explanation_text (watched_by history) explanation)
    → IfOk result (λ text. IsWhy conditions logged (string_bytes text))
why-of conditions logged history explanation (Ok text) recorded explains is = record {
  explanation = explanation;
  explains = subst (λ (watched : List HostWatch). Explains watched (taken_of conditions logged) explanation)
      recorded.watched (explains (taken_of conditions logged) recorded.remembers);
  printed = is ∙ ap (λ (watched : List HostWatch). explanation_text watched explanation) recorded.watched;
}
why-of conditions logged history explanation (Err _) recorded explains is = tt

-- A fault at the end of the log is answered.
pub last-fault : (conditions : List Condition) (logged : List Logged) (result : Result ReasonedAnswer DetectFault)
    (given : DetectFault) → IsErr result × IsErrAnd result (λ fault. fault ≡ given)
    → AnswersLast conditions logged (Err given) → AnswersLast conditions logged (answer_alone result)
last-fault conditions logged result given back answers =
    let handed = err_from_is_err_and result back.1 in
    rw (handed.1, handed.2) answers

-- Where no history is kept no reasons are asked for.
pub no-why : (why : Bool) (conditions : List Condition) (logged : List Logged) (history : Option History)
    (text : List ℕ) → history ≡ None → KeepsSo why conditions logged history → text ≡ []
    → IsWhySo why conditions logged text
no-why true conditions logged history text is kept empty = absurd (rw is at kept)
no-why false conditions logged history text is kept empty = empty

-- And where one is, they are.
pub why-of-some : (why : Bool) (conditions : List Condition) (logged : List Logged) (kept : Option History)
    (history : History) (explanation : Explanation) (result : Result (String Global) AllocError) → kept ≡ Some history
    → KeepsSo why conditions logged kept
    → ((taken : List Taken) → Remembers taken history → Explains (watched_by history) taken explanation)
    → IfOk result (λ text. string_bytes text ≡ explanation_text (watched_by history) explanation)
    → IfOk result (λ text. IsWhySo why conditions logged (string_bytes text))
why-of-some true conditions logged kept history explanation result same is explains printed =
    why-of conditions logged history explanation result (rw same at is) explains printed
why-of-some false conditions logged kept history explanation result same is explains printed = absurd (rw same at is)
