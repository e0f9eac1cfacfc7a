-- What a watcher knows, and what it answers at the end.
use Rattle.trace_detect.proofs.Words.{◌≡◌, ◌∙◌, ◌<◌, ℕ, Bool, true, false, List, [], Option}
use Rattle.trace_detect.proofs.Words.{length, length-map, refl, ap, subst, arith}
use Rattle.trace_detect.proofs.Words.{Logged, Taken, HostWatch, HasTaken, watched_by, is_known, Condition, Watcher}
use Rattle.trace_detect.proofs.Words.{sym, taken_of, watch_of, watches}
use Rattle.trace_detect.proofs.Words.{IsWatching, host_of, slice_index_or}
use Rattle.std.proofs.lemmas.List.{get_or_default}
use Rattle.std.specs.Prelude.{MatchBool}
use Rattle.trace_log.specs.declared.event.Logged.{Logged as OwnLogged}
use Rattle.std.specs.Option.{IsSomeAnd}
use Rattle.trace_detect.proofs.Words.{Some, None, option_map}
use Rattle.trace_log.specs.Turns.{seen_logged}
use Rattle.trace_moment.specs.declared.search.Search.{Search}
use Rattle.trace_moment.specs.Moment.{IsEarliest, IsKnown}
use Rattle.trace_moment.specs.Standing.{HasNoMoment, NoneIsKnown}
use Rattle.trace_moment.specs.Search.{Keeps, KeepsEarliest}
use Rattle.trace_moment.specs.Keeping.{KeepTaken, KeepKnown}
use Rattle.trace_moment.proofs.KeptSteps.{known_kept}
use Rattle.trace_moment.proofs.KeptQueues.{watched_same}
use Rattle.trace_detect.specs.Told.{Told, found_told}
use Rattle.trace_detect.specs.Detection.{Found, HasSilentHost, IsFirstSilent, IsLastAnswer, KnowsNone}
use Rattle.trace_detect.specs.Watcher.{HasCounted}
use Rattle.trace_detect.proofs.Watches.{none_taken}

-- No moment is known of nothing.
unknown_where : (known : Bool) (watched : List HostWatch) (moment : ℕ → Logged) (P : Type 0) → 0 < length watched
    → MatchBool known (IsKnown watched [] moment) P → known ≡ false
unknown_where true watched moment P some is =
    let held = ((is [] tt).one.held 0 some) in absurd (omega (arith, held.1))
unknown_where false watched moment P some is = refl

-- Where a search knows the moment, it is known and kept.
pub known_moment : (taken : List Taken) (search : Search) → HasTaken taken search → is_known search ≡ true
    → KeepKnown taken search.queues.items
known_moment taken one had is = known_kept taken one.queues.items one.floors.items
    (subst (λ (known : Bool). KeepTaken taken one.queues.items one.floors.items known) is had)

pub first_unknown : (conditions : List Condition) (watcher : Watcher) → IsWatching conditions [] watcher
    → is_known watcher.search ≡ false
first_unknown conditions watcher watching =
    let had = subst (λ (taken : List Taken). KeepTaken taken watcher.search.queues.items watcher.search.floors.items
    watcher.search.known) (none_taken conditions) watching.taken in
    unknown_where watcher.search.known _ _ _
    (subst (λ (watched : List HostWatch). 0 < length watched)
    (sym watching.watched ∙ watched_same watcher.search.queues.items had.queues had.are)
    (omega (arith, watching.hosts.some, length-map conditions watch_of)))
    had.stand.moment

-- Where it knows none, none is known.
pub knows_none : (conditions : List Condition) (logged : List Logged) (watcher : Watcher)
    → IsWatching conditions logged watcher → is_known watcher.search ≡ false → KnowsNone conditions logged
knows_none conditions logged watcher watching is =
    let had : KeepTaken (taken_of conditions logged) watcher.search.queues.items watcher.search.floors.items false =
    subst (λ (known : Bool). KeepTaken (taken_of conditions logged) watcher.search.queues.items
    watcher.search.floors.items known) is watching.taken in
    subst (λ (w : List HostWatch). NoneIsKnown w (taken_of conditions logged))
    (sym (watched_same watcher.search.queues.items had.queues had.are) ∙ watching.watched)
    had.stand.moment.none_known

-- The event that was read last is the one that was asked for.
pub is_last : (P : Logged → Type 0) (event : Option OwnLogged) (last : Option Logged) (one : OwnLogged)
    → option_map seen_logged event ≡ last → event ≡ Some one → IsSomeAnd last P → P (seen_logged one)
is_last P event last one seen is holds =
    let same : last ≡ Some (seen_logged one) = sym seen ∙ ap (option_map seen_logged) is in
    subst (λ o. IsSomeAnd o P) same holds

pub never_none : (P : Logged → Type 0) (event : Option OwnLogged) (last : Option Logged)
    → option_map seen_logged event ≡ last → event ≡ None → IsSomeAnd last P → ⊥
never_none P event last seen is holds =
    let same : last ≡ None = sym seen ∙ ap (option_map seen_logged) is in
    subst (λ o. IsSomeAnd o P) same holds

-- What a search says at its end.
abbrev pub EndsWith : Bool → Search → Search → Type 0
EndsWith known old new = (taken : List Taken) → HasTaken taken old
    → MatchBool known (KeepsEarliest taken new) (HasNoMoment (watched_by new) taken)

pub last_found : (conditions : List Condition) (logged : List Logged) (watcher : Watcher) (new : Search) (known : Bool)
    (told : Told) → IsWatching conditions logged watcher → EndsWith known watcher.search new
    → known ≡ true → watched_by new ≡ watched_by watcher.search
    → ((moment : ℕ → Logged) → Keeps new moment → told ≡ found_told watcher.conditions.now moment)
    → IsLastAnswer conditions logged told
last_found conditions logged watcher new true told watching ends is same tells =
    let found = ends (taken_of conditions logged) watching.taken in
    Found found.moment (subst (λ (w : List HostWatch). IsEarliest w (taken_of conditions logged) found.moment)
    (same ∙ watching.watched) found.earliest)
    (tells found.moment found.kept_is ∙ ap (λ (cs : List Condition). found_told cs found.moment) watching.by)
last_found conditions logged watcher new false told watching ends is same tells = absurd (cc)

pub ends_none : (known : Bool) (old new : Search) (taken : List Taken) → EndsWith known old new → known ≡ false
    → HasTaken taken old → HasNoMoment (watched_by new) taken
ends_none true old new taken ends is had = absurd (cc)
ends_none false old new taken ends is had = ends taken had

-- Where a search ends without a moment there is none.
pub none_at_end : (conditions : List Condition) (logged : List Logged) (watcher : Watcher) (new : Search) (known : Bool)
    → IsWatching conditions logged watcher → EndsWith known watcher.search new → known ≡ false
    → watched_by new ≡ watched_by watcher.search → HasNoMoment (watches conditions) (taken_of conditions logged)
none_at_end conditions logged watcher new known watching ends is same =
    subst (λ (w : List HostWatch). HasNoMoment w (taken_of conditions logged)) (same ∙ watching.watched)
    (ends_none known watcher.search new (taken_of conditions logged) ends is watching.taken)

pub counted_by : (conditions : List Condition) (logged : List Logged) (watcher : Watcher) (new : Search)
    → IsWatching conditions logged watcher → HasCounted conditions logged (record watcher { search = new })
counted_by conditions logged watcher new watching = record { by = watching.by; judges = watching.judges }

pub has_silent : (conditions : List Condition) (logged : List Logged) (watcher : Watcher) (place : ℕ)
    (condition : Condition) (host : List ℕ) → HasCounted conditions logged watcher
    → HasNoMoment (watches conditions) (taken_of conditions logged) → IsFirstSilent logged conditions place
    → condition ≡ slice_index_or watcher.conditions.now place condition → host_of condition ≡ host
    → HasSilentHost conditions logged host
has_silent conditions logged watcher place condition host counted none first at named = record {
  no_moment = none;
  place = place;
  first = first;
  named = λ c. ap host_of (get_or_default conditions place c condition first.within
      ∙ sym (at ∙ ap (λ (cs : List Condition). slice_index_or cs place condition) counted.by)) ∙ named;
}
