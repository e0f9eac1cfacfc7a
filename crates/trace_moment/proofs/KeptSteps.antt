-- What the steps of a search do to what is kept of the queues.
use Rattle.trace_moment.proofs.Words.{◌≡◌, ◌∙◌, ◌<◌, ℕ, Bool, true, false, is_some, List, [], ◌∷◌, ◌++◌, length, map}
use Rattle.trace_moment.proofs.Words.{get_or, set, drop, slice_index, refl, sym, ap, subst, arith, MatchBool}
use Rattle.trace_moment.proofs.Words.{get_or_default, length-map, length-set, Logged, HostWatch, Taken, HaveDistinctHosts}
use Rattle.trace_moment.proofs.Words.{IsNextAt, IsKnown, IsEarliest, While, EventQueue, empty_queue, queue_at, watched_by}
use Rattle.trace_moment.proofs.Words.{with_event, number_of, LastKnowsAll, AreLeft, AreUnderFloors}
use Rattle.std.proofs.Common.{replicate, string_bytes}
use Rattle.std.proofs.Math.Seq.{map-set_same}
use Rattle.std.proofs.lemmas.Simd.{map-map}
use Rattle.trace_moment.specs.declared.watched.WatchedHost.{WatchedHost}
use Rattle.trace_log.proofs.Clocks.{no_number_of}
use Rattle.trace_moment.specs.Kept.{KeptQueue, kept_queue, kept_at, none_kept, numbers_in, AreKept, with_next, ends_below}
use Rattle.trace_moment.specs.Kept.{RiseToNumbers, first_kept, KeepFirsts, OneKeepsNone}
use Rattle.trace_moment.specs.Kept.{watch_kept, watched_in}
use Rattle.trace_moment.specs.Keeping.{KeepTaken, KeepAdded, KeepLeft, KeepMoment, KeepEarliest, KeepKnown}
use Rattle.trace_moment.specs.Standing.{HasNoMoment, moment_among}
use Rattle.trace_moment.specs.Views.{seen_watch}
use Rattle.trace_moment.proofs.Left.{IsSameHost, watched_by-set}
use Rattle.trace_moment.proofs.Steps.{Drops-first, AddsEvent-front, AddsEvent-behind, StandFor-known}
use Rattle.trace_moment.proofs.Steps.{StandFor-start, fresh, watched_fresh, end_known, end_searching, matched}
use Rattle.trace_moment.proofs.KeptQueues.{AreKept-set, as_many, dropped_same, events_same, has_first_same}
use Rattle.trace_moment.proofs.KeptQueues.{have_firsts, kept_is, next_same, numbers_kept, passed_at}
use Rattle.trace_moment.proofs.KeptQueues.{RiseTo-kept, watched_same}

module _ (kept : List KeptQueue) (place : ℕ) (read changed : KeptQueue) (within : place < length kept)
    (queues : List EventQueue) (are : AreKept kept queues) where
  within_all : place < length queues
  within_all = omega (arith, as_many kept queues are)

  read_is : get_or kept place read ≡ kept_queue (watched_by queues) (queue_at queues place)
  read_is = get_or_default kept place read (none_kept [] While []) within ∙ kept_is kept queues are place within_all

  -- The next event of the host at the place.
  module _ (next : Taken) (numbers : List ℕ) (floors : List ℕ)
      (knows : numbers ≡ map (λ (queue : KeptQueue). number_of queue.host next.logged.event.clock) kept)
      (is : changed ≡ with_next (get_or kept place read) next.logged numbers next.holds) where
    abbrev queue : EventQueue
    queue = with_event (queue_at queues place) next.logged next.holds

    same_host : IsSameHost queues place queue
    same_host = record { within = within_all; host = refl; lasting = refl }

    changed_is : changed ≡ kept_queue (watched_by queues) queue
    changed_is = is ∙ ap (λ (one : KeptQueue). with_next one next.logged numbers next.holds) read_is
        ∙ ap (λ (all : List ℕ). with_next (kept_queue (watched_by queues) (queue_at queues place)) next.logged all
        next.holds) (knows ∙ numbers_kept kept queues are next.logged.event.clock)
        ∙ next_same (watched_by queues) (queue_at queues place) next.logged next.holds

    are_added : AreKept (set kept place changed) (set queues place queue)
    are_added = AreKept-set kept queues are place changed queue same_host changed_is

    module _ (taken : List Taken) (distinct : HaveDistinctHosts (watched_by queues)) (last : LastKnowsAll taken)
        (at : IsNextAt (watched_by queues) place taken next.logged) where
      pub KeepAdded-front : (new : List ℕ) → RiseToNumbers (set kept place changed) place floors new
          → KeepAdded taken next queues (set kept place changed) floors new
      KeepAdded-front new rise = record {
        added = set queues place queue;
        are = are_added;
        adds = AddsEvent-front queues place (empty_queue [] While) queue within_all next floors refl taken distinct last at
            new (RiseTo-kept (set kept place changed) (set queues place queue) are_added place floors new
            (omega (arith, within_all, length-set queues place queue)) rise);
        watched = watched_by-set queues place queue same_host;
      }

      pub KeepAdded-behind : is_some (first_kept (get_or kept place read)) ≡ true
          → KeepAdded taken next queues (set kept place changed) floors floors
      KeepAdded-behind some = record {
        added = set queues place queue;
        are = are_added;
        adds = AddsEvent-behind queues place (empty_queue [] While) queue within_all next floors refl taken distinct last
            at (sym (has_first_same (watched_by queues) (queue_at queues place))
            ∙ ap (λ (one : KeptQueue). is_some (first_kept one)) (sym read_is) ∙ some);
        watched = watched_by-set queues place queue same_host;
      }

  -- The first candidate of the host at the place was dropped.
  pub KeepLeft-dropped : (taken : List Taken) (floors new : List ℕ) → LastKnowsAll taken → AreLeft taken queues floors
      → AreUnderFloors queues floors
      → changed ≡ record (get_or kept place read) { ended = drop 1 (get_or kept place read).ended }
      → ends_below (slice_index floors place) (kept_at kept place).ended ≡ true
      → RiseToNumbers (set kept place changed) place floors new → KeepLeft taken queues (set kept place changed) new
  KeepLeft-dropped taken floors new last left under is passed rise =
      let queue : EventQueue = record (queue_at queues place) { ended = drop 1 (queue_at queues place).ended } in
      let same_host : IsSameHost queues place queue = record { within = within_all; host = refl; lasting = refl } in
      let are_left : AreKept (set kept place changed) (set queues place queue) =
      AreKept-set kept queues are place changed queue same_host
      (is ∙ ap (λ (one : KeptQueue). record one { ended = drop 1 one.ended }) read_is
      ∙ dropped_same (watched_by queues) (queue_at queues place)) in
      let drops = Drops-first queues place (empty_queue [] While) queue within_all floors new refl
      (sym (passed_at kept queues are floors place within_all) ∙ passed)
      (RiseTo-kept (set kept place changed) (set queues place queue) are_left place floors new
      (omega (arith, within_all, length-set queues place queue)) rise) in
      record {
        others = set queues place queue;
        are = are_left;
        left = drops.left taken last left;
        under = drops.under under;
        watched = drops.watched;
      }

-- A further candidate was dropped.
pub KeepLeft-more : (taken : List Taken) (all : List EventQueue) (kept : List KeptQueue) (place : ℕ)
    (read changed : KeptQueue) → place < length kept → LastKnowsAll taken → {floors : List ℕ}
    → KeepLeft taken all kept floors → (new : List ℕ)
    → changed ≡ record (get_or kept place read) { ended = drop 1 (get_or kept place read).ended }
    → ends_below (slice_index floors place) (kept_at kept place).ended ≡ true
    → RiseToNumbers (set kept place changed) place floors new → KeepLeft taken all (set kept place changed) new
KeepLeft-more taken all kept place read changed within last {floors} before new is passed rise =
    let now = KeepLeft-dropped kept place read changed within before.others before.are taken floors new last before.left
    before.under is passed rise in
    record {
      others = now.others;
      are = now.are;
      left = now.left;
      under = now.under;
      watched = now.watched ∙ before.watched;
    }

-- A queue that was changed keeps its host.
watched_set : (kept : List KeptQueue) (place : ℕ) (read changed : KeptQueue)
    → watch_kept changed ≡ watch_kept (get_or kept place read) → watched_in (set kept place changed) ≡ watched_in kept
watched_set kept place read changed same = map-set_same watch_kept kept place changed read same

pub watched_dropped : (kept : List KeptQueue) (place : ℕ) (read changed : KeptQueue)
    → changed ≡ record (get_or kept place read) { ended = drop 1 (get_or kept place read).ended }
    → watched_in (set kept place changed) ≡ watched_in kept
watched_dropped kept place read changed is = watched_set kept place read changed (ap watch_kept is)

pub watched_added : (kept : List KeptQueue) (place : ℕ) (read changed : KeptQueue) (logged : Logged)
    (numbers : List ℕ) (holds : Bool) → changed ≡ with_next (get_or kept place read) logged numbers holds
    → watched_in (set kept place changed) ≡ watched_in kept
watched_added kept place read changed logged numbers holds is =
    watched_set kept place read changed (ap watch_kept is)

pub KeepTaken-known : (taken : List Taken) (next : Taken) (place : ℕ) (kept : List KeptQueue) (floors : List ℕ)
    → IsNextAt (watched_in kept) place taken next.logged → KeepTaken taken kept floors true
    → KeepTaken (taken ++ next ∷ []) kept floors true
KeepTaken-known taken next place kept floors at has = record {
  queues = has.queues;
  are = has.are;
  stand = StandFor-known taken next has.queues floors at.follows has.stand;
}

-- The moment of the first candidates is kept.
module _ (taken : List Taken) (kept : List KeptQueue) (floors : List ℕ) where
  keeps : (queues : List EventQueue) → AreKept kept queues → KeepMoment kept (moment_among queues)
  keeps queues are p within = events_same kept queues are p (omega (
    arith,
    as_many kept queues are,
    length-map kept
        watch_kept,
  ))

  pub known_kept : KeepTaken taken kept floors true → KeepKnown taken kept
  known_kept has = record {
    moment = moment_among has.queues;
    known = subst (λ (watched : List HostWatch). IsKnown watched taken (moment_among has.queues))
        (sym (watched_same kept has.queues has.are)) has.stand.moment;
    kept_is = keeps has.queues has.are;
  }

  earliest_kept : (known : Bool) (has : KeepTaken taken kept floors known)
      → IsEarliest (watched_by has.queues) taken (moment_among has.queues) → KeepEarliest taken kept
  earliest_kept known has earliest = record {
    moment = moment_among has.queues;
    earliest = subst (λ (watched : List HostWatch). IsEarliest watched taken (moment_among has.queues))
        (sym (watched_same kept has.queues has.are)) earliest;
    kept_is = keeps has.queues has.are;
  }

  pub kept_end_known : KeepTaken taken kept floors true → KeepEarliest taken kept
  kept_end_known has = earliest_kept true has (end_known taken has.queues floors has.stand)

  pub kept_end_searching : (all : Bool) → MatchBool all (KeepFirsts kept) (OneKeepsNone kept)
      → KeepTaken taken kept floors false
      → MatchBool all (KeepEarliest taken kept) (HasNoMoment (watched_in kept) taken)
  kept_end_searching all firsts has = matched all _ _ _ _ (earliest_kept false has)
      (λ (none : HasNoMoment (watched_by has.queues) taken). subst (λ (watched : List HostWatch).
      HasNoMoment watched taken) (sym (watched_same kept has.queues has.are)) none)
      (end_searching taken has.queues floors all (have_firsts kept has.queues has.are all firsts) has.stand)

-- What is kept of the hosts before the first event.
abbrev pub fresh_kept : ℕ → WatchedHost → KeptQueue
fresh_kept hosts one = none_kept (string_bytes one.host) one.lasting (replicate hosts 0)

no_numbers : (watched : List HostWatch) → numbers_in watched [] ≡ replicate (length watched) 0
no_numbers [] = refl
no_numbers (one ∷ others) =
    rw (← no_number_of one.host) (ap (λ (numbers : List ℕ). 0 ∷ numbers) (no_numbers others))

fresh_is : (all : List HostWatch) (hosts : ℕ) (watched : List WatchedHost) → hosts ≡ length all
    → map (fresh_kept hosts) watched ≡ map (kept_queue all) (map fresh watched)
fresh_is all hosts [] many = refl
fresh_is all hosts (one ∷ others) many =
    ap (λ (numbers : List ℕ). none_kept (string_bytes one.host) one.lasting numbers ∷ map (fresh_kept hosts) others)
    (ap (λ (n : ℕ). replicate n 0) many ∙ sym (no_numbers all))
    ∙ ap (λ (kept : List KeptQueue). kept_queue all (fresh one) ∷ kept) (fresh_is all hosts others many)

pub KeepTaken-start : (watched : List WatchedHost) (kept : List KeptQueue) (floors : List ℕ) (hosts : ℕ)
    → 0 < length watched → HaveDistinctHosts (map seen_watch watched) → hosts ≡ length watched
    → kept ≡ map (fresh_kept hosts) watched → floors ≡ map (λ (one : WatchedHost). 0) watched
    → KeepTaken [] kept floors false
KeepTaken-start watched kept floors hosts some distinct many are zeros = record {
  queues = map fresh watched;
  are = are ∙ fresh_is (watched_by (map fresh watched)) hosts watched (many ∙ sym (ap (λ (all : List HostWatch).
      length all) (watched_fresh watched) ∙ length-map watched seen_watch));
  stand = StandFor-start watched (map fresh watched) floors some distinct refl zeros;
}

pub watched_fresh_kept : (hosts : ℕ) (watched : List WatchedHost)
    → watched_in (map (fresh_kept hosts) watched) ≡ map seen_watch watched
watched_fresh_kept hosts watched = map-map watch_kept (fresh_kept hosts) watched
