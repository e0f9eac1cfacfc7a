-- What the steps of a search do to the queues and the floors.
use Rattle.std.proofs.lemmas.Grind.{common_steps}
use Rattle.trace_moment.proofs.Words.{◌≡◌, zero, suc, inr, map, IsQueueOf, get_or-map, length-map, ℕ, ◌<◌, Bool, true}
use Rattle.trace_moment.proofs.Words.{false, Option, is_some, List, [], ◌∷◌, ◌++◌, length, get_or, set, drop}
use Rattle.trace_moment.proofs.Words.{slice_index}
use Rattle.trace_moment.proofs.Words.{refl, sym, ◌∙◌, ap, subst, arith, get_or_default, length-set, MatchBool}
use Rattle.trace_moment.proofs.Words.{append_assoc, append-nil, Logged, HostWatch, Taken, HaveDistinctHosts, IsNextAt}
use Rattle.trace_moment.proofs.Words.{IsKnown, IsEarliest, While, EventQueue, empty_queue, queue_at, watched_by}
use Rattle.trace_moment.proofs.Words.{first_of}
use Rattle.trace_moment.proofs.Words.{prefix_clock, MayFollow, with_event, is_passed, LastKnowsAll, AreLeft}
use Rattle.trace_moment.proofs.Words.{AreUnderFloors, ArePassedByNone, AllStand, OneDoesNotStand, RiseTo}
use Rattle.std.proofs.Common.{string_bytes}
use Rattle.std.specs.Borrow.{Bor}
use Rattle.std.specs.Option.{option_copied}
use Rattle.trace_log.proofs.Clocks.{no_number_of}
use Rattle.trace_moment.specs.declared.watched.WatchedHost.{WatchedHost}
use Rattle.trace_moment.specs.Views.{seen_watch}
use Rattle.trace_moment.specs.Elimination.{AddsEvent}
use Rattle.trace_moment.specs.Queues.{HaveFirsts, OneHasNone}
use Rattle.trace_moment.specs.Standing.{moment_among, IsSearching, StandFor, HasNoMoment}
use Rattle.trace_moment.proofs.Clocks.{comes_next, LastKnowsAll-push, knows-from_falls}
use Rattle.trace_moment.proofs.OneQueue.{prefix_clock-event}
use Rattle.trace_moment.proofs.Left.{IsSameHost, watched_by-set, of_host, AreLeft-event, AreLeft-raised}
use Rattle.trace_moment.proofs.Left.{AreLeft-dropped}
use Rattle.trace_moment.proofs.Left.{IsMomentOf-from_moment}
use Rattle.trace_moment.proofs.Known.{AreUnderFloors-raised, AreUnderFloors-same, IsKnown-stands, NoneIsKnown-waits}
use Rattle.trace_moment.proofs.Known.{IsEarliest-end, HasNoMoment-end}

-- A candidate that is over was dropped, and the floors rose.
pub record Drops (queues others : List EventQueue) (floors new : List ℕ) : Type 0 where
  pub left : (taken : List Taken) → LastKnowsAll taken → AreLeft taken queues floors → AreLeft taken others new
  pub under : AreUnderFloors queues floors → AreUnderFloors others new
  pub watched : watched_by others ≡ watched_by queues

-- A queue that was changed keeps its host.
module _ (queues : List EventQueue) (place : ℕ) (read changed : EventQueue) (within : place < length queues) where
  read_is : get_or queues place read ≡ queue_at queues place
  read_is = get_or_default queues place read (empty_queue [] While) within

  pub Drops-first : (floors new : List ℕ)
      → changed ≡ record (get_or queues place read) { ended = drop 1 (get_or queues place read).ended }
      → is_passed (queue_at queues place) (slice_index floors place) ≡ true
      → RiseTo (set queues place changed) place floors new → Drops queues (set queues place changed) floors new
  Drops-first floors new is passed rise =
      let dropped = rw read_is at is in
      let host : IsSameHost queues place changed =
      record {
        within = within;
        host = ap (λ (q : EventQueue). q.host) dropped;
        lasting = ap (λ (q : EventQueue). q.lasting) dropped;
      } in
      record {
        left = λ taken last left. AreLeft-raised taken (set queues place changed) floors new place
            (omega (arith, length-set queues place changed)) last rise
            (rw dropped (AreLeft-dropped taken queues floors place within passed left));
        under = λ under. AreUnderFloors-raised queues place changed host floors new under rise;
        watched = watched_by-set queues place changed host;
      }

  module _ (next : Taken) (floors : List ℕ)
      (is : changed ≡ with_event (get_or queues place read) next.logged next.holds) where
    with_next : changed ≡ with_event (queue_at queues place) next.logged next.holds
    with_next = rw read_is at is

    pub changed_same_host : IsSameHost queues place changed
    changed_same_host = grind (arith, common_steps, with_next)

    module _ (taken : List Taken) (distinct : HaveDistinctHosts (watched_by queues)) (last : LastKnowsAll taken)
        (at : IsNextAt (watched_by queues) place taken next.logged) where
      added : AreLeft taken queues floors → AreLeft (taken ++ next ∷ []) (set queues place changed) floors
      added left = rw with_next (AreLeft-event taken next queues floors place within distinct last at left)

      -- Where the event came to the front, the floors rose.
      pub AddsEvent-front : (new : List ℕ) → RiseTo (set queues place changed) place floors new
          → AddsEvent taken next queues (set queues place changed) floors new
      AddsEvent-front new rise = record {
        left = λ left. AreLeft-raised (taken ++ next ∷ []) (set queues place changed) floors new place
            (omega (arith, length-set queues place changed))
            (LastKnowsAll-push taken next (comes_next taken next at.follows) last) rise (added left);
        under = λ left under. AreUnderFloors-raised queues place changed changed_same_host floors new under rise;
      }

      -- Else the front stays.
      pub AddsEvent-behind : is_some (first_of (queue_at queues place)) ≡ true → AddsEvent taken next queues
          (set queues place changed) floors floors
      AddsEvent-behind some = record {
        left = added;
        under = λ left under. AreUnderFloors-same queues place changed changed_same_host floors floors under
            (ap prefix_clock with_next ∙ prefix_clock-event taken next last (comes_next taken next at.follows)
            (queue_at queues place) (left.each place within)
            (of_host taken next queues floors place within distinct last at) some);
      }

-- A moment that is known is known after an event more.
pub IsKnown-next : (watched : List HostWatch) (taken : List Taken) (next : Taken) (moment : ℕ → Logged)
    → MayFollow taken next.logged.event → IsKnown watched taken moment → IsKnown watched (taken ++ next ∷ []) moment
IsKnown-next watched taken next moment follows known more follow = grind (arith, common_steps, append_assoc)

pub matched : (b : Bool) (A B C D : Type 0) → (A → C) → (B → D) → MatchBool b A B → MatchBool b C D
matched b A B C D then else is = grind arith

-- Queues that stand for what was taken, of which the moment is known, stand for an event more.
pub StandFor-known : (taken : List Taken) (next : Taken) (queues : List EventQueue) (floors : List ℕ)
    → MayFollow taken next.logged.event → StandFor taken queues floors true
    → StandFor (taken ++ next ∷ []) queues floors true
StandFor-known taken next queues floors follows stand = record {
  distinct = stand.distinct;
  last = LastKnowsAll-push taken next (comes_next taken next follows) stand.last;
  moment = IsKnown-next (watched_by queues) taken next (moment_among queues) follows stand.moment;
}

-- Elimination is at an end: the moment is known where each first candidate stands.
pub StandFor-settled : (taken : List Taken) (queues : List EventQueue) (floors : List ℕ) (known : Bool)
    → HaveDistinctHosts (watched_by queues) → LastKnowsAll taken → AreLeft taken queues floors
    → AreUnderFloors queues floors → ArePassedByNone queues floors
    → MatchBool known (AllStand queues floors) (OneDoesNotStand queues floors) → StandFor taken queues floors known
StandFor-settled taken queues floors known distinct last left under settled all_stand = record {
  distinct = distinct;
  last = last;
  moment = matched known _ _ _ _ (IsKnown-stands taken queues floors last left under settled) (λ one. record {
    none_known = NoneIsKnown-waits taken queues floors last left under settled one;
    left = left;
    under = under;
    settled = settled;
  }) all_stand;
}

-- At the end of the log.
pub end_known : (taken : List Taken) (queues : List EventQueue) (floors : List ℕ) → StandFor taken queues floors true
    → IsEarliest (watched_by queues) taken (moment_among queues)
end_known taken queues floors stand =
    subst (λ (all : List Taken). IsEarliest (watched_by queues) all (moment_among queues)) (append-nil taken)
    (stand.moment [] tt)

pub end_searching : (taken : List Taken) (queues : List EventQueue) (floors : List ℕ) (all : Bool)
    → MatchBool all (HaveFirsts queues) (OneHasNone queues) → StandFor taken queues floors false
    → MatchBool all (IsEarliest (watched_by queues) taken (moment_among queues)) (HasNoMoment (watched_by queues) taken)
end_searching taken queues floors all firsts stand = matched all _ _ _ _
    (λ (have : HaveFirsts queues). IsEarliest-end taken queues floors stand.last stand.moment.left stand.moment.under
    stand.moment.settled have)
    (λ (lacks : OneHasNone queues). let (p, within, here) = lacks in
    HasNoMoment-end taken queues floors stand.last stand.moment.left stand.moment.under stand.moment.settled p
    within here) firsts

pub some_copied : {X : Type 0} (found : Option (Bor X)) → is_some found ≡ true → is_some (option_copied found) ≡ true
some_copied found some = grind arith

-- The queue of a host before its first event.
abbrev pub fresh : WatchedHost → EventQueue
fresh one = empty_queue (string_bytes one.host) one.lasting

pub watched_fresh : (watched : List WatchedHost) → watched_by (map fresh watched) ≡ map seen_watch watched
watched_fresh [] = refl
watched_fresh (one ∷ others) = ap (λ (all : List HostWatch). seen_watch one ∷ all) (watched_fresh others)

floor_fresh : (watched : List WatchedHost) (p : ℕ) → slice_index (map (λ (one : WatchedHost). 0) watched) p ≡ 0
floor_fresh [] p = refl
floor_fresh (one ∷ others) zero = refl
floor_fresh (one ∷ others) (suc p) = floor_fresh others p

IsQueueOf-fresh : (one : WatchedHost) → IsQueueOf [] (fresh one)
IsQueueOf-fresh one = grind (arith, common_steps, knows-from_falls)

-- Before the first event.
module _ (first : WatchedHost) (others : List WatchedHost) where
  abbrev all : List EventQueue
  all = map fresh (first ∷ others)

  abbrev zeros : List ℕ
  zeros = map (λ (one : WatchedHost). 0) (first ∷ others)

  at_fresh : (p : ℕ) → p < length (map fresh (first ∷ others)) → queue_at (map fresh (first ∷ others)) p ≡ fresh
      (get_or (first ∷ others) p first)
  at_fresh p within = grind (arith, get_or-map, length-map)

  IsSearching-fresh : IsSearching [] (map fresh (first ∷ others)) (map (λ (one : WatchedHost). 0) (first ∷ others))
  IsSearching-fresh = record {
    none_known = λ moment known. let (k, within, is) = (known [] tt).one.held 0 (omega arith) in omega arith;
    left = record {
      each = λ p within. subst (IsQueueOf []) (sym (at_fresh p within))
          (IsQueueOf-fresh (get_or (first ∷ others) p first));
      moments = λ more follow moment is. record {
        waits = λ p within. inr ((IsMomentOf-from_moment all more moment is).held p within);
        knows = λ q within some. absurd (omega (arith, some, floor_fresh (first ∷ others) q));
      };
    };
    under = λ p p_within q q_within apart. rw (at_fresh p p_within, ← no_number_of) (omega arith);
    settled = λ p within. rw (at_fresh p within) refl;
  }

pub StandFor-start : (watched : List WatchedHost) (queues : List EventQueue) (floors : List ℕ) → 0 < length watched
    → HaveDistinctHosts (map seen_watch watched) → queues ≡ map fresh watched
    → floors ≡ map (λ (one : WatchedHost). 0) watched → StandFor [] queues floors false
StandFor-start [] queues floors some distinct is_fresh are_zero = absurd (omega arith)
StandFor-start (first ∷ others) queues floors some distinct is_fresh are_zero = rw (is_fresh, are_zero) (record {
  distinct = subst HaveDistinctHosts (sym (watched_fresh (first ∷ others))) distinct;
  last = λ one was_taken name. let (k, within, is) = was_taken in absurd (omega arith);
  moment = IsSearching-fresh first others;
})
