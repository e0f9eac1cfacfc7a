-- What is kept, with one event more.
use Rattle.std.specs.Prelude.{string_bytes}
use Rattle.std.proofs.lemmas.List.{set-get_or, same_lists, map-set}
use Rattle.std.proofs.lemmas.List.Quantifiers.{all_pairs_push}
use Rattle.trace_moment.specs.declared.watched.WatchedHost.{WatchedHost}
use Rattle.trace_moment.specs.Views.{seen_watch}
use Rattle.trace_moment.proofs.Clocks.{comes_next, LastKnowsAll-push}
use Rattle.trace_explain.specs.History.{watch_past, KeepNext}
use Rattle.trace_explain.proofs.Words.{◌≡◌, ◌≢◌, ℕ, ◌<◌, Bool, true, false, cond, List, [], ◌∷◌, ◌++◌, length, map, get_or}
use Rattle.trace_explain.proofs.Words.{set, refl, sym, ◌∙◌, ap, arith, ⊎_elim, append-nil, length-map}
use Rattle.trace_explain.proofs.Words.{get_or-map, get_or_default, get_or-set_same, get_or-set_other, length-set}
use Rattle.trace_explain.proofs.Words.{map-append, filter-append, bytes_eq-Decides, AllPairs, bytes_eq, cases_eq}
use Rattle.trace_explain.proofs.Words.{HostWatch, Taken, watch_at, HaveDistinctHosts, IsNextAt, ComesBefore, Past, past_of}
use Rattle.trace_explain.proofs.Words.{of_host, PastHost, past_host, watched_in, no_host, host_at, AreInOrder, KeepPast}
use Rattle.trace_explain.proofs.Words.{IsAt, Contains, While, false≢true}
use Rattle.std.specs.Prelude.{Result, Ok, Err, OnOk, OnErr}
use Rattle.std.specs.declared.alloc.AllocError.{AllocError}
use Rattle.trace_explain.proofs.Events.{at-host, at-was_taken}

-- A host without events.
abbrev pub fresh : WatchedHost → PastHost
fresh watched = record { host = string_bytes watched.host; lasting = watched.lasting; events = [] }

pub watched_fresh : (watched : List WatchedHost) → watched_in (map fresh watched) ≡ map seen_watch watched
watched_fresh [] = refl
watched_fresh (one ∷ others) = ap (λ (rest : List HostWatch). seen_watch one ∷ rest) (watched_fresh others)

fresh_kept : (all : List HostWatch) (watched : List WatchedHost)
    → map fresh watched ≡ map (past_host all []) (watched_in (map fresh watched))
fresh_kept all [] = refl
fresh_kept all (one ∷ others) = ap (λ (rest : List PastHost). fresh one ∷ rest) (fresh_kept all others)

pub KeepPast-fresh : (watched : List WatchedHost) (hosts : List PastHost) → hosts ≡ map fresh watched
    → HaveDistinctHosts (map seen_watch watched) → KeepPast [] hosts
KeepPast-fresh watched hosts are distinct = record {
  kept = are ∙ fresh_kept (watched_in hosts) watched ∙ ap (λ (all : List PastHost).
      map (past_host (watched_in hosts) []) (watched_in all)) (sym are);
  distinct = rw (are, watched_fresh) distinct;
  last = λ one is. absurd (omega (arith, is.1));
  in_order = λ host i j d below within. absurd (omega arith);
}

-- The events of a host, with one more of it, or of another one.
of_host-push : (host : List ℕ) (taken : List Taken) (next : Taken) → of_host host (taken ++ next ∷ [])
    ≡ of_host host taken ++ cond (bytes_eq next.logged.event.host host) (next ∷ []) []
of_host-push host taken next = filter-append (λ one. bytes_eq one.logged.event.host host) taken (next ∷ [])

of_host-same : (host : List ℕ) (taken : List Taken) (next : Taken) → next.logged.event.host ≡ host
    → of_host host (taken ++ next ∷ []) ≡ of_host host taken ++ next ∷ []
of_host-same host taken next same = of_host-push host taken next
    ∙ rw ((bytes_eq-Decides next.logged.event.host host).1 same) refl

of_host-other : (host : List ℕ) (taken : List Taken) (next : Taken) → next.logged.event.host ≢ host
    → of_host host (taken ++ next ∷ []) ≡ of_host host taken
of_host-other host taken next other = of_host-push host taken next
    ∙ by_test (bytes_eq next.logged.event.host host) (bytes_eq-Decides next.logged.event.host host).0
  where
    by_test : (test : Bool) → (test ≡ true → next.logged.event.host ≡ host)
        → of_host host taken ++ cond test (next ∷ []) [] ≡ of_host host taken
    by_test true is = absurd (other (is refl))
    by_test false is = append-nil (of_host host taken)

-- The events stay in their order.
AreInOrder-push : (taken : List Taken) (next : Taken) → AreInOrder taken
    → ((one : Taken) → Contains taken one → one.logged.event.host ≡ next.logged.event.host
    → ComesBefore one.logged.event next.logged.event) → AreInOrder (taken ++ next ∷ [])
AreInOrder-push taken next in_order before host = by_test (bytes_eq next.logged.event.host host) refl
  where
    before_next : next.logged.event.host ≡ host → (k : ℕ) (d : Taken) → k < length (of_host host taken)
        → ComesBefore (get_or (of_host host taken) k d).logged.event next.logged.event
    before_next same k d within =
        let here : IsAt host taken k (get_or (of_host host taken) k d) = record {
          within = within;
          is = get_or_default (of_host host taken) k (get_or (of_host host taken) k d) d within;
        } in
        before (get_or (of_host host taken) k d) (at-was_taken host taken k (get_or (of_host host taken) k d) here)
        (at-host host taken k (get_or (of_host host taken) k d) here ∙ sym same)

    by_test : (test : Bool) → bytes_eq next.logged.event.host host ≡ test
        → AllPairs (λ one other. ComesBefore one.logged.event other.logged.event) (of_host host (taken ++ next ∷ []))
    by_test true is =
        let same : next.logged.event.host ≡ host = (bytes_eq-Decides next.logged.event.host host).0 is in
        rw (of_host-same host taken next same)
        (all_pairs_push (λ one other. ComesBefore one.logged.event other.logged.event) (of_host host taken) next
        (in_order host) (before_next same))
    by_test false is =
        let other : next.logged.event.host ≢ host =
        λ same. false≢true (sym is ∙ (bytes_eq-Decides next.logged.event.host host).1 same) in
        rw (of_host-other host taken next other) (in_order host)

abbrev no_watch : HostWatch
no_watch = record { host = []; lasting = While }

module _ (taken : List Taken) (hosts : List PastHost) (place : ℕ) (next : Taken) (new : PastHost)
    (within : place < length hosts) (keep : KeepPast taken hosts)
    (is : IsNextAt (watched_in hosts) place taken next.logged)
    (adds : new ≡ record (host_at hosts place) {
      events = (host_at hosts place).events ++ past_of (watched_in hosts) next ∷ [];
    }) where
  pub watched-push : watched_in (set hosts place new) ≡ watched_in hosts
  watched-push = map-set watch_past hosts place new ∙ ap (set (map watch_past hosts) place)
      (ap watch_past adds ∙ sym (get_or-map watch_past hosts place no_host no_watch within))
      ∙ set-get_or (map watch_past hosts) place no_watch

  abbrev all : List HostWatch
  all = watched_in hosts

  abbrev longer : List Taken
  longer = taken ++ next ∷ []

  in_watched : (p : ℕ) → p < length hosts → p < length all
  in_watched p below = rw (length-map hosts watch_past) below

  kept-before : (p : ℕ) (d : PastHost) → p < length hosts → get_or hosts p d ≡ past_host all taken (watch_at all p)
  kept-before p d below = ap (λ (list : List PastHost). get_or list p d) keep.kept
      ∙ get_or-map (past_host all taken) all p no_watch d (in_watched p below)

  kept-after : (p : ℕ) (d : PastHost) → p < length hosts
      → get_or (map (past_host all longer) all) p d ≡ past_host all longer (watch_at all p)
  kept-after p d below = get_or-map (past_host all longer) all p no_watch d (in_watched p below)

  abbrev past_with : ℕ → List Past → PastHost
  past_with p events = record { host = (watch_at all p).host; lasting = (watch_at all p).lasting; events = events }

  new-is : new ≡ past_host all longer (watch_at all place)
  new-is = adds
      ∙ ap (λ (old : PastHost). let x : PastHost = record old { events = old.events ++ past_of all next ∷ [] } in x)
      (kept-before place no_host within)
      ∙ ap (past_with place) (sym (ap (map (past_of all)) (of_host-same (watch_at all place).host taken next is.host)
      ∙ map-append (past_of all) (of_host (watch_at all place).host taken) (next ∷ [])))

  other-is : (p : ℕ) → p < length hosts → p ≢ place → past_host all taken (watch_at all p)
      ≡ past_host all longer (watch_at all p)
  other-is p below other =
      let differs : next.logged.event.host ≢ (watch_at all p).host =
      λ same. other (keep.distinct p place (in_watched p below) (in_watched place within) (sym same ∙ is.host)) in
      ap (λ (events : List Taken). past_with p (map (past_of all) events))
      (sym (of_host-other (watch_at all p).host taken next differs))

  kept-push : set hosts place new ≡ map (past_host all longer) all
  kept-push = same_lists (set hosts place new) (map (past_host all longer) all)
      (length-set hosts place new ∙ sym (length-map all (past_host all longer) ∙ length-map hosts watch_past))
      (λ p d below.
      let inside : p < length hosts = rw length-set at below in
      ⊎_elim (λ (here : p ≡ place). rw (here, get_or-set_same hosts place new d within)
      (new-is ∙ sym (kept-after place d within)))
      (λ (other : p ≢ place). get_or-set_other hosts place p new d other ∙ kept-before p d inside
      ∙ other-is p inside other ∙ sym (kept-after p d inside)) (cases_eq p place))

  pub KeepPast-push : KeepPast longer (set hosts place new)
  KeepPast-push =
      let comes = comes_next taken next is.follows in
      record {
        kept = rw watched-push kept-push;
        distinct = rw watched-push keep.distinct;
        last = LastKnowsAll-push taken next comes keep.last;
        in_order = AreInOrder-push taken next keep.in_order (comes.before keep.last);
      }

-- A host with one event more.
abbrev past_added : PastHost → Past → PastHost
past_added host one = record { host = host.host; lasting = host.lasting; events = host.events ++ one ∷ [] }

-- The same where memory may run out.
module _ (hosts : List PastHost) (place : ℕ) (old new : PastHost) (one : Past) (within : place < length hosts)
    (read : old ≡ host_at hosts place) where
  abbrev added : PastHost → PastHost
  added host = past_added host one

  pub watched-add : (result : Result (Unit {0}) AllocError) → OnOk result (new ≡ added old) → OnErr result (new ≡ old)
      → watched_in (set hosts place new) ≡ watched_in hosts
  watched-add result is same = map-set watch_past hosts place new ∙ ap (set (map watch_past hosts) place)
      (by_result result is same ∙ ap watch_past read ∙ sym (get_or-map watch_past hosts place no_host no_watch within))
      ∙ set-get_or (map watch_past hosts) place no_watch
    where
      by_result : (result : Result (Unit {0}) AllocError) → OnOk result (new ≡ added old) → OnErr result (new ≡ old)
          → watch_past new ≡ watch_past old
      by_result (Ok _) is same = ap watch_past is
      by_result (Err _) is same = ap watch_past same

  pub KeepNext-add : (taken : List Taken) (next : Taken) → KeepPast taken hosts
      → IsNextAt (watched_in hosts) place taken next.logged → one ≡ past_of (watched_in hosts) next
      → (result : Result (Unit {0}) AllocError) → OnOk result (new ≡ added old) → OnErr result (new ≡ old)
      → KeepNext taken next result (set hosts place new)
  KeepNext-add taken next keep is_next is_past (Ok _) is same =
      KeepPast-push taken hosts place next new within keep is_next (is ∙ ap added read ∙ ap
      (λ (x : Past). past_added (host_at hosts place) x) is_past)
  KeepNext-add taken next keep is_next is_past (Err _) is same =
      rw (same ∙ read, set-get_or hosts place no_host) keep
