-- What elimination has left, without the first candidates: those of what lies behind the moment.
use Rattle.std.proofs.lemmas.Simd.{map-map}
use Rattle.trace_moment.specs.Behind.{is_up_to, behind}
use Rattle.trace_moment.specs.Queues.{HaveFirsts, goes_on_behind, without_first}
use Rattle.trace_moment.specs.Standing.{moment_among}
use Rattle.trace_moment.proofs.Words.{◌≡◌, ℕ, ◌<◌, true, false, Option, Some, None, is_some, List, [], ◌∷◌, ◌++◌}
use Rattle.trace_moment.proofs.Words.{length, map, drop, refl, sym, ◌∙◌, ap, arith, zero, suc, inl, inr}
use Rattle.trace_moment.proofs.Words.{◌⊎◌, ⊎_elim, false≢true, get_or-map, length-map, Contains, Contains-append_cases}
use Rattle.trace_moment.proofs.Words.{All, All-tail, option_to_list, Event, Logged, HostWatch, Taken, watch_at}
use Rattle.trace_moment.proofs.Words.{HaveDistinctHosts, own, IsMoment, IsEarliest, While, Candidate}
use Rattle.trace_moment.proofs.Words.{EventQueue, empty_queue, queue_at, watched_by, first_among, first_of, begin_with}
use Rattle.trace_moment.proofs.Words.{waiting, LastKnowsAll, HasEnded, IsQueueOf, AreLeft}
use Rattle.trace_moment.proofs.Words.{AreUnderFloors, ArePassedByNone}
use Rattle.trace_moment.proofs.Behind.{up_to_from, not_up_to, HasEnded-have, Follow-same, events_behind, behind_has}
use Rattle.trace_moment.proofs.Behind.{behind_had, held_before, held_behind, IsMoment-taken}
use Rattle.trace_moment.proofs.Left.{seen, watch_at-queue}
use Rattle.trace_moment.proofs.Known.{waits_now, none_waits, IsEarliest-end, moment_first}

rest_waits : (ended : List Candidate) (ongoing : Option Candidate) (first : Candidate)
    → first_among ended ongoing ≡ Some first → begin_with (ended ++ option_to_list ongoing)
    ≡ first.logged ∷ begin_with (drop 1 ended ++ option_to_list (goes_on_behind ended ongoing))
rest_waits [] None first is = absurd (cc)
rest_waits [] (Some one) first is = let same : one ≡ first = cc in rw same refl
rest_waits (one ∷ others) ongoing first is = let same : one ≡ first = cc in rw same refl

rest_ended : (P : Candidate → Type 0) (ended : List Candidate) → All P ended → All P (drop 1 ended)
rest_ended P [] all = all
rest_ended P (one ∷ others) all = All-tail P one others all

rest_goes_on : (ended : List Candidate) (ongoing : Option Candidate) (one : Candidate)
    → goes_on_behind ended ongoing ≡ Some one → ongoing ≡ Some one
rest_goes_on [] ongoing one is = absurd (cc)
rest_goes_on (first ∷ others) ongoing one is = is

-- A queue without its first candidate, where no later event of its host is up to the moment.
module _ (watched : List HostWatch) (moment : ℕ → Logged) (taken : List Taken) (queue : EventQueue)
    (first : Candidate) (here : first_of queue ≡ Some first) where
  pub whole : waiting queue ≡ first.logged ∷ waiting (without_first queue)
  whole = rest_waits queue.ended queue.ongoing first here

  pub IsQueueOf-behind : IsQueueOf taken queue
      → ((event : Event) → event.host ≡ queue.host → own first.logged.event < own event
      → is_up_to watched moment event ≡ false) → IsQueueOf (behind watched moment taken) (without_first queue)
  IsQueueOf-behind is apart =
      let candidates = rw whole at is.candidates in
      let in_order = rw whole at is.in_order in
      record {
        candidates = λ k d within.
            let one = candidates (suc k) d (omega arith) in
            let after = in_order 0 (suc k) d (omega arith) (omega arith) in
            record {
              was_taken = held_behind watched moment taken _ one.was_taken (apart _ one.of_host after.own_rises);
              of_host = one.of_host;
            };
        in_order = λ i j d less within. in_order (suc i) (suc j) d (omega arith) (omega arith);
        ended = rest_ended (HasEnded queue.lasting (behind watched moment taken)) queue.ended
            (λ k d within. HasEnded-have taken (behind watched moment taken) (behind_has watched moment taken)
            (behind_had watched moment taken) queue.lasting _ (is.ended k d within));
        ongoing = λ one goes.
            let before = is.ongoing one (rest_goes_on queue.ended queue.ongoing one goes) in
            record {
              lasts = before.lasts;
              lasts_to = before.lasts_to;
              last = rw (events_behind watched moment taken) before.last;
            };
        latest = rw (events_behind watched moment taken) is.latest;
      }

  -- What waits is the first candidate, or waits behind it.
  first_or_rest : (one : Logged) → Contains (waiting queue) one
      → (first.logged ≡ one) ⊎ Contains (waiting (without_first queue)) one
  first_or_rest one is = by_place (rw whole at is)
    where
      by_place : Contains (first.logged ∷ waiting (without_first queue)) one
          → (first.logged ≡ one) ⊎ Contains (waiting (without_first queue)) one
      by_place (zero, within, at) = inl at
      by_place (suc k, within, at) = inr (k, omega arith, at)

-- The queues without their first candidates.
module _ (queues : List EventQueue) where
  pub rest_at : (p : ℕ) → p < length queues
      → queue_at (map without_first queues) p ≡ without_first (queue_at queues p)
  rest_at p within = get_or-map without_first queues p (empty_queue [] While) (empty_queue [] While) within

  pub watched_rest : watched_by (map without_first queues) ≡ watched_by queues
  watched_rest = map-map seen without_first queues

  -- All of them begin the earliest moment.
  module _ (taken : List Taken) (floors : List ℕ) (distinct : HaveDistinctHosts (watched_by queues))
      (last : LastKnowsAll taken) (left : AreLeft taken queues floors) (under : AreUnderFloors queues floors)
      (settled : ArePassedByNone queues floors) (moment : ℕ → Logged)
      (earliest : IsEarliest (watched_by queues) taken moment) where
    have_heads : HaveFirsts queues
    have_heads p within = by_first (first_of (queue_at queues p)) refl
      where
        by_first : (first : Option Candidate) → first_of (queue_at queues p) ≡ first → is_some first ≡ true
        by_first (Some first) here = refl
        by_first None here = absurd (none_waits taken queues floors last left under settled (queue_at queues p)
            (moment p) here (waits_now taken queues floors last left under settled moment earliest.one p within))

    head_at : (p : ℕ) → p < length queues → (first : Candidate) × (first_of (queue_at queues p) ≡ Some first)
        × (own first.logged.event ≡ own (moment p).event)
    head_at p within = by_first (first_of (queue_at queues p)) refl (have_heads p within)
      where
        number : own (moment_among queues p).event ≡ own (moment p).event
        number =
            let firsts = IsEarliest-end taken queues floors last left under settled have_heads in
            let inside : p < length (watched_by queues) = omega (arith, length-map {B = HostWatch} queues seen) in
            let low = firsts.below moment earliest.one p inside in
            let high = earliest.below (moment_among queues) firsts.one p inside in
            omega (arith, low, high)

        by_first : (first : Option Candidate) → first_of (queue_at queues p) ≡ first → is_some first ≡ true
            → (one : Candidate) × (first ≡ Some one) × (own one.logged.event ≡ own (moment p).event)
        by_first None here some = absurd (false≢true some)
        by_first (Some first) here some = (
          first,
          refl,
          ap (λ (one : Logged). own one.event) (sym (moment_first queues p first here)) ∙ number,
        )

    of_watched : (p : ℕ) → p < length queues → (event : Event) → event.host ≡ (queue_at queues p).host
        → (p < length (watched_by queues)) × (event.host ≡ (watch_at (watched_by queues) p).host)
    of_watched p within event host = (
      omega (arith, length-map {B = HostWatch} queues seen),
      host ∙ ap (λ (watch : HostWatch). watch.host) (sym (watch_at-queue queues p within)),
    )

    -- A candidate or a later event that is in a moment behind isn't the first candidate.
    waits_behind : (p : ℕ) → p < length queues → (one : Logged) → one.event.host ≡ (queue_at queues p).host
        → is_up_to (watched_by queues) moment one.event ≡ false → Contains (waiting (queue_at queues p)) one
        → Contains (waiting (without_first (queue_at queues p))) one
    waits_behind p within one host not_up waits =
        let (first, here, number) = head_at p within in
        let (inside, of_host) = of_watched p within one.event host in
        ⊎_elim (λ (same : first.logged ≡ one). absurd (false≢true (sym not_up
        ∙ up_to_from (watched_by queues) moment one.event p inside of_host
        (omega (arith, number, ap (λ (x : Logged). own x.event) same)))))
        (λ (rest : Contains (waiting (without_first (queue_at queues p))) one). rest)
        (first_or_rest (watched_by queues) moment taken (queue_at queues p) first here one waits)

    pub AreLeft-behind : AreLeft (behind (watched_by queues) moment taken) (map without_first queues) floors
    AreLeft-behind = record {
      each = λ p within.
          let inside : p < length queues = omega (arith, length-map queues without_first) in
          let (first, here, number) = head_at p inside in
          rw (rest_at p inside) (IsQueueOf-behind (watched_by queues) moment taken (queue_at queues p) first here
          (left.each p inside) (λ event host above. let (within_all, of_host) = of_watched p inside event host in
          not_up_to (watched_by queues) moment event p distinct within_all of_host (omega (arith, above, number))));
      moments = λ more follow other is_rest.
          let is : IsMoment (watched_by queues) (behind (watched_by queues) moment taken ++ more) other =
          rw watched_rest at is_rest in
          let among = left.moments more (Follow-same (behind (watched_by queues) moment taken) taken more
          (events_behind (watched_by queues) moment taken) follow) other
          (IsMoment-taken (watched_by queues) moment taken more other is) in
          record {
            waits = λ p within.
                let inside : p < length queues = omega (arith, length-map queues without_first) in
                let of_all : p < length (watched_by queues) = omega (arith, length-map {B = HostWatch} queues seen) in
                let host = is.host p of_all
                ∙ ap (λ (watch : HostWatch). watch.host) (watch_at-queue queues p inside) in
                rw (rest_at p inside) (⊎_elim
                (λ (now : Contains (behind (watched_by queues) moment taken)
                (record { logged = other p; holds = true })). ⊎_elim
                (λ (waits : Contains (waiting (queue_at queues p)) (other p)). inl (waits_behind p inside (other p) host
                (held_before (watched_by queues) moment taken (other p) now).1 waits)) inr (among.waits p inside))
                inr (Contains-append_cases (behind (watched_by queues) moment taken) more _ (is.held p of_all)));
            knows = λ q within some.
                let inside : q < length queues = omega (arith, length-map queues without_first) in
                let (p, p_within, apart, knows) = among.knows q inside some in
                (p, omega (arith, length-map queues without_first), apart, rw (rest_at q inside) knows);
          };
    }
