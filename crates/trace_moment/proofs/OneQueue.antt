-- One queue, with one event more, and what its first candidate says of the moments.
use Rattle.std.proofs.lemmas.Grind.{common_steps}
use Rattle.trace_moment.proofs.Words.{◌≡◌, ◌≢◌, ℕ, ◌<◌, ◌≤◌, Bool, true, false, cond, Option, Some, None, is_some, List}
use Rattle.trace_moment.proofs.Words.{[], ◌∷◌, ◌++◌, length, map, get_or, refl, sym, ◌∙◌, ap, subst, arith, zero, suc}
use Rattle.trace_moment.proofs.Words.{inl, inr, ◌⊎◌, ⊎_elim, append-nil, map-append, Contains, Contains-append_left}
use Rattle.trace_moment.proofs.Words.{Contains-push, Contains-push_cases, All, All-contains, All-append, All-push}
use Rattle.trace_moment.proofs.Words.{AllPairs, all_pairs_push, option_to_list, number_of, Event, Logged, Member}
use Rattle.trace_moment.proofs.Words.{last_clock, Taken, own, events_of, IsLater, Follow, Lasting, While, At, Candidate}
use Rattle.trace_moment.proofs.Words.{EventQueue, first_among, first_of, begin_with, waiting, clock_of, prefix_clock}
use Rattle.trace_moment.proofs.Words.{begun}
use Rattle.trace_moment.proofs.Words.{ended_by, ending, going_on, with_event, KnowsNoMore, ComesBefore, LastKnowsAll}
use Rattle.trace_moment.proofs.Words.{IsCandidate, HasEnded, GoesOn, IsQueueOf}
use Rattle.std.proofs.lemmas.Bool.{cases_Bool}
use Rattle.trace_moment.proofs.Clocks.{ComesNext, last_clock-grows, ComesBefore-more, last_known-more}

-- What waits after an event: what waited before, and then what it begins.
waiting_parts : (lasting : Lasting) (ended : List Candidate) (ongoing now : Option Candidate) (number : ℕ)
    → (lasting ≡ At → ongoing ≡ None)
    → begin_with ((ended ++ map (ended_by number) (option_to_list (ending lasting ongoing now))) ++ option_to_list
    (going_on lasting now)) ≡ begin_with (ended ++ option_to_list ongoing) ++ begin_with (option_to_list now)
waiting_parts lasting ended ongoing now number alone = grind (arith, map-append, append-nil)

-- The front stays the first candidate's, where there is one.
prefix_parts : (lasting : Lasting) (ended : List Candidate) (ongoing now : Option Candidate) (number : ℕ)
    (latest newer : List Member) → (lasting ≡ At → ongoing ≡ None) → is_some (first_among ended ongoing) ≡ true
    → clock_of (first_among (ended ++ map (ended_by number) (option_to_list (ending lasting ongoing now)))
    (going_on lasting now)) newer ≡ clock_of (first_among ended ongoing) latest
prefix_parts lasting ended ongoing now number latest newer alone some = grind arith

first_parts : (ended : List Candidate) (ongoing : Option Candidate) (first : Candidate)
    → first_among ended ongoing ≡ Some first
    → (rest : List Logged) × (begin_with (ended ++ option_to_list ongoing) ≡ first.logged ∷ rest)
first_parts [] None first is = absurd (cc)
first_parts [] (Some one) first is = let same : one ≡ first = cc in ([], rw same refl)
first_parts (one ∷ others) ongoing first is = let same : one ≡ first = cc in
    (begin_with (others ++ option_to_list ongoing), rw same refl)

none_parts : (ended : List Candidate) (ongoing : Option Candidate) → first_among ended ongoing ≡ None
    → begin_with (ended ++ option_to_list ongoing) ≡ []
none_parts ended ongoing is = grind arith

All-one : (P : Candidate → Type 0) (one : Candidate) → P one → All P (one ∷ [])
All-one P one here = All-push P [] one (λ k d within. absurd (omega arith)) here

-- No event of the host was taken after that of a candidate that goes on.
pub none_after : (lasting : Lasting) (taken : List Taken) (one : Candidate) (other : Taken) → LastKnowsAll taken
    → GoesOn lasting taken one → Contains taken other → other.logged.event.host ≡ one.logged.event.host
    → own other.logged.event ≤ own one.logged.event
none_after lasting taken one other last goes was_taken same = grind arith

module _ (taken : List Taken) (next : Taken) (last : LastKnowsAll taken) (comes : ComesNext taken next) where
  abbrev longer : List Taken
  longer = taken ++ next ∷ []

  -- A later event was taken before, or is the next one.
  later_cases : (event : Event) (later : Taken) → IsLater longer event later → IsLater taken event later ⊎
      (next ≡ later)
  later_cases event later is = grind (arith, Contains-push_cases taken next later is.was_taken)

  -- What ended a state ends it still.
  HasEnded-push : (lasting : Lasting) (one : Candidate) → HasEnded lasting taken one → HasEnded lasting longer one
  HasEnded-push At one ended = ended
  HasEnded-push While one (end, later, number, least) =
      let before = comes.before last end later.was_taken in (
        end,
        grind (arith, Contains-append_left),
        number,
        λ other is. let cases = later_cases one.logged.event other is in grind arith,
      )

  -- The next event ends a state that goes on.
  HasEnded-now : (lasting : Lasting) (one : Candidate) → GoesOn lasting taken one
      → IsCandidate taken next.logged.event.host one.logged → HasEnded lasting longer
      (ended_by (own next.logged.event) one)
  HasEnded-now At one goes is = absurd (cc (goes.lasts))
  HasEnded-now While one goes is =
      let before = comes.before last (record { logged = one.logged; holds = true }) is.was_taken is.of_host in (
        next,
        record { was_taken = Contains-push taken next; host = sym is.of_host; after = before.own_rises },
        omega (arith, before.own_rises),
        λ other later.
            let cases = later_cases one.logged.event other later in
            let known : IsLater taken one.logged.event other → own other.logged.event ≤ own one.logged.event =
            λ earlier. none_after While taken one other last goes earlier.was_taken earlier.host in
            grind arith,
      )

  IsCandidate-push : (host : List ℕ) (logged : Logged) → IsCandidate taken host logged → IsCandidate longer host logged
  IsCandidate-push host logged is = grind (arith, Contains-append_left)

  module _ (queue : EventQueue) (is : IsQueueOf taken queue) where
    -- The candidate that goes on is one of those that wait.
    ongoing_candidate : (one : Candidate) → queue.ongoing ≡ Some one → IsCandidate taken queue.host one.logged
    ongoing_candidate one goes = All-contains (IsCandidate taken queue.host) (waiting queue) one.logged is.candidates
        (rw (goes, map-append (λ (x : Candidate). x.logged) queue.ended (one ∷ []))
        (Contains-push (begin_with queue.ended) one.logged))

    -- An event of another host leaves the queue as it is.
    pub IsQueueOf-other : next.logged.event.host ≢ queue.host → IsQueueOf longer queue
    IsQueueOf-other other = record {
      candidates = λ k d within. IsCandidate-push queue.host _ (is.candidates k d within);
      in_order = is.in_order;
      ended = λ k d within. HasEnded-push queue.lasting _ (is.ended k d within);
      ongoing = λ one here.
          let host = (ongoing_candidate one here).of_host in
          let goes = is.ongoing one here in
          grind (arith, comes.others one.logged.event.host);
      latest = λ name. omega (arith, is.latest name, last_clock-grows taken next comes queue.host name);
    }

    -- Under `At` none goes on.
    none_goes_on : queue.lasting ≡ At → queue.ongoing ≡ None
    none_goes_on at = by_ongoing queue.ongoing refl
      where
        by_ongoing : (ongoing : Option Candidate) → queue.ongoing ≡ ongoing → ongoing ≡ None
        by_ongoing None here = refl
        by_ongoing (Some one) here = let lasts = (is.ongoing one here).lasts in absurd (cc)

    module _ (same : next.logged.event.host ≡ queue.host) where
      abbrev number : ℕ
      number = number_of queue.host next.logged.event.clock

      number_is : number_of queue.host next.logged.event.clock ≡ own next.logged.event
      number_is = ap (λ host. number_of host next.logged.event.clock) (sym same)

      pub prefix_clock-event : is_some (first_of queue) ≡ true → prefix_clock (with_event queue next.logged next.holds)
          ≡ prefix_clock queue
      prefix_clock-event some = grind arith

      -- What waits after it: the event too, where the condition holds.
      pub waiting_after : (P : List Logged → Type 0) → (next.holds ≡ true → P (waiting queue ++ next.logged ∷ []))
          → (next.holds ≡ false → P (waiting queue)) → P (waiting (with_event queue next.logged next.holds))
      waiting_after P with_it without = grind (arith, waiting_parts, none_goes_on, append-nil)

      comes_last : (k : ℕ) (d : Logged) → k < length (waiting queue)
          → ComesBefore (get_or (waiting queue) k d).event next.logged.event
      comes_last k d within = grind (arith, common_steps)

      -- What the event ends has ended.
      ending_has_ended : (lasting : Lasting) (ongoing : Option Candidate) (holds : Bool)
          → ((one : Candidate) → ongoing ≡ Some one → GoesOn lasting taken one
          × IsCandidate taken next.logged.event.host one.logged) → All (HasEnded lasting longer)
          (map (ended_by (own next.logged.event))
          (option_to_list (ending lasting ongoing (begun (own next.logged.event) next.logged holds))))
      ending_has_ended lasting ongoing holds goes = grind (arith, common_steps, All-one, HasEnded-now)

      -- A queue with its host's next event.
      pub IsQueueOf-event : IsQueueOf longer (with_event queue next.logged next.holds)
      IsQueueOf-event = record {
        candidates = waiting_after (All (IsCandidate longer queue.host))
            (λ holds. All-push (IsCandidate longer queue.host) (waiting queue) next.logged
            (λ k d within. IsCandidate-push queue.host _ (is.candidates k d within)) (record {
              was_taken = subst (λ b. Contains longer (record { logged = next.logged; holds = b })) holds
                  (Contains-push taken next);
              of_host = same;
            })) (λ _. λ k d within. IsCandidate-push queue.host _ (is.candidates k d within));
        in_order = waiting_after (AllPairs (λ one other. ComesBefore one.event other.event))
            (λ _. all_pairs_push (λ one other. ComesBefore one.event other.event)
            (waiting queue) next.logged is.in_order comes_last) (λ _. is.in_order);
        ended = All-append (HasEnded queue.lasting longer) queue.ended _
            (λ k d within. HasEnded-push queue.lasting _ (is.ended k d within))
            (rw number_is (ending_has_ended queue.lasting queue.ongoing next.holds
            (λ one goes. let candidate = ongoing_candidate one goes in (
              is.ongoing one goes,
              record { was_taken = candidate.was_taken; of_host = candidate.of_host ∙ sym same },
            ))));
        ongoing = going_on_goes queue.lasting next.holds;
        latest = latest_after next.holds;
      }
        where
          going_on_goes : (lasting : Lasting) (holds : Bool) (one : Candidate)
              → going_on lasting (begun number next.logged holds) ≡ Some one → GoesOn lasting longer one
          going_on_goes lasting holds one goes = grind (arith, number_is, comes.itself)

          latest_after : (holds : Bool) → KnowsNoMore (cond holds queue.latest next.logged.event.clock)
              (last_clock queue.host (events_of longer))
          latest_after holds name = grind (
            arith,
            is.latest name,
            last_clock-grows taken next comes queue.host name,
            comes.itself,
            cases_Bool holds,
          )

-- The first candidate's event is the first that waits.
first_waits_first : (queue : EventQueue) (first : Candidate) → first_of queue ≡ Some first
    → (rest : List Logged) × (waiting queue ≡ first.logged ∷ rest)
first_waits_first queue first is = first_parts queue.ended queue.ongoing first is

pub waiting_none : (queue : EventQueue) → first_of queue ≡ None → waiting queue ≡ []
waiting_none queue is = none_parts queue.ended queue.ongoing is

pub first_is_candidate : (taken : List Taken) (queue : EventQueue) (first : Candidate) → IsQueueOf taken queue
    → first_of queue ≡ Some first → IsCandidate taken queue.host first.logged
first_is_candidate taken queue first is here = grind arith

-- What waits is the first of all, or comes after it.
first_before : (first : Logged) (rest : List Logged) (one : Logged)
    → AllPairs (λ (x y : Logged). ComesBefore x.event y.event) (first ∷ rest) → Contains (first ∷ rest) one
    → (first ≡ one) ⊎ ComesBefore first.event one.event
first_before first rest one in_order (zero, within, is) = inl is
first_before first rest one in_order (suc k, within, is) =
    inr (subst (λ (x : Logged). ComesBefore first.event x.event) is (in_order 0 (suc k) one (omega arith) within))

module _ (taken more : List Taken) (queue : EventQueue) (one : Logged) (last : LastKnowsAll taken)
    (follow : Follow taken more) (is : IsQueueOf taken queue) (of_host : one.event.host ≡ queue.host)
    (among : Contains (waiting queue) one ⊎ Contains more (record { logged = one; holds = true })) where
  -- An event of the host that can be in a moment is the first candidate, or comes after it.
  pub first_or_after : (first : Candidate) → first_of queue ≡ Some first
      → (first.logged ≡ one) ⊎ ComesBefore first.logged.event one.event
  first_or_after first here = ⊎_elim (λ (waits : Contains (waiting queue) one).
      let (rest, all) = first_waits_first queue first here in
      first_before first.logged rest one (rw all at is.in_order) (rw all at waits))
      (λ (later : Contains more (record { logged = one; holds = true })).
      let candidate = first_is_candidate taken queue first is here in
      inr (ComesBefore-more taken more (record { logged = first.logged; holds = true })
      (record { logged = one; holds = true }) last follow candidate.was_taken later (candidate.of_host ∙ sym of_host)))
      among

  -- So it knows what the front knows.
  pub prefix_known : KnowsNoMore (prefix_clock queue) one.event.clock
  prefix_known name = by_first (first_of queue) refl
    where
      by_first : (first : Option Candidate) → first_of queue ≡ first
          → number_of name (clock_of first queue.latest) ≤ number_of name one.event.clock
      by_first (Some first) here = grind (arith, first_or_after first here)
      by_first None here = ⊎_elim (λ (waits : Contains (waiting queue) one). absurd
          (let (k, within, at) = rw (waiting_none queue here) at waits in omega arith))
          (λ (later : Contains more (record { logged = one; holds = true })). omega (
            arith,
            is.latest name,
            rw of_host at (last_known-more taken more (record { logged = one; holds = true }) follow later name),
          ))
          among
