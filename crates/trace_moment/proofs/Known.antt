-- Which moments are known: the first candidates are the earliest moment where none of them is over.
use Rattle.std.proofs.lemmas.Grind.{common_steps}
use Rattle.trace_moment.proofs.Words.{◌≡◌, ◌≢◌, ℕ, ◌+◌, ◌<◌, ◌≤◌, true, false, is_some, Option, Some, None, List, []}
use Rattle.trace_moment.proofs.Words.{◌∷◌}
use Rattle.trace_moment.proofs.Words.{◌++◌, length, set, slice_index, refl, sym, ◌∙◌, ap, subst, arith, inl, inr, ◌⊎◌}
use Rattle.trace_moment.proofs.Words.{⊎_elim, append-nil, cases_eq, length-set, length-map, Contains}
use Rattle.trace_moment.proofs.Words.{Contains-append_left, Contains-append_cases, Contains-push, All-head, All}
use Rattle.trace_moment.proofs.Words.{number_of, Event, Logged, HostWatch, Taken, own, IsOver, IsMoment, IsEarliest}
use Rattle.trace_moment.proofs.Words.{IsKnown}
use Rattle.trace_moment.proofs.Words.{Follow, Lasting, While, At, Candidate, EventQueue, queue_at, watched_by}
use Rattle.trace_moment.proofs.Words.{first_among}
use Rattle.trace_moment.proofs.Words.{first_of, waiting, prefix_clock, is_passed_among, stands, lasts_to_floor}
use Rattle.trace_moment.proofs.Words.{LastKnowsAll, HasEnded, GoesOn, AreLeft, AreUnderFloors, ArePassedByNone}
use Rattle.trace_moment.proofs.Words.{AllStand}
use Rattle.trace_moment.proofs.Words.{OneDoesNotStand, RiseTo}
use Rattle.trace_moment.specs.Queues.{HaveFirsts}
use Rattle.trace_moment.specs.Standing.{moment_among, NoneIsKnown, HasNoMoment}
use Rattle.trace_moment.proofs.Clocks.{ComesBefore-more, may_follow, number_of-cons, number_of-itself}
use Rattle.trace_moment.proofs.OneQueue.{none_after, first_is_candidate, first_or_after, waiting_none}
use Rattle.trace_moment.proofs.Left.{seen, IsMomentOf-from_moment, IsMoment-from_queues, IsSameHost, queue_at-other}
use Rattle.trace_moment.proofs.Left.{host-set}

-- The floors once those of the other hosts rose to the front of one.
module _ (queues : List EventQueue) (place : ℕ) (queue : EventQueue) (is : IsSameHost queues place queue)
    (old new : List ℕ) where
  abbrev all : List EventQueue
  all = set queues place queue

  abbrev known_of : ℕ → EventQueue → ℕ
  known_of q one = number_of (queue_at (set queues place queue) q).host (prefix_clock one)

  pub AreUnderFloors-raised : AreUnderFloors queues old → RiseTo (set queues place queue) place old new
      → AreUnderFloors (set queues place queue) new
  AreUnderFloors-raised under rise p p_in q q_in apart = grind (arith, cases_eq, length-set, host-set, queue_at-other)

  -- And where its front stays.
  pub AreUnderFloors-same : AreUnderFloors queues old → prefix_clock queue ≡ prefix_clock (queue_at queues place)
      → AreUnderFloors (set queues place queue) old
  AreUnderFloors-same under front p p_in q q_in apart = grind (arith, common_steps)

-- A first candidate has ended and isn't over, or it goes on.
state_parts : (ended : List Candidate) (ongoing : Option Candidate) (first : Candidate) (floor : ℕ)
    (P Q : Candidate → Type 0) → first_among ended ongoing ≡ Some first → is_passed_among floor ended ≡ false
    → All P ended → ((one : Candidate) → ongoing ≡ Some one → Q one)
    → (P first × (floor ≤ first.lasts_to)) ⊎ Q first
state_parts ended ongoing first floor P Q is stays all goes = grind (arith, common_steps, All-head)

-- A state isn't over up to the number that it lasts to.
not_over : (lasting : Lasting) (taken more : List Taken) (one : Candidate) (other : Event) → LastKnowsAll taken
    → Follow taken more → HasEnded lasting taken one ⊎ GoesOn lasting taken one
    → number_of one.logged.event.host other.clock ≤ one.lasts_to
    → IsOver lasting (taken ++ more) one.logged.event other → ⊥
not_over At taken more one other last follow (inl ended) low over = omega (arith, ended, over, low)
not_over At taken more one other last follow (inr goes) low over = absurd (cc (goes.lasts))
not_over While taken more one other last follow (inr goes) low (later, is, before) =
    omega (arith, before, ap (λ host. number_of host other.clock) is.host, low, goes.lasts_to, is.after)
not_over While taken more one other last follow (inl (next, after, number, least)) low (later, is, before) =
    let reached : own later.logged.event ≤ one.lasts_to =
    omega (arith, before, ap (λ host. number_of host other.clock) is.host, low) in
    ⊎_elim (λ (earlier : Contains taken later). omega
    (arith, reached, least later (record { was_taken = earlier; host = is.host; after = is.after })))
    (λ (comes : Contains more later). omega (
      arith,
      reached,
      number,
      (ComesBefore-more taken more next later last follow after.was_taken comes (after.host ∙ sym is.host)).own_rises,
    ))
    (Contains-append_cases taken more later is.was_taken)

-- At the end of the log a state that goes on is never over.
goes_for_ever : (lasting : Lasting) (taken : List Taken) (one : Candidate) (other : Event) → LastKnowsAll taken
    → GoesOn lasting taken one → IsOver lasting taken one.logged.event other → ⊥
goes_for_ever lasting taken one other last goes over = grind (arith, common_steps, goes.lasts, none_after)

-- The first candidate of a host.
abbrev pub IsFirstAt : List EventQueue → ℕ → Candidate → Type 0
IsFirstAt queues p first = first_of (queue_at queues p) ≡ Some first

first_there : (first : Option Candidate) → is_some first ≡ true → (one : Candidate) × (first ≡ Some one)
first_there first some = grind arith

none_there : (first : Option Candidate) → is_some first ≡ false → first ≡ None
none_there first none = grind arith

up_to_floor : (first : Option Candidate) (one : Candidate) (floor : ℕ) → first ≡ Some one
    → (lasts_to_floor floor first ≡ true → floor ≤ one.lasts_to) × (lasts_to_floor floor first ≡ false
    → one.lasts_to < floor)
up_to_floor first one floor is = grind arith

stands_there : (first : Option Candidate) (floor : ℕ) → lasts_to_floor floor first ≡ true → is_some first ≡ true
stands_there first floor stands = grind arith

pub moment_first : (queues : List EventQueue) (p : ℕ) (first : Candidate) → IsFirstAt queues p first
    → moment_among queues p ≡ first.logged
moment_first queues p first here = rw here refl

-- No first candidate is over where another begins.
abbrev pub NoneIsOver : List EventQueue → List Taken → Type 0
NoneIsOver queues all = (p q : ℕ) → p < length queues → q < length queues → p ≢ q → (first other : Candidate)
    → IsFirstAt queues p first → IsFirstAt queues q other
    → IsOver (queue_at queues p).lasting all first.logged.event other.logged.event → ⊥

-- Then they are the earliest moment.
module _ (taken more : List Taken) (queues : List EventQueue) (floors : List ℕ) (last : LastKnowsAll taken)
    (follow : Follow taken more) (left : AreLeft taken queues floors) (firsts : HaveFirsts queues)
    (none_over : NoneIsOver queues (taken ++ more)) where
  moment_is : (p : ℕ) → p < length queues → (first : Candidate) × IsFirstAt queues p first ×
      (moment_among queues p ≡ first.logged)
  moment_is p within = let (first, here) = first_there (first_of (queue_at queues p)) (firsts p within) in
      (first, here, moment_first queues p first here)

  pub IsEarliest-firsts : IsEarliest (watched_by queues) (taken ++ more) (moment_among queues)
  IsEarliest-firsts = record {
    one = IsMoment-from_queues queues (taken ++ more) (moment_among queues) (record {
      held = λ p within. let (first, here, is) = moment_is p within in
          rw is (Contains-append_left taken more _ (first_is_candidate taken (queue_at queues p) first
          (left.each p within) here).was_taken);
      host = λ p within. let (first, here, is) = moment_is p within in
          rw is (first_is_candidate taken (queue_at queues p) first (left.each p within) here).of_host;
      together = λ p q p_within q_within apart over.
          let (first, here, is) = moment_is p p_within in
          let (other, there, at) = moment_is q q_within in
          none_over p q p_within q_within apart first other here there (rw (is, at) at over);
    });
    below = λ other is p p_in.
        let within : p < length queues = omega (arith, length-map {B = HostWatch} queues seen) in
        let (first, here, at) = moment_is p within in
        let host = (IsMomentOf-from_moment queues (taken ++ more) other is).host p within in
        let after = first_or_after taken more (queue_at queues p) (other p) last follow (left.each p within) host
        ((left.moments more follow other is).waits p within) first here in
        rw at (grind arith);
  }

module _ (taken : List Taken) (queues : List EventQueue) (floors : List ℕ) (last : LastKnowsAll taken)
    (left : AreLeft taken queues floors) (under : AreUnderFloors queues floors)
    (settled : ArePassedByNone queues floors) where
  -- What another first candidate knows of a host is no more than its floor.
  under_floor : (p q : ℕ) → p < length queues → q < length queues → p ≢ q → (first other : Candidate)
      → IsFirstAt queues p first → IsFirstAt queues q other
      → number_of first.logged.event.host other.logged.event.clock ≤ slice_index floors p
  under_floor p q p_within q_within apart first other here there =
      let clock : prefix_clock (queue_at queues q) ≡ other.logged.event.clock = rw there refl in
      rw ((first_is_candidate taken (queue_at queues p) first (left.each p p_within) here).of_host, ← clock)
      (under q q_within p p_within apart)

  -- A first candidate has ended and isn't over, or it goes on.
  first_state : (p : ℕ) (first : Candidate) → p < length queues → IsFirstAt queues p first
      → (HasEnded (queue_at queues p).lasting taken first × (slice_index floors p ≤ first.lasts_to)) ⊎ GoesOn
      (queue_at queues p).lasting taken first
  first_state p first within here =
      state_parts (queue_at queues p).ended (queue_at queues p).ongoing first (slice_index floors p)
      (HasEnded (queue_at queues p).lasting taken) (GoesOn (queue_at queues p).lasting taken) here
      (settled p within) (left.each p within).ended (left.each p within).ongoing

  -- Where each first candidate lasts up to its floor the moment is known.
  pub IsKnown-stands : AllStand queues floors → IsKnown (watched_by queues) taken (moment_among queues)
  IsKnown-stands stands more follow = IsEarliest-firsts taken more queues floors last follow left
      (λ p within. stands_there _ _ (stands p within))
      (λ p q p_within q_within apart first other here there.
      let state = first_state p first p_within here in
      let lasts = (up_to_floor _ first _ here).0 (stands p p_within) in
      let known = under_floor p q p_within q_within apart first other here there in
      not_over (queue_at queues p).lasting taken more first other.logged.event last follow
      (⊎_elim (λ ended. inl ended.0) inr state) (omega (arith, lasts, known)))

  -- At the end of the log they are the earliest moment where each host has one.
  pub IsEarliest-end : HaveFirsts queues → IsEarliest (watched_by queues) taken (moment_among queues)
  IsEarliest-end firsts = rw append-nil at (IsEarliest-firsts taken [] queues floors last tt left firsts
      (λ p q p_within q_within apart first other here there over. ⊎_elim
      (λ (ended : HasEnded (queue_at queues p).lasting taken first × (slice_index floors p ≤ first.lasts_to)).
      not_over (queue_at queues p).lasting taken [] first other.logged.event last tt (inl ended.0)
      (omega (arith, ended.1, under_floor p q p_within q_within apart first other here there)) over)
      (λ (goes : GoesOn (queue_at queues p).lasting taken first). goes_for_ever
      (queue_at queues p).lasting taken first other.logged.event last goes (rw append-nil at over))
      (first_state p first p_within here)))

  -- A moment of what was taken is among what waits.
  pub waits_now : (moment : ℕ → Logged) → IsMoment (watched_by queues) taken moment → (p : ℕ) → p < length queues
      → Contains (waiting (queue_at queues p)) (moment p)
  waits_now moment is p within = ⊎_elim (λ (waits : Contains (waiting (queue_at queues p)) (moment p)). waits)
      (λ (later : Contains [] (record { logged = moment p; holds = true })). absurd (let (k, k_within, at) = later in
      omega arith)) ((left.moments [] tt moment (subst (λ (all : List Taken). IsMoment (watched_by queues) all moment)
      (sym (append-nil taken)) is)).waits p within)

  pub none_waits : (queue : EventQueue) (one : Logged) → first_of queue ≡ None → Contains (waiting queue) one → ⊥
  none_waits queue one lacks waits = let (k, within, at) = rw (waiting_none queue lacks) at waits in omega arith

  -- Where a host has no candidate there is none.
  pub HasNoMoment-end : (p : ℕ) → p < length queues → is_some (first_of (queue_at queues p)) ≡ false
      → HasNoMoment (watched_by queues) taken
  HasNoMoment-end p within lacks moment is = none_waits (queue_at queues p) (moment p) (none_there _ lacks)
      (waits_now moment is p within)

  -- The next event of a host after its candidate that goes on.
  abbrev next_after : Event → Taken
  next_after event = record {
    logged =
        record {
          line = 0;
          event = record {
            host = event.host;
            clock = record { name = event.host; number = own event + 1 } ∷ event.clock;
            text = [];
          };
        };
    holds = false;
  }

  own-next_after : (event : Event) → own (next_after event).logged.event ≡ own event + 1
  own-next_after event = let number = number_of-itself event.host (own event + 1) event.clock in omega (arith, number)

  -- A candidate that goes on and lasts to less than its floor would be over after such an event.
  module _ (q : ℕ) (within : q < length queues) (first : Candidate) (here : IsFirstAt queues q first)
      (goes : GoesOn (queue_at queues q).lasting taken first) (less : first.lasts_to < slice_index floors q) where
    abbrev next : Taken
    next = next_after first.logged.event

    follow : Follow taken (next ∷ [])
    follow = grind (arith, common_steps, may_follow, own-next_after, number_of-cons)

    not_first_then : (moment : ℕ → Logged) → IsMoment (watched_by queues) (taken ++ next ∷ []) moment
        → first.logged ≡ moment q → ⊥
    not_first_then moment is same =
        let (p, p_within, apart, knows) = (left.moments (next ∷ []) follow moment is).knows q within
        (omega (arith, less)) in
        let number = own-next_after first.logged.event in
        let reached : own next.logged.event ≤ number_of first.logged.event.host (moment p).event.clock =
        subst (λ name. own next.logged.event ≤ number_of name (moment p).event.clock)
        (sym (first_is_candidate taken (queue_at queues q) first (left.each q within) here).of_host)
        (omega (arith, number, knows, less, goes.lasts_to)) in
        let over : IsOver While (taken ++ next ∷ []) first.logged.event (moment p).event = (
          next,
          record { was_taken = Contains-push taken next; host = refl; after = omega (arith, number) },
          reached,
        ) in
        (IsMomentOf-from_moment queues (taken ++ next ∷ []) moment is).together q p within p_within
        (λ one. apart (sym one))
        (subst (λ lasting. IsOver lasting (taken ++ next ∷ []) (moment q).event (moment p).event) (sym goes.lasts)
        (subst (λ (x : Logged). IsOver While (taken ++ next ∷ []) x.event (moment p).event) same over))

    first_now : (moment : ℕ → Logged) → IsMoment (watched_by queues) taken moment → first.logged ≡ moment q
    first_now moment is =
        let of = IsMomentOf-from_moment queues taken moment is in
        let host = of.host q within
        ∙ sym (first_is_candidate taken (queue_at queues q) first (left.each q within) here).of_host in
        let none = none_after (queue_at queues q).lasting taken first
        (record { logged = moment q; holds = true }) last goes (of.held q within) host in
        let after = first_or_after taken [] (queue_at queues q) (moment q) last tt (left.each q within)
        (of.host q within) (inl (waits_now moment is q within)) first here in
        grind arith

    none_known : (moment : ℕ → Logged) → IsKnown (watched_by queues) taken moment → ⊥
    none_known moment known = not_first_then moment (known (next ∷ []) follow).one
        (first_now moment (rw append-nil at (known [] tt).one))

  pub NoneIsKnown-waits : OneDoesNotStand queues floors → NoneIsKnown (watched_by queues) taken
  NoneIsKnown-waits (q, within, stands_not) moment known = by_first (first_of (queue_at queues q)) refl
    where
      by_first : (first : Option Candidate) → first_of (queue_at queues q) ≡ first → ⊥
      by_first None here = none_waits (queue_at queues q) (moment q) here
          (waits_now moment (rw append-nil at (known [] tt).one) q within)
      by_first (Some first) here =
          let less = (up_to_floor _ first _ here).1 stands_not in
          elim (first_state q first within here) [
            | inl ended ↦ omega (arith, ended.1, less)
            | inr goes ↦ none_known q within first here goes less moment known
          ]
