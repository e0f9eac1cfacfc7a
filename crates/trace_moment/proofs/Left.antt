-- What elimination leaves, with an event more, under higher floors, and without a candidate that is over.
use Rattle.std.proofs.lemmas.Grind.{common_steps}
use Rattle.trace_moment.proofs.Words.{◌≡◌, ◌≢◌, ℕ, ◌<◌, ◌≤◌, true, false, List, [], ◌∷◌, ◌++◌, length, set, drop}
use Rattle.trace_moment.proofs.Words.{slice_index, refl, sym, ◌∙◌, ap, subst, arith, suc, inl, inr, ◌⊎◌, ⊎_elim}
use Rattle.trace_moment.proofs.Words.{append_assoc, cases_eq, get_or-set_same, get_or-set_other, length-set, length-map}
use Rattle.trace_moment.proofs.Words.{Contains, Contains-append_left, Contains-push, All-head, All-tail, number_of}
use Rattle.trace_moment.proofs.Words.{Logged, HostWatch, Taken, watch_at, HaveDistinctHosts, IsOver, IsMoment, Lasting}
use Rattle.trace_moment.proofs.Words.{While}
use Rattle.trace_moment.proofs.Words.{Candidate, EventQueue, empty_queue, queue_at, watched_by, waiting}
use Rattle.trace_moment.proofs.Words.{is_passed_among}
use Rattle.trace_moment.proofs.Words.{is_passed, with_event, LastKnowsAll, HasEnded, IsQueueOf, IsKnownElsewhere}
use Rattle.trace_moment.proofs.Words.{IsAmong}
use Rattle.trace_moment.proofs.Words.{AreLeft, RiseTo, IsNextAt, IsCandidate, false≢true, Event}
use Rattle.std.proofs.Math.Seq.{map-set_same}
use Rattle.std.proofs.lemmas.Bool.{cases_lt}
use Rattle.trace_moment.proofs.Clocks.{comes_next, first_or_later}
use Rattle.trace_moment.proofs.OneQueue.{IsQueueOf-other, IsQueueOf-event, waiting_after, prefix_known}

abbrev pub seen : EventQueue → HostWatch
seen queue = record { host = queue.host; lasting = queue.lasting }

-- The watched hosts by their queues.
pub watch_at-queue : (queues : List EventQueue) (p : ℕ) → p < length queues → watch_at (watched_by queues) p ≡ seen
    (queue_at queues p)
watch_at-queue queues p within = grind (arith, common_steps)

pub distinct_queues : (queues : List EventQueue) → HaveDistinctHosts (watched_by queues) → (p q : ℕ) → p < length queues
    → q < length queues → (queue_at queues p).host ≡ (queue_at queues q).host → p ≡ q
distinct_queues queues distinct p q p_within q_within same =
    grind (arith, watch_at-queue queues, length-map {B = HostWatch} queues seen)

-- A moment of the watched hosts, by their queues.
pub record IsMomentOf (queues : List EventQueue) (taken : List Taken) (moment : ℕ → Logged) : Type 0 where
  pub held : (p : ℕ) → p < length queues → Contains taken (record { logged = moment p; holds = true })
  pub host : (p : ℕ) → p < length queues → (moment p).event.host ≡ (queue_at queues p).host
  pub together : (p q : ℕ) → p < length queues → q < length queues → p ≢ q → IsOver (queue_at queues p).lasting taken
      (moment p).event (moment q).event → ⊥

module _ (queues : List EventQueue) (taken : List Taken) (moment : ℕ → Logged) where
  pub IsMomentOf-from_moment : IsMoment (watched_by queues) taken moment → IsMomentOf queues taken moment
  IsMomentOf-from_moment is = grind (arith, length-map {B = HostWatch} queues seen, watch_at-queue queues)

  pub IsMoment-from_queues : IsMomentOf queues taken moment → IsMoment (watched_by queues) taken moment
  IsMoment-from_queues is = grind (arith, length-map {B = HostWatch} queues seen, watch_at-queue queues)

-- A queue in the place of another one of the same host.
pub record IsSameHost (queues : List EventQueue) (place : ℕ) (queue : EventQueue) : Type 0 where
  pub within : place < length queues
  pub host : queue.host ≡ (queue_at queues place).host
  pub lasting : queue.lasting ≡ (queue_at queues place).lasting

module _ (queues : List EventQueue) (place : ℕ) (queue : EventQueue) (is : IsSameHost queues place queue) where
  pub watched_by-set : watched_by (set queues place queue) ≡ watched_by queues
  watched_by-set = map-set_same seen queues place queue (empty_queue [] While) (let host = is.host in let lasting =
      is.lasting in cc)

  pub queue_at-itself : queue_at (set queues place queue) place ≡ queue
  queue_at-itself = get_or-set_same queues place queue (empty_queue [] While) is.within

  pub queue_at-other : (p : ℕ) → p ≢ place → queue_at (set queues place queue) p ≡ queue_at queues p
  queue_at-other p other = get_or-set_other queues place p queue (empty_queue [] While) other

  pub host-set : (p : ℕ) → (queue_at (set queues place queue) p).host ≡ (queue_at queues p).host
  host-set p = grind (arith, cases_eq, queue_at-itself, queue_at-other)

  -- What holds of it and of each other queue holds of each.
  pub each_queue : (P : ℕ → EventQueue → Type 0) → P place queue
      → ((p : ℕ) → p < length queues → p ≢ place → P p (queue_at queues p)) → (p : ℕ)
      → p < length (set queues place queue) → P p (queue_at (set queues place queue) p)
  each_queue P here others p within = grind (arith, queue_at-itself, queue_at-other, length-set, cases_eq)

  -- A moment is among what is left with it, where the old queues and what comes after have it so.
  abbrev pub StillWaits : List Taken → (ℕ → Logged) → ℕ → EventQueue → Type 0
  StillWaits more moment p one = Contains (waiting one) (moment p) ⊎ Contains more
      (record { logged = moment p; holds = true })

  pub IsAmong-set : (floors : List ℕ) (more later : List Taken) (moment : ℕ → Logged)
      → IsAmong queues floors more moment → StillWaits later moment place queue
      → ((p : ℕ) → p < length queues → p ≢ place → StillWaits later moment p (queue_at queues p))
      → IsAmong (set queues place queue) floors later moment
  IsAmong-set floors more later moment among here others = record {
    waits = each_queue (StillWaits later moment) here others;
    knows = λ q within some.
        let (p, p_within, apart, knows) = among.knows q (omega (arith, length-set queues place queue)) some in
        (p, omega (arith, length-set queues place queue), apart, rw (host-set q) knows);
  }

-- An event more of the host at a place.
module _ (taken : List Taken) (next : Taken) (queues : List EventQueue) (floors : List ℕ) (place : ℕ)
    (within : place < length queues) (distinct : HaveDistinctHosts (watched_by queues)) (last : LastKnowsAll taken)
    (at : IsNextAt (watched_by queues) place taken next.logged) where
  abbrev queue : EventQueue
  queue = with_event (queue_at queues place) next.logged next.holds

  pub of_host : next.logged.event.host ≡ (queue_at queues place).host
  of_host = at.host ∙ ap (λ (w : HostWatch). w.host) (watch_at-queue queues place within)

  same_host : IsSameHost queues place queue
  same_host = record { within = within; host = refl; lasting = refl }

  module _ (left : AreLeft taken queues floors) where
    module _ (more : List Taken) (moment : ℕ → Logged) (is : IsMomentOf queues (taken ++ next ∷ more) moment)
        (among : IsAmong queues floors (next ∷ more) moment) where
      -- The event is one of the moment's only at its own host.
      is_place : (p : ℕ) → p < length queues → next ≡ record { logged = moment p; holds = true } → p ≡ place
      is_place p p_within same = grind (arith, distinct_queues, of_host)

      by_cases : (p : ℕ) (one : EventQueue) → p < length queues → (Contains (waiting (queue_at queues p)) (moment p)
          → Contains (waiting one) (moment p)) → (next ≡ record { logged = moment p; holds = true }
          → Contains (waiting one) (moment p))
          → StillWaits queues place queue same_host more moment p one
      by_cases p one p_within waits now = ⊎_elim (λ (here : Contains (waiting (queue_at queues p)) (moment p)). inl
          (waits here)) (λ (comes : Contains (next ∷ more) (record { logged = moment p; holds = true })). ⊎_elim
          (λ (is : next ≡ record { logged = moment p; holds = true }). inl (now is)) inr
          (first_or_later next more _ comes)) (among.waits p p_within)

      among_event : IsAmong (set queues place queue) floors more moment
      among_event = IsAmong-set queues place queue same_host floors (next ∷ more) more moment among
          (by_cases place queue within (λ here. after (λ xs. Contains xs (moment place))
          (λ _. Contains-append_left (waiting (queue_at queues place)) _ (moment place) here) (λ _. here))
          (λ now. after (λ xs. Contains xs (moment place))
          (λ _. subst (λ (x : Taken). Contains (waiting (queue_at queues place) ++ next.logged ∷ []) x.logged)
          now (Contains-push (waiting (queue_at queues place)) next.logged))
          (λ not. absurd (false≢true (sym not ∙ ap (λ (x : Taken). x.holds) now)))))
          (λ p p_within other. by_cases p (queue_at queues p) p_within (λ here. here)
          (λ now. absurd (other (is_place p p_within now))))
        where
          after : (P : List Logged → Type 0)
              → (next.holds ≡ true → P (waiting (queue_at queues place) ++ next.logged ∷ []))
              → (next.holds ≡ false → P (waiting (queue_at queues place))) → P (waiting queue)
          after = waiting_after taken next last (comes_next taken next at.follows) (queue_at queues place)
              (left.each place within) of_host

    pub AreLeft-event : AreLeft (taken ++ next ∷ [])
        (set queues place (with_event (queue_at queues place) next.logged next.holds)) floors
    AreLeft-event = record {
      each = each_queue queues place queue same_host (λ p q. IsQueueOf (taken ++ next ∷ []) q)
          (IsQueueOf-event taken next last (comes_next taken next at.follows) (queue_at queues place)
          (left.each place within) of_host)
          (λ p p_within other. IsQueueOf-other taken next last (comes_next taken next at.follows) (queue_at queues p)
          (left.each p p_within)
          (λ same. other (distinct_queues queues distinct p place p_within within (sym same ∙ of_host))));
      moments = λ more follow moment is.
          let before : IsMoment (watched_by queues) (taken ++ next ∷ more) moment =
          rw (watched_by-set queues place queue same_host, append_assoc taken (next ∷ []) more) at is in
          among_event more moment (IsMomentOf-from_moment queues (taken ++ next ∷ more) moment before)
          (left.moments (next ∷ more) (at.follows, follow) moment before);
    }

-- Higher floors: each moment knows what the front of a host knows.
pub AreLeft-raised : (taken : List Taken) (queues : List EventQueue) (old new : List ℕ) (place : ℕ)
    → place < length queues → LastKnowsAll taken → RiseTo queues place old new → AreLeft taken queues old
    → AreLeft taken queues new
AreLeft-raised taken queues old new place within last rise left = record {
  each = left.each;
  moments = λ more follow moment is.
      let among = left.moments more follow moment is in
      record {
        waits = among.waits;
        knows = λ q q_within some.
            let host = (IsMomentOf-from_moment queues (taken ++ more) moment is).host place within in
            let known = prefix_known taken more (queue_at queues place) (moment place) last follow
            (left.each place within) host (among.waits place within) (queue_at queues q).host in
            let rises = rise.others q q_within in
            let kept_or_raised : (slice_index new q ≡ slice_index old q) ⊎
            ((place ≢ q) × (slice_index new q ≤ number_of (queue_at queues q).host (moment place).event.clock)) =
            grind (arith, cases_eq, cases_lt, rise.itself) in
            ⊎_elim
            (λ (kept : slice_index new q ≡ slice_index old q). subst (IsKnownElsewhere queues moment q) (sym kept)
            (among.knows q q_within (omega (arith, kept, some))))
            (λ (raised : (place ≢ q) × (slice_index new q ≤ number_of (queue_at queues q).host
            (moment place).event.clock)). (place, within, raised.0, raised.1)) kept_or_raised;
      };
}

passed_parts : (ended : List Candidate) (floor : ℕ) → is_passed_among floor ended ≡ true
    → (first : Candidate) × (others : List Candidate) × (ended ≡ first ∷ others) × (first.lasts_to < floor)
passed_parts ended floor passed = grind arith

-- A queue without its first candidate.
IsQueueOf-rest : (taken : List Taken) (queue : EventQueue) (first : Candidate) (others : List Candidate)
    → IsQueueOf taken (record queue { ended = first ∷ others }) → IsQueueOf taken (record queue { ended = others })
IsQueueOf-rest taken queue first others is = record {
  candidates = All-tail (IsCandidate taken queue.host) first.logged _ is.candidates;
  in_order = λ i j d less within. is.in_order (suc i) (suc j) d (omega arith) (omega arith);
  ended = All-tail (HasEnded queue.lasting taken) first others is.ended;
  ongoing = is.ongoing;
  latest = is.latest;
}

-- A state that has ended is over where the host's number is above the one that it lasts to.
over_above : (lasting : Lasting) (taken more : List Taken) (one : Candidate) (other : Event)
    → HasEnded lasting taken one → one.lasts_to < number_of one.logged.event.host other.clock
    → IsOver lasting (taken ++ more) one.logged.event other
over_above lasting taken more one other is above = grind (arith, common_steps)

-- A candidate that is over is in no moment.
module _ (taken : List Taken) (queues : List EventQueue) (floors : List ℕ) (place : ℕ) (within : place < length queues)
    (first : Candidate) (others : List Candidate) (parts : (queue_at queues place).ended ≡ first ∷ others)
    (less : first.lasts_to < slice_index floors place) (left : AreLeft taken queues floors) where
  abbrev old : EventQueue
  old = queue_at queues place

  abbrev shorter : EventQueue
  shorter = record old { ended = others }

  whole : IsQueueOf taken (record old { ended = first ∷ others })
  whole = subst (λ (ended : List Candidate). IsQueueOf taken (record old { ended = ended })) parts
      (left.each place within)

  same_shorter : IsSameHost queues place shorter
  same_shorter = record { within = within; host = refl; lasting = refl }

  module _ (more : List Taken) (moment : ℕ → Logged) (is : IsMomentOf queues (taken ++ more) moment)
      (among : IsAmong queues floors more moment) where
    not_first : first.logged ≡ moment place → ⊥
    not_first same =
        let (p, p_within, apart, knows) = among.knows place within (omega (arith, less)) in
        let over = over_above old.lasting taken more first (moment p).event
        (All-head (HasEnded old.lasting taken) first others whole.ended)
        (rw (ap (λ (x : Logged). x.event.host) same ∙ is.host place within) (omega (arith, less, knows))) in
        is.together place p within p_within (λ one. apart (sym one))
        (subst (λ (x : Logged). IsOver old.lasting (taken ++ more) x.event (moment p).event) same over)

    in_rest : Contains (waiting (record old { ended = first ∷ others })) (moment place) → Contains (waiting shorter)
        (moment place)
    in_rest is = grind (arith, not_first)

    among_shorter : IsAmong (set queues place shorter) floors more moment
    among_shorter = IsAmong-set queues place shorter same_shorter floors more more moment among
        (⊎_elim (λ (waits : Contains (waiting old) (moment place)). inl (in_rest
        (subst (λ (ended : List Candidate). Contains (waiting (record old { ended = ended })) (moment place))
        parts waits))) inr (among.waits place within)) (λ p p_within other. among.waits p p_within)

  AreLeft-rest : AreLeft taken (set queues place shorter) floors
  AreLeft-rest = record {
    each = each_queue queues place shorter same_shorter (λ p q. IsQueueOf taken q)
        (IsQueueOf-rest taken old first others whole) (λ p p_within other. left.each p p_within);
    moments = λ more follow moment is.
        let before : IsMoment (watched_by queues) (taken ++ more) moment =
        rw (watched_by-set queues place shorter same_shorter) at is in
        among_shorter more moment (IsMomentOf-from_moment queues (taken ++ more) moment before)
        (left.moments more follow moment before);
  }

pub AreLeft-dropped : (taken : List Taken) (queues : List EventQueue) (floors : List ℕ) (place : ℕ)
    → place < length queues → is_passed (queue_at queues place) (slice_index floors place) ≡ true
    → AreLeft taken queues floors
    → AreLeft taken
    (set queues place (record (queue_at queues place) { ended = drop 1 (queue_at queues place).ended })) floors
AreLeft-dropped taken queues floors place within passed left =
    let (first, others, parts, less) = passed_parts (queue_at queues place).ended (slice_index floors place) passed in
    rw parts (AreLeft-rest taken queues floors place within first others parts less left)
