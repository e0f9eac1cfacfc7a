-- The events of a watched host among those that were taken, and what is kept of them.
use Rattle.trace_explain.proofs.Words.{◌≡◌, ℕ, ◌+◌, ◌<◌, ◌≤◌, true, List, [], length, get_or, sym}
use Rattle.trace_explain.proofs.Words.{◌∙◌, ap, subst, arith, slice_index, zero, suc, ⊎_elim, ◌⊎◌, inl, inr, length-map, get_or-map}
use Rattle.trace_explain.proofs.Words.{get_or_default, bytes_eq-Decides, Contains, bytes_eq, number_of}
use Rattle.trace_explain.proofs.Words.{Event, HostWatch, Taken, watch_at, own, IsOver}
use Rattle.trace_explain.proofs.Words.{KnowsNoMore, ComesBefore, Lasting, While, At, Past, past_of, of_host}
use Rattle.trace_explain.proofs.Words.{past_host, no_past, past_at, number_at, AreInOrder, IsAt, end_at}
use Rattle.trace_explain.proofs.Filters.{filter-Contains, filter-test, Contains-filter}

abbrev pub some_taken : Taken
some_taken = record {
  logged = record { line = 0; event = record { host = []; clock = []; text = [] } };
  holds = true;
}

-- A number is below another, or no less.
pub before_or : (i j : ℕ) → (suc i ≤ j) ⊎ (j ≤ i)
before_or i zero = inr (omega arith)
before_or zero (suc j) = inl (omega arith)
before_or (suc i) (suc j) =
    ⊎_elim (λ (x : suc i ≤ j). inl (omega arith)) (λ (x : j ≤ i). inr (omega arith)) (before_or i j)

module _ (host : List ℕ) (taken : List Taken) where
  -- The event at a place.
  pub at-get : (k : ℕ) → k < length (of_host host taken) → IsAt host taken k (get_or (of_host host taken) k some_taken)
  at-get k within = record {
    within = within;
    is = get_or_default (of_host host taken) k (get_or (of_host host taken) k some_taken) some_taken within;
  }

  pub event-at : (k : ℕ) → k < length (of_host host taken) → (one : Taken) × IsAt host taken k one
  event-at k within = (get_or (of_host host taken) k some_taken, at-get k within)

  -- Two at one place are one.
  pub same-at : (k : ℕ) (one other : Taken) → IsAt host taken k one → IsAt host taken k other → one ≡ other
  same-at k one other first second = sym first.is ∙ get_or_default (of_host host taken) k one other first.within
      ∙ second.is

  pub Contains-at : (k : ℕ) (one : Taken) → IsAt host taken k one → Contains (of_host host taken) one
  Contains-at k one is = (k, is.within, is.is)

  pub at-was_taken : (k : ℕ) (one : Taken) → IsAt host taken k one → Contains taken one
  at-was_taken k one is = filter-Contains (λ one. bytes_eq one.logged.event.host host) taken one (Contains-at k one is)

  pub at-host : (k : ℕ) (one : Taken) → IsAt host taken k one → one.logged.event.host ≡ host
  at-host k one is = (bytes_eq-Decides one.logged.event.host host).0
      (filter-test (λ one. bytes_eq one.logged.event.host host) taken one (Contains-at k one is))

  -- Each event of the host has a place.
  pub at-place : (one : Taken) → Contains taken one → one.logged.event.host ≡ host → (k : ℕ) × IsAt host taken k one
  at-place one was_taken same =
      let found = Contains-filter (λ one. bytes_eq one.logged.event.host host) taken one was_taken
      ((bytes_eq-Decides one.logged.event.host host).1 same) in
      (found.0, record { within = found.1; is = found.2 })

  pub own-at : (k : ℕ) (one : Taken) → IsAt host taken k one → own one.logged.event
      ≡ number_of host one.logged.event.clock
  own-at k one is = ap (λ name. number_of name one.logged.event.clock) (at-host k one is)

  module _ (in_order : AreInOrder taken) where
    pub before-at : (i j : ℕ) (one other : Taken) → i < j → IsAt host taken i one → IsAt host taken j other
        → ComesBefore one.logged.event other.logged.event
    before-at i j one other below first second =
        let same : get_or (of_host host taken) j one ≡ other =
        get_or_default (of_host host taken) j one other second.within ∙ second.is in
        let before : ComesBefore (get_or (of_host host taken) i one).logged.event
        (get_or (of_host host taken) j one).logged.event = in_order host i j one below second.within in
        subst (λ (x : Taken). ComesBefore x.logged.event other.logged.event) first.is
        (subst (λ (y : Taken). ComesBefore (get_or (of_host host taken) i one).logged.event y.logged.event) same before)

    -- An event at the same place or a later one knows no less.
    pub knows-at : (i j : ℕ) (one other : Taken) → i ≤ j → IsAt host taken i one → IsAt host taken j other
        → KnowsNoMore one.logged.event.clock other.logged.event.clock
    knows-at i j one other up_to first second name =
        ⊎_elim (λ (below : suc i ≤ j). (before-at i j one other (omega arith) first second).knows name)
        (λ (back : j ≤ i).
        let here : IsAt host taken j one = subst (λ (n : ℕ). IsAt host taken n one) (omega arith) first in
        let is : one ≡ other = same-at j one other here second in
        omega (arith, ap (λ (x : Taken). number_of name x.logged.event.clock) is)) (before_or i j)

    pub own-up_to : (i j : ℕ) (one other : Taken) → i ≤ j → IsAt host taken i one → IsAt host taken j other
        → own one.logged.event ≤ own other.logged.event
    own-up_to i j one other up_to first second = omega (
      arith,
      own-at i one first,
      own-at j other second,
      knows-at i j one other up_to first second host,
    )

    -- The state of the event at a place is over at an event that counts what ends it.
    pub over-from : (lasting : Lasting) (k : ℕ) (state last : Taken) (event : Event) → IsAt host taken k state
        → IsAt host taken (end_at lasting k) last → own last.logged.event ≤ number_of host event.clock
        → IsOver lasting taken state.logged.event event
    over-from While k state last event first second counted = (
      last,
      record {
        was_taken = at-was_taken (k + 1) last second;
        host = at-host (k + 1) last second ∙ sym (at-host k state first);
        after = (before-at k (k + 1) state last (omega arith) first second).own_rises;
      },
      rw (at-host (k + 1) last second) counted',
    )
      where
        counted' : number_of host last.logged.event.clock ≤ number_of host event.clock
        counted' = omega (arith, own-at (k + 1) last second)
    over-from At k state last event first second counted =
        let same : last ≡ state = same-at k last state second first in
        omega (
          arith,
          own-at k state first,
          ap (λ (x : Taken). own x.logged.event) same,
          ap (λ name. number_of name event.clock) (at-host k state first),
        )

    -- And only there.
    pub over-to : (lasting : Lasting) (k : ℕ) (state : Taken) (event : Event) → IsAt host taken k state
        → IsOver lasting taken state.logged.event event
        → (last : Taken) × IsAt host taken (end_at lasting k) last × (own last.logged.event ≤ number_of host event.clock)
    over-to While k state event first (later, is, before) =
        let same : later.logged.event.host ≡ host = is.host ∙ at-host k state first in
        let place = at-place later is.was_taken same in
        let counted : own later.logged.event ≤ number_of host event.clock =
        omega (arith, before, ap (λ name. number_of name event.clock) same) in
        let behind : k + 1 ≤ place.0 =
        by_order place.0 place.1 (before_or k place.0) in
        let next = event-at (k + 1) (by_within place.0 place.1.within behind) in (
          next.0,
          next.1,
          omega (arith, own-up_to (k + 1) place.0 next.0 later behind next.1 place.1, counted),
        )
      where
        by_order : (j : ℕ) → IsAt host taken j later → (suc k ≤ j) ⊎ (j ≤ k) → k + 1 ≤ j
        by_order j found (inl high) = omega arith
        by_order j found (inr low) = absurd (omega (arith, own-up_to j k later state low found first, is.after))

        by_within : (j : ℕ) → j < length (of_host host taken) → k + 1 ≤ j → k + 1 < length (of_host host taken)
        by_within j within behind = omega arith
    over-to At k state event first before = (
      state,
      first,
      omega (arith, before, ap (λ name. number_of name event.clock) (at-host k state first)),
    )

module _ (watched : List HostWatch) (taken : List Taken) (watch : HostWatch) where
  pub length-kept : length (past_host watched taken watch).events ≡ length (of_host watch.host taken)
  length-kept = length-map (of_host watch.host taken) (past_of watched)

  -- What is kept of the event at a place.
  pub kept-at : (k : ℕ) (one : Taken) → IsAt watch.host taken k one
      → past_at (past_host watched taken watch) k ≡ past_of watched one
  kept-at k one is = get_or-map (past_of watched) (of_host watch.host taken) k one no_past is.within
      ∙ ap (past_of watched) is.is

  pub number-kept : (k : ℕ) (one : Taken) (q : ℕ) → IsAt watch.host taken k one → q < length watched
      → number_at (past_host watched taken watch) k q ≡ number_of (watch_at watched q).host one.logged.event.clock
  number-kept k one q is within = ap (λ (x : Past). slice_index x.numbers q) (kept-at k one is)
      ∙ get_or-map (λ (w : HostWatch). number_of w.host one.logged.event.clock) watched q
      (record { host = []; lasting = While }) 0 within
