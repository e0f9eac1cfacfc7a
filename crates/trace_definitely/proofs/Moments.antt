-- A moment of a log is one among the events of its watched hosts.
use Rattle.std.proofs.Common.{◌≡◌, ◌==◌, ◌∙◌, sym, ap, subst, ℕ, ◌+◌, ◌<◌, ◌≤◌, List, length}
use Rattle.std.proofs.Common.{true, false, refl, arith, ⊎_elim}
use Rattle.std.specs.List.{Contains, count_by}
use Rattle.std.proofs.lemmas.Bool.{cases_Bool, cases_lt, eqb-true, le-leb, leb-true}
use Rattle.std.proofs.lemmas.List.{get_or_default}
use Rattle.std.proofs.lemmas.List.Elements.{Contains-get_or}
use Rattle.std.proofs.lemmas.Slice.Eq.{bytes_eq-Decides}
use Rattle.trace_log.specs.Clock.{number_of}
use Rattle.trace_log.specs.Log.{Logged}
use Rattle.trace_moment.specs.Moment.{HappenedBefore, HostWatch, IsMoment, IsOver, Taken, own, watch_at}
use Rattle.trace_moment.specs.declared.watched.Lasting.TheVariants.{While}
use Rattle.trace_explain.proofs.Filters.{Contains-filter, filter-Contains, filter-test}
use Rattle.trace_definitely.specs.Definitely.{IsMomentAmong}
use Rattle.trace_definitely.specs.Logs.{AllLast, OwnRise, event_at, events_in, is_counted, is_of, no_event, row}
use Rattle.trace_definitely.proofs.Choosing.{choose}
use Rattle.trace_definitely.proofs.Counts.{few, many}

module _ (watched : List HostWatch) (taken : List Taken) where
  in_row : (p k : ℕ) → k < length (row watched taken p) → Contains (row watched taken p) (event_at watched taken p k)
  in_row p k within = Contains-get_or (row watched taken p) k no_event within

  pub in_log : (p k : ℕ) → k < length (row watched taken p) → Contains taken (event_at watched taken p k)
  in_log p k within = filter-Contains (is_of watched p) taken (event_at watched taken p k) (in_row p k within)

  pub host_of : (p k : ℕ) → k < length (row watched taken p)
      → (event_at watched taken p k).logged.event.host ≡ (watch_at watched p).host
  host_of p k within =
      (bytes_eq-Decides _ _).0 (filter-test (is_of watched p) taken (event_at watched taken p k) (in_row p k within))

  -- An event of the log of a watched host stands in its row.
  at_place : (p : ℕ) (one : Taken) → Contains taken one → one.logged.event.host ≡ (watch_at watched p).host
      → (k : ℕ) × (k < length (row watched taken p)) × (event_at watched taken p k ≡ one)
  at_place p one has of_host =
      let stands = Contains-filter (is_of watched p) taken one has ((bytes_eq-Decides _ _).1 of_host) in (
        stands.0,
        stands.1,
        get_or_default (row watched taken p) stands.0 no_event one stands.1 ∙ stands.2,
      )

  pub known_is : (p k q : ℕ) → (q ≡ p → ⊥) → (events_in watched taken).knows p k q
      ≡ count_by (is_counted watched q (event_at watched taken p k).logged.event) (row watched taken q)
  known_is p k q other =
      ⊎_elim
      (λ (is : (q == p) ≡ true). absurd (other (eqb-true q p is)))
      (λ (isnt : (q == p) ≡ false). rw isnt refl)
      (cases_Bool (q == p))

  module _ (rise : OwnRise watched taken) where
    pub rises_to : (i j p : ℕ) → p < length watched → i ≤ j → j < length (row watched taken p)
        → own (event_at watched taken p i).logged.event ≤ own (event_at watched taken p j).logged.event
    rises_to i j p within order inside =
        ⊎_elim
        (λ (less : i < j). omega (arith, rise p i j within less inside))
        (λ (same : j ≤ i).
        let is_same : i ≡ j = omega (arith, order, same) in
        omega (arith, ap (λ k. own (event_at watched taken p k).logged.event) is_same))
        (cases_lt i j)

  module _ (last : AllLast watched) (rise : OwnRise watched taken) where
    -- The events of a moment of the log.
    module _ (moment : ℕ → Logged) (is : IsMoment watched taken moment) where
      abbrev IsPlace : ℕ → ℕ → Type 0
      IsPlace p k = (k < length (row watched taken p))
          × (event_at watched taken p k ≡ record { logged = moment p; holds = true })

      places : (at : ℕ → ℕ) × ((p : ℕ) → p < length watched → IsPlace p (at p))
      places = choose (length watched) 0 IsPlace (λ p within.
          let found = at_place p (record { logged = moment p; holds = true }) (is.held p within) (is.host p within) in
          (found.0, (found.1, found.2)))

      -- No later event of a member's host is counted by the clock of another member.
      later_isnt : (at : ℕ → ℕ) → ((p : ℕ) → p < length watched → IsPlace p (at p)) → (p q k : ℕ) → p < length watched
          → q < length watched → (p ≡ q → ⊥) → at q + 1 ≤ k → k < length (row watched taken q)
          → is_counted watched q (moment p).event (event_at watched taken q k) ≡ false
      later_isnt at stand p q k p_host q_host isnt behind within =
          ⊎_elim
          (λ (counted : is_counted watched q (moment p).event (event_at watched taken q k) ≡ true).
          let later = event_at watched taken q k in
          let member = stand q q_host in
          let same_host = host_of q k within ∙ sym (is.host q q_host) in
          let after : own (moment q).event < own later.logged.event =
          subst (λ (one : Taken). own one.logged.event < own later.logged.event) member.1
          (rise q (at q) k q_host (omega (arith, behind)) within) in
          let before : HappenedBefore later.logged.event (moment p).event =
          subst (λ host. own later.logged.event ≤ number_of host (moment p).event.clock) (sym (host_of q k within))
          (leb-true _ _ counted) in
          let over : IsOver While taken (moment q).event (moment p).event = (
            later,
            record {
              was_taken = in_log q k within;
              host = same_host;
              after = after;
            },
            before,
          ) in
          absurd (is.together q p q_host p_host (λ same. isnt (sym same)) (rw (last q q_host) over)))
          (λ (isnt_counted : is_counted watched q (moment p).event (event_at watched taken q k) ≡ false). isnt_counted)
          (cases_Bool (is_counted watched q (moment p).event (event_at watched taken q k)))

      pub among : (at : ℕ → ℕ) × IsMomentAmong (events_in watched taken) at
      among =
          let at = places.0 in
          let stand = places.1 in (
            at,
            record {
              within = λ p within. (stand p within).0;
              holds = λ p within. ap (λ (one : Taken). one.holds) (stand p within).1;
              not_over = λ p q p_host q_host isnt.
                  let counted = is_counted watched q (event_at watched taken p (at p)).logged.event in
                  let counts : count_by counted (row watched taken q) ≤ at q + 1 =
                  few counted (row watched taken q) (at q + 1) no_event (λ k behind inside.
                  rw (stand p p_host).1 (later_isnt at stand p q k p_host q_host isnt behind inside)) in
                  rw (known_is p (at p) q (λ same. isnt (sym same))) counts;
            },
          )

    -- A moment among the events of the watched hosts is one of the log.
    module _ (at : ℕ → ℕ) (is : IsMomentAmong (events_in watched taken) at) where
      abbrev member : ℕ → Taken
      member p = event_at watched taken p (at p)

      held_whole : (one : Taken) → one.holds ≡ true → one ≡ record { logged = one.logged; holds = true }
      held_whole one on = ap (λ holds. record { logged = one.logged; holds = holds }) on

      not_over : (p q : ℕ) → p < length watched → q < length watched → (p ≡ q → ⊥)
          → IsOver While taken (member p).logged.event (member q).logged.event → ⊥
      not_over p q p_host q_host isnt over =
          let later = over.0 in
          let inside = is.within p p_host in
          let place = at_place p later over.1.was_taken (over.1.host ∙ host_of p (at p) inside) in
          let k = place.0 in
          let behind : at p < k =
          ⊎_elim
          (λ (less : at p < k). less)
          (λ (past : k ≤ at p). absurd (omega (
            arith,
            rises_to rise k (at p) p p_host past inside,
            numbers later place.2,
            over.1.after,
          )))
          (cases_lt (at p) k) in
          let reach : own later.logged.event ≤ number_of (watch_at watched p).host (member q).logged.event.clock =
          subst (λ host. own later.logged.event ≤ number_of host (member q).logged.event.clock)
          (over.1.host ∙ host_of p (at p) inside) over.2 in
          let all : at p + 2 ≤ count_by (is_counted watched p (member q).logged.event) (row watched taken p) =
          many (is_counted watched p (member q).logged.event) (row watched taken p) (at p + 2) no_event
          (omega (arith, behind, place.1)) (λ j before.
          le-leb _ _ (omega (
            arith,
            rises_to rise j k p p_host (omega (arith, before, behind)) place.1,
            numbers later place.2,
            reach,
          ))) in
          omega (arith, all, known_is q (at q) p isnt, is.not_over q p q_host p_host (λ same. isnt (sym same)))
        where
          numbers : (one : Taken) {there : Taken} → there ≡ one → own there.logged.event ≡ own one.logged.event
          numbers one same = ap (λ (it : Taken). own it.logged.event) same

      pub of_log : IsMoment watched taken (λ p. (member p).logged)
      of_log = record {
        held = λ p within. subst (λ (one : Taken). Contains taken one) (held_whole (member p) (is.holds p within))
            (in_log p (at p) (is.within p within));
        host = λ p within. host_of p (at p) (is.within p within);
        together = λ p q p_host q_host isnt over. not_over p q p_host q_host isnt (rw (last p p_host) at over);
      }
