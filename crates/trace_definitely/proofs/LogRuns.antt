-- Runs of a log that overlap are runs of the events of its watched hosts that do.
use Rattle.std.proofs.Common.{◌≡◌, ◌∙◌, sym, ap, subst, ℕ, ◌+◌, ◌<◌, ◌≤◌, List, length, true, false}
use Rattle.std.proofs.Common.{Bool, Some, None, refl, arith, ⊎_elim, ltb}
use Rattle.std.specs.Prelude.{if◌then◌else◌, IfSome}
use Rattle.std.specs.List.{count_by}
use Rattle.std.proofs.lemmas.Bool.{cases_Bool, false≢true, le-leb, leb-true, lt-ltb, ltb-true}
use Rattle.trace_log.specs.Clock.{number_of}
use Rattle.trace_log.specs.Log.{Logged}
use Rattle.trace_moment.specs.Moment.{HappenedBefore, HostWatch, Taken, own}
use Rattle.trace_definitely.specs.Definitely.{AreOverlapping, IsRun}
use Rattle.trace_definitely.specs.Logs.{AreOverlappingIn, LogRun, OwnRise, event_at, events_in, is_counted}
use Rattle.trace_definitely.specs.Logs.{no_event, row}
use Rattle.trace_definitely.proofs.Choosing.{choose}
use Rattle.trace_definitely.proofs.Counts.{few, many}
use Rattle.trace_definitely.proofs.Moments.{host_of, known_is, rises_to}

module _ (watched : List HostWatch) (taken : List Taken) (rise : OwnRise watched taken) where
  -- An event of one host knows that of another one exactly if its clock counts it.
  counts : (p q from k : ℕ) → p < length watched → (p ≡ q → ⊥) → from < length (row watched taken p)
      → HappenedBefore (event_at watched taken p from).logged.event (event_at watched taken q k).logged.event
      → from < (events_in watched taken).knows q k p
  counts p q from k p_host isnt within before =
      let test = is_counted watched p (event_at watched taken q k).logged.event in
      let reach = subst (λ host. own (event_at watched taken p from).logged.event
      ≤ number_of host (event_at watched taken q k).logged.event.clock) (host_of watched taken p from within) before in
      let all : from + 1 ≤ count_by test (row watched taken p) =
      many test (row watched taken p) (from + 1) no_event (omega (arith, within)) (λ j early.
      le-leb _ _ (omega (arith, rises_to watched taken rise j from p p_host (omega (arith, early)) within, reach))) in
      omega (arith, all, known_is watched taken q k p isnt)

  counted : (p q from k : ℕ) → p < length watched → (p ≡ q → ⊥) → from < length (row watched taken p)
      → from < (events_in watched taken).knows q k p
      → HappenedBefore (event_at watched taken p from).logged.event (event_at watched taken q k).logged.event
  counted p q from k p_host isnt within known =
      ⊎_elim
      (λ (is : test (event_at watched taken p from) ≡ true).
      subst (λ host. own (event_at watched taken p from).logged.event
      ≤ number_of host (event_at watched taken q k).logged.event.clock)
      (sym (host_of watched taken p from within)) (leb-true _ _ is))
      (λ (fails : test (event_at watched taken p from) ≡ false).
      let none : count_by test (row watched taken p) ≤ from =
      few test (row watched taken p) from no_event (λ j behind inside.
      ⊎_elim
      (λ (is : test (event_at watched taken p j) ≡ true).
      let later = rises_to watched taken rise from j p p_host behind inside in
      absurd (false≢true (sym fails ∙ le-leb _ _ (omega (arith, later, leb-true _ _ is)))))
      (λ (isnt_it : test (event_at watched taken p j) ≡ false). isnt_it)
      (cases_Bool (test (event_at watched taken p j)))) in
      absurd (omega (arith, none, known, known_is watched taken q k p isnt)))
      (cases_Bool (test (event_at watched taken p from)))
    where
      test : Taken → Bool
      test = is_counted watched p (event_at watched taken q k).logged.event

  -- By its events.
  pub run_of : (ℕ → ℕ) → (ℕ → ℕ) → ℕ → LogRun
  run_of from until p = record {
    begin = (event_at watched taken p (from p)).logged;
    over = if ltb (until p) (length (row watched taken p)) then Some (event_at watched taken p (until p)).logged
        else None;
  }

  pub by_events : (from until : ℕ → ℕ) → AreOverlapping (events_in watched taken) from until
      → AreOverlappingIn watched taken (run_of from until)
  unfolding run_of
  by_events from until overlap = record {
    are = λ p within. record {
      from = from p;
      until = until p;
      is = overlap.runs p within;
      begins = refl;
      ends = refl;
    };
    meet = λ p q p_host q_host isnt. ⊎_elim
        (λ (ends : ltb (until q) (length (row watched taken q)) ≡ true).
        let run = overlap.runs p p_host in
        rw ends (counted p q (from p) (until q) p_host isnt (omega (arith, run.some, run.within))
        (overlap.meet p q p_host q_host isnt (ltb-true _ _ ends))))
        (λ (goes_on : ltb (until q) (length (row watched taken q)) ≡ false). rw goes_on tt)
        (cases_Bool (ltb (until q) (length (row watched taken q))));
  }

  pub of_events : (runs : ℕ → LogRun) → AreOverlappingIn watched taken runs
      → (from until : ℕ → ℕ) × AreOverlapping (events_in watched taken) from until
  of_events runs overlap =
      let at = ends.0 in
      let is = ends.1 in (
        λ p. (at p).0,
        λ p. (at p).1,
        record {
          runs = λ p within. (is p within).0;
          meet = λ p q p_host q_host isnt goes_over.
              let mine = (is p p_host).0 in
              let here = (is q q_host).2 ∙ ap (λ b. if b then Some (event_at watched taken q (at q).1).logged else None)
              (lt-ltb (at q).1 (length (row watched taken q)) goes_over) in
              let met = subst (λ over. IfSome over (λ it. HappenedBefore (runs p).begin.event it.event)) here
              (overlap.meet p q p_host q_host isnt) in
              counts p q (at p).0 (at q).1 p_host isnt (omega (arith, mine.some, mine.within))
              (subst (λ (begin : Logged). HappenedBefore begin.event (event_at watched taken q (at q).1).logged.event)
              (is p p_host).1 met);
        },
      )
    where
      IsPlaces : ℕ → ℕ × ℕ → Type 0
      IsPlaces p places = IsRun (events_in watched taken) p places.0 places.1
          × ((runs p).begin ≡ (event_at watched taken p places.0).logged)
          × ((runs p).over ≡ (if ltb places.1 (length (row watched taken p))
          then Some (event_at watched taken p places.1).logged else None))

      ends : (at : ℕ → ℕ × ℕ) × ((p : ℕ) → p < length watched → IsPlaces p (at p))
      ends = choose {X = ℕ × ℕ} (length watched) (0, 0) IsPlaces (λ p within.
          let run = overlap.are p within in
          ((run.from, run.until), (run.is, run.begins, run.ends)))
