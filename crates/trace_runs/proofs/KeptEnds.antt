-- What is known by what is kept of all hosts.
use Rattle.std.proofs.Common.{◌≡◌, ◌∙◌, sym, ap, subst, ℕ, ◌<◌, ◌≤◌, List, [], ◌∷◌, length}
use Rattle.std.proofs.Common.{Bool, true, false, refl, arith, inl, inr, Option, Some, None, is_some, slice_index}
use Rattle.std.proofs.Common.{MatchBool}
use Rattle.std.proofs.lemmas.Bool.{false≢true}
use Rattle.std.specs.Prelude.{IfSome, MatchOption, option_map}
use Rattle.trace_log.specs.Clock.{number_of}
use Rattle.trace_log.specs.Log.{Logged}
use Rattle.trace_log.specs.Order.{last_clock}
use Rattle.trace_moment.specs.Moment.{HappenedBefore, HostWatch, Taken, events_of}
use Rattle.trace_moment.specs.Moment.{own, watch_at}
use Rattle.trace_moment.specs.Kept.{numbers_in}
use Rattle.trace_definitely.specs.Logs.{LogRun}
use Rattle.trace_definitely.specs.Waiting.{AreWaiting}
use Rattle.trace_runs.specs.Runs.{HasNoRuns, NoneAreKnown}
use Rattle.trace_runs.specs.Kept.{AllStand, CountAll, FailsAt, HaveFirsts, KeptRuns, MissOne, NoneIsPassed, OneFails}
use Rattle.trace_runs.specs.Kept.{is_counted, OneHasNone, first_begin, first_end, kept_at, kept_begin}
use Rattle.trace_runs.specs.Kept.{ongoing_run, runs_of, watched_in}
use Rattle.trace_runs.specs.Keeping.{KeepKnown, KeepLeast, KeepNext, KeepRuns}
use Rattle.trace_runs.specs.Keeping.{KeepWaiting}
use Rattle.trace_runs.proofs.Rising.{waits_same}
use Rattle.trace_runs.proofs.Known.{known_standing}
use Rattle.trace_runs.proofs.Meeting.{least_waiting}
use Rattle.trace_runs.proofs.Unknown.{none_later, none_now, none_waits}
use Rattle.trace_runs.proofs.KeptRuns.{begin_is, end_is, end_numbers, first_ongoing, first_run, told_is}
use Rattle.trace_runs.proofs.KeptSteps.{as_many, counted, missed, missed_first, waits_first, watch_is, its_host}

-- The first of some runs, and those behind it.
head_of : List LogRun → LogRun
head_of [] = ongoing_run (record { line = 0; event = record { host = []; clock = []; text = [] } })
head_of (run ∷ runs) = run

rest_of : List LogRun → List LogRun
rest_of [] = []
rest_of (run ∷ runs) = runs

whole_is : (runs : List LogRun) → is_some (first_run runs) ≡ true → runs ≡ head_of runs ∷ rest_of runs
unfolding head_of rest_of
whole_is [] some = absurd (false≢true some)
whole_is (run ∷ runs) some = refl

first_is : (runs : List LogRun) → is_some (first_run runs) ≡ true → first_run runs ≡ Some (head_of runs)
unfolding head_of
first_is [] some = absurd (false≢true some)
first_is (run ∷ runs) some = refl

some_map : {X Y : Type 0} (f : X → Y) (x : Option X) → is_some (option_map f x) ≡ is_some x
some_map f None = refl
some_map f (Some x) = refl

none_there : {X : Type 0} (x : Option X) → is_some x ≡ false → x ≡ None
none_there x none = grind arith

no_first : (runs : List LogRun) → is_some (first_run runs) ≡ false → runs ≡ []
no_first [] none = refl
no_first (run ∷ runs) some = absurd (false≢true (sym some))

module _ (taken : List Taken) (kept : List KeptRuns) (has : KeepWaiting taken kept) where
  abbrev watched : List HostWatch
  watched = watched_in kept

  inside : (p : ℕ) → p < length (watched_in kept) → p < length kept
  inside p host = omega (arith, host, as_many kept)

  has_first : (p : ℕ) → p < length kept
      → is_some (first_begin (kept_at kept p)) ≡ is_some (first_run (has.waiting p))
  has_first p within = ap is_some (begin_is watched taken (kept_at kept p) (has.waiting p) (has.are p within))
      ∙ some_map (λ run. kept_begin run.begin) (first_run (has.waiting p))

  -- Where each host has a first run.
  module _ (firsts : HaveFirsts kept) (settled : NoneIsPassed kept) where
    first : ℕ → LogRun
    first p = head_of (has.waiting p)

    others : ℕ → List LogRun
    others p = rest_of (has.waiting p)

    first_at : (p : ℕ) → p < length kept → first_run (has.waiting p) ≡ Some (first p)
    unfolding first
    first_at p within = first_is (has.waiting p) (sym (has_first p within) ∙ firsts p within)

    waits : AreWaiting watched taken (λ p. first p ∷ others p)
    unfolding first others
    waits = waits_same watched taken has.waiting (λ p. head_of (has.waiting p) ∷ rest_of (has.waiting p)) has.waits
        (λ p host. sym (whole_is (has.waiting p) (sym (has_first p (inside p host)) ∙ firsts p (inside p host))))

    kept_runs : KeepRuns kept first
    kept_runs p within =
        told_is watched taken (kept_at kept p) (has.waiting p) (has.are p within) (first p) (first_at p within)

    end_at : (q : ℕ) → q < length kept → first_end (kept_at kept q) ≡ end_numbers watched (Some (first q))
    end_at q within = end_is watched taken (kept_at kept q) (has.waiting q) (has.are q within)
        ∙ ap (end_numbers watched) (first_at q within)

    over_counts : (p q : ℕ) → p < length kept → q < length kept → (p ≡ q → ⊥) → (over : Logged)
        → (first q).over ≡ Some over → HappenedBefore (first p).begin.event over.event
    over_counts p q p_in q_in isnt over is =
        let ends : first_end (kept_at kept q) ≡ Some (numbers_in watched over.event.clock) =
        end_at q q_in ∙ ap (option_map (λ over. numbers_in watched over.event.clock)) is in
        counted taken kept has p p_in (first p) (first_at p p_in) over.event.clock
        (numbers_in watched over.event.clock) refl
        (subst (λ end. IfSome end (λ numbers. is_counted (first_begin (kept_at kept p)) (slice_index numbers p) ≡ true))
        ends (settled q p q_in p_in isnt))

    pub kept_least : KeepLeast taken kept
    kept_least = record {
      runs = first;
      least = least_waiting watched taken first others has.rise waits
          (λ p q p_host q_host isnt. by_over (first p) (first q).over
          (over_counts p q (inside p p_host) (inside q q_host) isnt));
      are = kept_runs;
    }
      where
        by_over : (run : LogRun) (over : Option Logged)
            → ((end : Logged) → over ≡ Some end → HappenedBefore run.begin.event end.event)
            → IfSome over (λ over. HappenedBefore run.begin.event over.event)
        by_over run None counts = tt
        by_over run (Some over) counts = counts over refl

  -- Where all stand they are known.
  pub all_known : NoneIsPassed kept → AllStand kept → KeepKnown taken kept
  all_known settled stand = record {
    runs = first firsts settled;
    known = known_standing watched taken (first firsts settled) (record {
      distinct = has.distinct;
      rise = has.rise;
      last = has.last;
      others = others firsts settled;
      waits = waits firsts settled;
      meet = λ p q p_host q_host isnt. by_over p q (inside p p_host) (inside q q_host) isnt
          (first firsts settled q).over refl;
    });
    are = kept_runs firsts settled;
  }
    where
      firsts : HaveFirsts kept
      firsts q within = (stand q within).begun

      by_over : (p q : ℕ) → p < length kept → q < length kept → (p ≡ q → ⊥) → (over : Option Logged)
          → (first firsts settled q).over ≡ over → MatchOption over
          (own (first firsts settled p).begin.event ≤ number_of (first firsts settled p).begin.event.host
          (last_clock (watch_at watched q).host (events_of taken)))
          (λ over. HappenedBefore (first firsts settled p).begin.event over.event)
      by_over p q p_in q_in isnt (Some over) is = over_counts firsts settled p q p_in q_in isnt over is
      by_over p q p_in q_in isnt None is =
          let ends : first_end (kept_at kept q) ≡ None =
          end_at firsts settled q q_in ∙ ap (option_map (λ over. numbers_in watched over.event.clock)) is in
          let counts : CountAll (kept_at kept q).latest q kept = (stand q q_in).counts ends in
          let latest : (kept_at kept q).latest
          ≡ numbers_in watched (last_clock (watch_at watched q).host (events_of taken)) =
          (has.are q q_in).latest_kept ∙ ap (λ (watch : HostWatch). numbers_in watched
          (last_clock watch.host (events_of taken))) (sym (watch_is kept q q_in)) in
          counted taken kept has p p_in (first firsts settled p) (first_at firsts settled p p_in)
          (last_clock (watch_at watched q).host (events_of taken)) (kept_at kept q).latest latest
          (counts p p_in isnt)

  none_at : (q : ℕ) → q < length kept → has.waiting q ≡ [] → NoneAreKnown watched taken
  none_at q within none =
      none_now watched taken has.waiting has.waits has.rise q (omega (arith, within, as_many kept)) none

  -- Where one doesn't, none are.
  pub one_unknown : OneFails kept → NoneAreKnown watched taken
  one_unknown (q, within, fails) = by_fails fails
    where
      waits_none : first_begin (kept_at kept q) ≡ None → has.waiting q ≡ []
      waits_none none = no_first (has.waiting q) (sym (has_first q within) ∙ ap is_some none)

      by_missed : first_end (kept_at kept q) ≡ None → MissOne (kept_at kept q).latest q kept
          → NoneAreKnown watched taken
      by_missed ends (p, p_in, apart, misses) =
          let goes = first_ongoing watched taken (kept_at kept q) (has.waiting q) (has.are q within) ends in
          by_begin goes.0 goes.1
        where
          by_begin : (begin : Option Logged) → has.waiting q ≡ runs_of [] begin → NoneAreKnown watched taken
          by_begin None is = none_at q within is
          by_begin (Some begin) is =
              let other = missed_first taken kept has p p_in (slice_index (kept_at kept q).latest p) misses in
              let others = waits_first taken kept has p p_in other.0 other.1 in
              let latest : (kept_at kept q).latest
              ≡ numbers_in watched (last_clock (watch_at watched q).host (events_of taken)) =
              (has.are q within).latest_kept ∙ ap (λ (watch : HostWatch). numbers_in watched
              (last_clock watch.host (events_of taken))) (sym (watch_is kept q within)) in
              let less : number_of other.0.begin.event.host
              (last_clock (watch_at watched q).host (events_of taken)) < own other.0.begin.event =
              missed taken kept has p p_in other.0 other.1 (last_clock (watch_at watched q).host (events_of taken))
              (kept_at kept q).latest latest misses in
              none_later watched taken has.waiting has.waits has.rise has.distinct has.last q p
              (omega (arith, within, as_many kept)) (omega (arith, p_in, as_many kept)) apart (ongoing_run begin)
              other.0 others.0 is others.1 refl
              (subst (λ name. number_of name (last_clock (watch_at watched q).host (events_of taken))
              < own other.0.begin.event) (its_host taken kept has p p_in other.0 other.1) less)

      by_fails : FailsAt kept q → NoneAreKnown watched taken
      by_fails (inl none) = none_at q within (waits_none none)
      by_fails (inr (ends, misses)) = by_missed ends misses

  -- After an event.
  pub next_known : NoneIsPassed kept → (known : Bool) → MatchBool known (AllStand kept) (OneFails kept)
      → KeepNext taken kept known
  next_known settled true stand = all_known settled stand
  next_known settled false fails = record { keeps = has; settled = settled; none_known = one_unknown fails }

  -- At the end of the log.
  pub end_known : NoneIsPassed kept → (known : Bool) → MatchBool known (HaveFirsts kept) (OneHasNone kept)
      → MatchBool known (KeepLeast taken kept) (HasNoRuns watched taken)
  end_known settled true firsts = kept_least firsts settled
  end_known settled false (q, within, none) =
      none_waits watched taken has.waiting has.waits has.rise q (omega (arith, within, as_many kept))
      (no_first (has.waiting q) (sym (has_first q within) ∙ none))
