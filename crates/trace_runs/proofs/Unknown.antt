-- When no runs are known: a host has none that waits, or its first one may be over too early.
use Rattle.std.proofs.Common.{◌≡◌, ◌==◌, ◌∙◌, sym, ap, subst, ℕ, ◌+◌, ◌<◌, ◌≤◌, List, [], ◌∷◌, ◌++◌}
use Rattle.std.proofs.Common.{length, true, false, refl, arith, ⊎_elim, append-nil, Some, None}
use Rattle.std.proofs.lemmas.Bool.{cases_Bool, eq-eqb, eqb-true}
use Rattle.std.proofs.lemmas.Slice.Eq.{bytes_eq-Decides}
use Rattle.std.specs.Str.{bytes_eq}
use Rattle.trace_log.specs.Clock.{Member, number_of}
use Rattle.trace_log.specs.Log.{Logged}
use Rattle.trace_log.specs.Order.{last_clock}
use Rattle.trace_moment.specs.Moment.{HappenedBefore, HaveDistinctHosts, HostWatch, MayFollow, Taken, events_of}
use Rattle.trace_moment.specs.Moment.{own, watch_at}
use Rattle.trace_moment.specs.Elimination.{LastKnowsAll}
use Rattle.trace_moment.proofs.Clocks.{may_follow, number_of-cons, number_of-itself}
use Rattle.trace_definitely.specs.Logs.{AreOverlappingIn, LogRun, OwnRise, row}
use Rattle.trace_definitely.specs.Waiting.{AreAllFrom, AreWaiting, with_event, with_host}
use Rattle.trace_definitely.proofs.Moments.{host_of}
use Rattle.trace_definitely.proofs.Waits.{drops, ends_none, grows}
use Rattle.trace_runs.specs.Runs.{HasNoRuns, NoneAreKnown}
use Rattle.trace_runs.proofs.Rising.{OwnRise-push}

-- The number of another host in a clock with a member more.
number_of-other : (name : List ℕ) (one : Member) (others : List Member) → (one.name ≡ name → ⊥)
    → number_of name (one ∷ others) ≡ number_of name others
unfolding number_of
number_of-other name one others differs =
    ⊎_elim
    (λ (is : bytes_eq one.name name ≡ true). absurd (differs ((bytes_eq-Decides _ _).0 is)))
    (λ (isnt : bytes_eq one.name name ≡ false). rw isnt refl)
    (cases_Bool (bytes_eq one.name name))

module _ (watched : List HostWatch) (taken : List Taken) (waiting : ℕ → List LogRun)
    (waits : AreWaiting watched taken waiting) (rise : OwnRise watched taken) where
  -- Where none waits of a host, none overlap now.
  pub none_waits : (p : ℕ) → p < length watched → waiting p ≡ [] → HasNoRuns watched taken
  none_waits p host none runs overlap = ends_none watched taken waiting waits rise p host none runs overlap

  pub none_now : (p : ℕ) → p < length watched → waiting p ≡ [] → NoneAreKnown watched taken
  none_now p host none = record {
    more = [];
    follow = tt;
    none = λ runs overlap. none_waits p host none runs
        (subst (λ log. AreOverlappingIn watched log runs) (append-nil taken) overlap);
  }

  -- The first run that waits begins with an event of its host.
  pub begin_host : (p : ℕ) → p < length watched → (run : LogRun) (runs : List LogRun) → waiting p ≡ run ∷ runs
      → run.begin.event.host ≡ (watch_at watched p).host
  begin_host p host run runs is =
      let all : AreAllFrom (row watched taken p) (waits.low p) (run ∷ runs) =
      subst (λ them. AreAllFrom (row watched taken p) (waits.low p) them) is (waits.all p host) in
      ap (λ (it : Logged). it.event.host) all.3.begin
      ∙ host_of watched taken p all.0 (omega (arith, all.3.some, all.3.within))

  module _ (distinct : HaveDistinctHosts watched) (last : LastKnowsAll taken) (q p : ℕ) (q_host : q < length watched)
      (p_host : p < length watched) (isnt : p ≡ q → ⊥) (run other : LogRun) (others : List LogRun)
      (at_q : waiting q ≡ run ∷ []) (at_p : waiting p ≡ other ∷ others) (goes : run.over ≡ None)
      (missed : number_of (watch_at watched p).host (last_clock (watch_at watched q).host (events_of taken))
      < own other.begin.event) where
    abbrev host : List ℕ
    host = (watch_at watched q).host

    abbrev before : List Member
    before = last_clock (watch_at watched q).host (events_of taken)

    -- The next event of the host may end the run, and know no more.
    abbrev next : Taken
    next = record {
      logged =
          record {
            line = 0;
            event = record {
              host = host;
              clock = record { name = host; number = number_of host before + 1 } ∷ before;
              text = [];
            };
          };
      holds = false;
    }

    follows : MayFollow taken next.logged.event
    follows = may_follow host before next.logged.event.clock
        (omega (arith, number_of-itself host (number_of host before + 1) before))
        (λ name. number_of-cons name (record { name = host; number = number_of host before + 1 }) before)

    abbrev ended : LogRun
    ended = record { begin = run.begin; over = Some next.logged }

    grown : ℕ → List LogRun
    grown = with_host waiting q (with_event (waiting q) next)

    grown_waits : AreWaiting watched (taken ++ next ∷ []) grown
    unfolding grown
    grown_waits = grows watched taken waiting waits next q distinct q_host refl

    ended_at : with_event (run ∷ []) next ≡ ended ∷ []
    ended_at = rw goes refl

    grown_q : grown q ≡ ended ∷ []
    unfolding grown
    grown_q = rw (eq-eqb q q refl) (ap (λ runs. with_event runs next) at_q ∙ ended_at)

    grown_p : grown p ≡ other ∷ others
    unfolding grown
    grown_p =
        ⊎_elim
        (λ (is : (p == q) ≡ true). absurd (isnt (eqb-true p q is)))
        (λ (differs : (p == q) ≡ false). rw differs at_p)
        (cases_Bool (p == q))

    unknown : HappenedBefore other.begin.event next.logged.event → ⊥
    unknown happened =
        let its = begin_host p p_host other others at_p in
        let apart : host ≡ (watch_at watched p).host → ⊥ = λ same. isnt (sym (distinct q p q_host p_host same)) in
        let number = number_of-other (watch_at watched p).host
        (record { name = host; number = number_of host before + 1 }) before apart in
        let reach : own other.begin.event ≤ number_of (watch_at watched p).host next.logged.event.clock =
        subst (λ name. own other.begin.event ≤ number_of name next.logged.event.clock) its happened in
        omega (arith, number, reach, missed)

    dropped_waits : AreWaiting watched (taken ++ next ∷ []) (with_host grown q [])
    dropped_waits = drops watched (taken ++ next ∷ []) grown grown_waits q p q_host p_host (λ same. isnt (sym same))
        ended other [] others next.logged grown_q grown_p refl unknown

    pub none_later : NoneAreKnown watched taken
    none_later = record {
      more = next ∷ [];
      follow = (follows, tt);
      none = λ runs overlap. ends_none watched (taken ++ next ∷ []) (with_host grown q []) dropped_waits
          (OwnRise-push watched taken next rise last follows) q q_host (rw (eq-eqb q q refl) refl) runs overlap;
    }
