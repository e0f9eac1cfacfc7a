-- First runs that wait, of which each begins before any other one can be over: they are the least that overlap.
use Rattle.std.proofs.Common.{◌≡◌, ◌∙◌, sym, ap, subst, ℕ, suc, ◌<◌, ◌≤◌, ◌⊎◌, inl, inr, List, [], ◌∷◌, ◌++◌}
use Rattle.std.proofs.Common.{zero, Bool, length, true, false, refl, arith, ⊎_elim, append-nil}
use Rattle.std.proofs.Common.{Option, Some, None}
use Rattle.std.specs.Prelude.{if◌then◌else◌, IfSome, MatchOption}
use Rattle.std.proofs.lemmas.Bool.{cases_eq, cases_lt, false≢true}
use Rattle.std.proofs.lemmas.Slice.Eq.{bytes_eq-Decides}
use Rattle.std.specs.Str.{bytes_eq}
use Rattle.trace_log.specs.Clock.{number_of}
use Rattle.trace_log.specs.Log.{Logged}
use Rattle.trace_log.specs.Order.{last_clock}
use Rattle.trace_moment.specs.Moment.{HappenedBefore, HaveDistinctHosts, HostWatch, Taken, events_of}
use Rattle.trace_moment.specs.Moment.{own, watch_at}
use Rattle.trace_moment.specs.Elimination.{KnowsNoMore, LastKnowsAll}
use Rattle.trace_moment.proofs.Clocks.{ComesNext, last_clock-grows}
use Rattle.trace_definitely.specs.Logs.{AreOverlappingIn, LogRun, OwnRise, row}
use Rattle.trace_definitely.specs.Waiting.{AreAllFrom, AreWaiting, at_last, with_event}
use Rattle.trace_definitely.proofs.Moments.{rises_to}
use Rattle.trace_definitely.proofs.Waits.{ends_found}
use Rattle.trace_runs.specs.Runs.{AreLeastIn, IsSameLater}

-- The run of q is over at an event that counts the beginning of another one, or its last event counts it.
abbrev pub Meets : List HostWatch → List Taken → ℕ → LogRun → LogRun → Type 0
Meets watched taken q run other = MatchOption other.over
    (own run.begin.event ≤ number_of run.begin.event.host
    (last_clock (watch_at watched q).host (events_of taken)))
    (λ over. HappenedBefore run.begin.event over.event)

-- First runs that wait, and each begins before any other one can be over.
pub record AreStanding (watched : List HostWatch) (taken : List Taken) (first : ℕ → LogRun) : Type 0 where
  pub distinct : HaveDistinctHosts watched
  pub rise : OwnRise watched taken
  pub last : LastKnowsAll taken
  pub others : ℕ → List LogRun
  pub waits : AreWaiting watched taken (λ p. first p ∷ others p)
  pub meet : (p q : ℕ) → p < length watched → q < length watched → (p ≡ q → ⊥) →
      Meets watched taken q (first p) (first q)

-- The host of an event is watched, or it isn't.
pub find_host : (n : ℕ) (watched : List HostWatch) (host : List ℕ)
    → ((p : ℕ) × (p < n) × (host ≡ (watch_at watched p).host))
    ⊎ ((p : ℕ) → p < n → host ≡ (watch_at watched p).host → ⊥)
find_host zero watched host = inr (λ p within same. omega (arith, within))
find_host (suc n) watched host =
    ⊎_elim
    (λ (found : (p : ℕ) × (p < n) × (host ≡ (watch_at watched p).host)).
    inl (found.0, omega (arith, found.1), found.2))
    (λ (none : (p : ℕ) → p < n → host ≡ (watch_at watched p).host → ⊥).
    here none (bytes_eq host (watch_at watched n).host) refl)
    (find_host n watched host)
  where
    here : ((p : ℕ) → p < n → host ≡ (watch_at watched p).host → ⊥) → (b : Bool)
        → bytes_eq host (watch_at watched n).host ≡ b
        → ((p : ℕ) × (p < suc n) × (host ≡ (watch_at watched p).host))
        ⊎ ((p : ℕ) → p < suc n → host ≡ (watch_at watched p).host → ⊥)
    here none true is = inl (n, omega arith, (bytes_eq-Decides _ _).0 is)
    here none false isnt = inr (λ p within same. ⊎_elim
        (λ (at : p ≡ n). false≢true (sym isnt ∙ (bytes_eq-Decides _ _).1
        (same ∙ ap (λ k. (watch_at watched k).host) at)))
        (λ (differs : p ≡ n → ⊥). none p (omega (arith, within, differs)) same)
        (cases_eq p n))

-- A run with its host's next event: it ends one that goes on where the condition doesn't hold.
pub run_with : Option Logged → LogRun → Taken → LogRun
run_with None run next = if next.holds then run else record { begin = run.begin; over = Some next.logged }
run_with (Some over) run next = run

-- It is the first one then.
pub rest_with : Option Logged → LogRun → List LogRun → Taken → List LogRun
rest_with None run runs next = runs
rest_with (Some over) run runs next = with_event runs next

pub first_with : (over : Option Logged) (run : LogRun) (runs : List LogRun) (next : Taken)
    → at_last over run runs next (with_event runs next) ≡ run_with over run next ∷ rest_with over run runs next
unfolding run_with rest_with
first_with None run runs next = refl
first_with (Some over) run runs next = refl

begin_same : (over : Option Logged) (run : LogRun) (next : Taken) → (run_with over run next).begin ≡ run.begin
unfolding run_with
begin_same (Some over) run next = refl
begin_same None run next = by_holds next.holds
  where
    by_holds : (holds : Bool)
        → (if holds then run else record { begin = run.begin; over = Some next.logged }).begin ≡ run.begin
    by_holds true = refl
    by_holds false = refl

pub same_later : (over : Option Logged) (run : LogRun) (next : Taken) → run.over ≡ over
    → IsSameLater run (run_with over run next)
unfolding run_with
same_later None run next is = record {
  begin = begin_same None run next;
  over = rw is tt;
}
same_later (Some over) run next is = record { begin = refl; over = rw is refl }

module _ (watched : List HostWatch) (taken : List Taken) where
  -- First runs that wait, and each of which begins before any other one is over, are the least that overlap.
  module _ (first : ℕ → LogRun) (others : ℕ → List LogRun) (rise : OwnRise watched taken)
      (waits : AreWaiting watched taken (λ p. first p ∷ others p))
      (meet : (p q : ℕ) → p < length watched → q < length watched → (p ≡ q → ⊥) →
      IfSome (first q).over (λ over. HappenedBefore (first p).begin.event over.event)) where
    pub least_waiting : AreLeastIn watched taken first
    least_waiting = record {
      overlap = ends_found watched taken (λ p. first p ∷ others p) waits first others (λ p host. refl) meet;
      least = λ found overlap p host.
          let all : AreAllFrom (row watched taken p) (waits.low p) (first p ∷ others p) = waits.all p host in
          let low = subst (λ log. OwnRise watched log → (overlap : AreOverlappingIn watched log found)
          → waits.low p ≤ (overlap.are p host).from) (append-nil taken)
          (λ rise_all overlap_all. waits.left [] rise_all found overlap_all p host) rise overlap in
          let other = overlap.are p host in
          let order : all.0 ≤ other.from =
          ⊎_elim
          (λ (early : other.from < all.0).
          absurd (false≢true (sym (all.4 other.from low early)
          ∙ other.is.holds other.from (omega arith) other.is.some)))
          (λ (late : all.0 ≤ other.from). late)
          (cases_lt other.from all.0) in
          let inside : other.from < length (row watched taken p) =
          omega (arith, other.is.some, other.is.within) in
          rw (all.3.begin, other.begins) (rises_to watched taken rise all.0 other.from p host order inside);
    }

  pub least_now : (first : ℕ → LogRun) → AreStanding watched taken first → AreLeastIn watched taken first
  least_now first stand = least_waiting first stand.others stand.rise stand.waits
      (λ p q p_host q_host isnt. before (first q).over (first p) _ (stand.meet p q p_host q_host isnt))
    where
      before : (over : Option Logged) (run : LogRun) (reached : Type 0)
          → MatchOption over reached (λ over. HappenedBefore run.begin.event over.event)
          → IfSome over (λ over. HappenedBefore run.begin.event over.event)
      before None run reached met = tt
      before (Some over) run reached met = met

  module _ (next : Taken) (comes : ComesNext taken next) where
    pub meets_more : (q : ℕ) (run other : LogRun) → Meets watched taken q run other
        → Meets watched (taken ++ next ∷ []) q run other
    meets_more q run other met = by_over other.over met
      where
        by_over : (over : Option Logged)
            → MatchOption over (own run.begin.event ≤ number_of run.begin.event.host
            (last_clock (watch_at watched q).host (events_of taken)))
            (λ over. HappenedBefore run.begin.event over.event)
            → MatchOption over (own run.begin.event ≤ number_of run.begin.event.host
            (last_clock (watch_at watched q).host (events_of (taken ++ next ∷ []))))
            (λ over. HappenedBefore run.begin.event over.event)
        by_over None met =
            omega (
              arith,
              met,
              last_clock-grows taken next comes (watch_at watched q).host run.begin.event.host,
            )
        by_over (Some over) met = met

    pub meets_own : (q : ℕ) (run other : LogRun) → next.logged.event.host ≡ (watch_at watched q).host
        → Meets watched taken q run other → Meets watched (taken ++ next ∷ []) q run (run_with other.over other next)
    unfolding run_with
    meets_own q run other same met = by_over other.over refl met
      where
        reached_later : own run.begin.event ≤ number_of run.begin.event.host
            (last_clock (watch_at watched q).host (events_of taken))
            → own run.begin.event ≤ number_of run.begin.event.host
            (last_clock (watch_at watched q).host (events_of (taken ++ next ∷ [])))
        reached_later met =
            omega (
              arith,
              met,
              last_clock-grows taken next comes (watch_at watched q).host run.begin.event.host,
            )

        counted : own run.begin.event ≤ number_of run.begin.event.host
            (last_clock (watch_at watched q).host (events_of taken))
            → HappenedBefore run.begin.event next.logged.event
        counted met =
            let known : KnowsNoMore (last_clock (watch_at watched q).host (events_of taken)) next.logged.event.clock =
            subst (λ host. KnowsNoMore (last_clock host (events_of taken)) next.logged.event.clock) same
            comes.last_known in
            omega (arith, met, known run.begin.event.host)

        by_holds : (holds : Bool) → other.over ≡ None → own run.begin.event ≤ number_of run.begin.event.host
            (last_clock (watch_at watched q).host (events_of taken))
            → Meets watched (taken ++ next ∷ []) q run
            (if holds then other else record { begin = other.begin; over = Some next.logged })
        by_holds true none met = rw none (reached_later met)
        by_holds false none met = counted met

        by_over : (over : Option Logged) → other.over ≡ over
            → MatchOption over (own run.begin.event ≤ number_of run.begin.event.host
            (last_clock (watch_at watched q).host (events_of taken)))
            (λ over. HappenedBefore run.begin.event over.event)
            → Meets watched (taken ++ next ∷ []) q run (run_with over other next)
        by_over None is met = by_holds next.holds is met
        by_over (Some over) is met = rw is met

    pub meets_begin : (q : ℕ) (run later other : LogRun) → later.begin ≡ run.begin
        → Meets watched (taken ++ next ∷ []) q run other → Meets watched (taken ++ next ∷ []) q later other
    meets_begin q run later other same met =
        subst (λ begin. Meets watched (taken ++ next ∷ []) q (record { begin = begin; over = later.over }) other)
        (sym same) met
