-- What is kept with the next event of a host, and without a first run that is over too early.
use Rattle.std.proofs.Common.{◌≡◌, ◌==◌, ◌∙◌, sym, ap, ℕ, ◌<◌, List, [], ◌∷◌, ◌++◌, length, map, get_or, set}
use Rattle.std.proofs.Common.{true, false, refl, arith, ⊎_elim, Some, slice_index}
use Rattle.std.proofs.lemmas.Bool.{cases_Bool, eq-eqb, eqb-true}
use Rattle.trace_log.specs.Clock.{number_of}
use Rattle.trace_moment.specs.Moment.{HappenedBefore, HostWatch, IsNextAt, Taken}
use Rattle.trace_moment.proofs.Clocks.{ComesNext, comes_next, LastKnowsAll-push}
use Rattle.trace_definitely.specs.Logs.{LogRun}
use Rattle.trace_definitely.specs.Waiting.{with_event, with_host}
use Rattle.trace_definitely.proofs.Waits.{drops, grows}
use Rattle.trace_runs.specs.Kept.{IsPassed, KeptRuns, kept_at, watch_kept, watched_in, with_next, without_first}
use Rattle.trace_runs.specs.Keeping.{KeepWaiting}
use Rattle.trace_runs.proofs.Rising.{OwnRise-push}
use Rattle.trace_runs.proofs.KeptRuns.{first_over, kept_next, kept_other}
use Rattle.trace_runs.proofs.KeptSteps.{as_many, keeping, missed, missed_first, numbers_kept, read_is, waits_first}
use Rattle.trace_runs.proofs.KeptSteps.{watch_is}

host_own : (waiting : ℕ → List LogRun) (at : ℕ) (runs : List LogRun) → with_host waiting at runs at ≡ runs
host_own waiting at runs = rw (eq-eqb at at refl) refl

host_other : (waiting : ℕ → List LogRun) (at : ℕ) (runs : List LogRun) (p : ℕ) → (p ≡ at → ⊥)
    → with_host waiting at runs p ≡ waiting p
host_other waiting at runs p other =
    ⊎_elim
    (λ (is : (p == at) ≡ true). absurd (other (eqb-true p at is)))
    (λ (isnt : (p == at) ≡ false). rw isnt refl)
    (cases_Bool (p == at))

module _ (kept : List KeptRuns) (place : ℕ) (read changed : KeptRuns) (within : place < length kept)
    (taken : List Taken) (has : KeepWaiting taken kept) where
  abbrev watched : List HostWatch
  watched = watched_in kept

  host : place < length (watched_in kept)
  host = omega (arith, within, as_many kept)

  -- The next event of the host at the place.
  pub waiting_next : (next : Taken) (numbers : List ℕ) → IsNextAt (watched_in kept) place taken next.logged
      → changed ≡ with_next (get_or kept place read) next.logged numbers next.holds
      → numbers ≡ map (λ (queue : KeptRuns). number_of queue.host next.logged.event.clock) kept
      → KeepWaiting (taken ++ next ∷ []) (set kept place changed)
  waiting_next next numbers at is knows =
      let comes : ComesNext taken next = comes_next taken next at.follows in
      let now : changed ≡ with_next (kept_at kept place) next.logged numbers next.holds =
      is ∙ ap (λ (one : KeptRuns). with_next one next.logged numbers next.holds)
      (read_is kept place read changed within) in
      let its : next.logged.event.host ≡ (kept_at kept place).host =
      at.host ∙ ap (λ (watch : HostWatch). watch.host) (watch_is kept place within) in
      let runs : List LogRun = with_event (has.waiting place) next in
      keeping kept place read changed within
      (is_host is) (taken ++ next ∷ []) (with_host has.waiting place runs) has.distinct
      (OwnRise-push watched taken next has.rise has.last at.follows)
      (LastKnowsAll-push taken next comes has.last)
      (grows watched taken has.waiting has.waits next place has.distinct host at.host)
      (rw (now, host_own has.waiting place runs) (kept_next watched taken (kept_at kept place) (has.waiting place)
      (has.are place within) next comes numbers (knows ∙ numbers_kept kept next.logged.event.clock) its))
      (λ p inside isnt. rw (host_other has.waiting place runs p isnt)
      (kept_other watched taken (kept_at kept p) (has.waiting p) (has.are p inside) next comes
      (λ same. isnt (has.distinct p place (omega (arith, inside, as_many kept)) host
      (ap (λ (watch : HostWatch). watch.host) (watch_is kept p inside) ∙ sym same ∙ at.host)))))
    where
      is_host : changed ≡ with_next (get_or kept place read) next.logged numbers next.holds
          → watch_kept changed ≡ watch_kept (get_or kept place read)
      is_host is = ap watch_kept is

  -- The first run of the host at the place is over too early.
  pub waiting_dropped : IsPassed place kept → changed ≡ without_first (get_or kept place read)
      → KeepWaiting taken (set kept place changed)
  waiting_dropped (p, p_in, apart, (numbers, ends, misses)) is =
      let first = first_over watched taken (kept_at kept place) (has.waiting place) numbers (has.are place within)
      ends in
      let other = missed_first taken kept has p p_in (slice_index numbers p) misses in
      let others = waits_first taken kept has p p_in other.0 other.1 in
      let less = missed taken kept has p p_in other.0 other.1 first.over.event.clock numbers first.knows misses in
      let run : LogRun = record { begin = first.begin; over = Some first.over } in
      keeping kept place read changed within (ap watch_kept is) taken (with_host has.waiting place first.rest)
      has.distinct has.rise has.last
      (drops watched taken has.waiting has.waits place p host (omega (arith, p_in, as_many kept))
      (λ same. apart (sym same)) run other.0 first.rest others.0 first.over first.runs_are others.1 refl
      (λ (before : HappenedBefore other.0.begin.event first.over.event). omega (arith, before, less)))
      (rw (is, read_is kept place read changed within, host_own has.waiting place first.rest) first.left)
      (λ q inside isnt. rw (host_other has.waiting place first.rest q isnt) (has.are q inside))
