-- What the steps of a search do to what is kept of all hosts.
use Rattle.std.proofs.Common.{◌≡◌, ◌∙◌, sym, ap, subst, ℕ, ◌<◌, ◌≤◌, List, [], ◌∷◌, length, map, get_or, set}
use Rattle.std.proofs.Common.{true, false, refl, arith, ⊎_elim, Option, Some, None, slice_index}
use Rattle.std.proofs.lemmas.Bool.{cases_eq, false≢true, leb-false, leb-true}
use Rattle.std.proofs.lemmas.List.{get_or-map, get_or-set_same, get_or-set_other, get_or_default, length-map}
use Rattle.std.proofs.lemmas.List.{length-set}
use Rattle.std.proofs.lemmas.Simd.{map-map}
use Rattle.std.proofs.Math.Seq.{map-set_same}
use Rattle.std.specs.Prelude.{option_map}
use Rattle.trace_log.specs.Clock.{Member, number_of}
use Rattle.trace_moment.specs.declared.watched.Lasting.TheVariants.{While}
use Rattle.trace_moment.specs.Moment.{HaveDistinctHosts, HostWatch, Taken, own}
use Rattle.trace_moment.specs.Moment.{watch_at}
use Rattle.trace_moment.specs.Elimination.{LastKnowsAll}
use Rattle.trace_moment.specs.Kept.{numbers_in}
use Rattle.trace_definitely.specs.Logs.{LogRun, OwnRise}
use Rattle.trace_definitely.specs.Waiting.{AreWaiting}
use Rattle.trace_runs.specs.Kept.{IsSameFirst, KeptBegin, KeptRuns, NoneIsPassed, first_begin}
use Rattle.trace_runs.specs.Kept.{NoneIsPassedBut}
use Rattle.trace_runs.specs.Kept.{first_end, is_counted, kept_at, kept_begin, none_kept, watch_kept, watched_in}
use Rattle.trace_runs.specs.Keeping.{AreKept, KeepWaiting}
use Rattle.trace_runs.proofs.KeptRuns.{begin_is, first_run}
use Rattle.trace_runs.proofs.Unknown.{begin_host}

-- The watched host at a place.
pub watch_is : (kept : List KeptRuns) (p : ℕ) → p < length kept
    → watch_at (watched_in kept) p ≡ watch_kept (kept_at kept p)
watch_is kept p within =
    get_or-map watch_kept kept p (none_kept [] While []) (record { host = []; lasting = While }) within

pub as_many : (kept : List KeptRuns) → length (watched_in kept) ≡ length kept
as_many kept = length-map kept watch_kept

-- The number of a watched host among those of a clock.
pub number_in : (kept : List KeptRuns) (clock : List Member) (p : ℕ) → p < length kept
    → slice_index (numbers_in (watched_in kept) clock) p ≡ number_of (watch_at (watched_in kept) p).host clock
number_in kept clock p within =
    get_or-map (λ (watch : HostWatch). number_of watch.host clock) (watched_in kept) p
    (record { host = []; lasting = While }) 0 (omega (arith, within, as_many kept))

pub numbers_kept : (kept : List KeptRuns) (clock : List Member)
    → map (λ (queue : KeptRuns). number_of queue.host clock) kept ≡ numbers_in (watched_in kept) clock
numbers_kept kept clock = sym (map-map (λ (watch : HostWatch). number_of watch.host clock) watch_kept kept)

-- A queue that was changed keeps its host.
pub watched_set : (kept : List KeptRuns) (place : ℕ) (read changed : KeptRuns)
    → watch_kept changed ≡ watch_kept (get_or kept place read) → watched_in (set kept place changed) ≡ watched_in kept
watched_set kept place read changed same = map-set_same watch_kept kept place changed read same

some_begin : {x y : KeptBegin} → Some x ≡ Some y → x ≡ y
some_begin same = cc

-- A first run that waits begins with an event which a clock counts, or it doesn't.
module _ (taken : List Taken) (kept : List KeptRuns) (has : KeepWaiting taken kept) (p : ℕ)
    (within : p < length kept) where
  host : p < length (watched_in kept)
  host = omega (arith, within, as_many kept)

  begin_number : (run : LogRun) → first_run (has.waiting p) ≡ Some run
      → first_begin (kept_at kept p) ≡ Some (kept_begin run.begin)
  begin_number run is = begin_is (watched_in kept) taken (kept_at kept p) (has.waiting p) (has.are p within)
      ∙ ap (λ first. option_map (λ run. kept_begin run.begin) first) is

  pub waits_first : (run : LogRun) → first_run (has.waiting p) ≡ Some run → (runs : List LogRun)
      × (has.waiting p ≡ run ∷ runs)
  waits_first run is = by_runs (has.waiting p) is
    where
      by_runs : (all : List LogRun) → first_run all ≡ Some run → (runs : List LogRun) × (all ≡ run ∷ runs)
      by_runs [] is = absurd (cc)
      by_runs (first ∷ others) is = (others, ap (λ (one : LogRun). one ∷ others) (same is))
        where
          same : {x y : LogRun} → Some x ≡ Some y → x ≡ y
          same it = cc

  pub its_host : (run : LogRun) → first_run (has.waiting p) ≡ Some run
      → run.begin.event.host ≡ (watch_at (watched_in kept) p).host
  its_host run is =
      let waits = waits_first run is in
      begin_host (watched_in kept) taken has.waiting has.waits has.rise p host run waits.0 waits.1

  module _ (run : LogRun) (is : first_run (has.waiting p) ≡ Some run) (clock : List Member) (numbers : List ℕ)
      (knows : numbers ≡ numbers_in (watched_in kept) clock) where
    number_is : slice_index numbers p ≡ number_of run.begin.event.host clock
    number_is =
        ap (λ all. slice_index all p) knows ∙ number_in kept clock p within
        ∙ ap (λ name. number_of name clock) (sym (its_host run is))

    pub counted : is_counted (first_begin (kept_at kept p)) (slice_index numbers p) ≡ true
        → own run.begin.event ≤ number_of run.begin.event.host clock
    counted counts =
        let reach : own run.begin.event ≤ slice_index numbers p =
        leb-true _ _ (subst (λ begin. is_counted begin (slice_index numbers p) ≡ true) (begin_number run is) counts) in
        omega (arith, reach, number_is)

    pub missed : is_counted (first_begin (kept_at kept p)) (slice_index numbers p) ≡ false
        → number_of run.begin.event.host clock < own run.begin.event
    missed misses =
        let less : slice_index numbers p < own run.begin.event =
        leb-false _ _
        (subst (λ begin. is_counted begin (slice_index numbers p) ≡ false) (begin_number run is) misses) in
        omega (arith, less, number_is)

  -- Where one is missed there is one.
  pub missed_first : (number : ℕ) → is_counted (first_begin (kept_at kept p)) number ≡ false
      → (run : LogRun) × (first_run (has.waiting p) ≡ Some run)
  missed_first number misses =
      by_first (first_run (has.waiting p)) refl
    where
      by_first : (first : Option LogRun) → first_run (has.waiting p) ≡ first
          → (run : LogRun) × (first_run (has.waiting p) ≡ Some run)
      by_first (Some run) is = (run, is)
      by_first None is =
          let none : first_begin (kept_at kept p) ≡ None =
          begin_is (watched_in kept) taken (kept_at kept p) (has.waiting p) (has.are p within)
          ∙ ap (λ first. option_map (λ run. kept_begin run.begin) first) is in
          absurd (false≢true (sym misses ∙ ap (λ begin. is_counted begin number) none))

module _ (kept : List KeptRuns) (place : ℕ) (read changed : KeptRuns) (within : place < length kept) where
  pub read_is : get_or kept place read ≡ kept_at kept place
  read_is = get_or_default kept place read (none_kept [] While []) within

  abbrev now : List KeptRuns
  now = set kept place changed

  at_place : (p : ℕ) → p ≡ place → kept_at (set kept place changed) p ≡ changed
  at_place p same = ap (kept_at (set kept place changed)) same
      ∙ get_or-set_same kept place changed (none_kept [] While []) within

  pub elsewhere : (p : ℕ) → (p ≡ place → ⊥) → kept_at (set kept place changed) p ≡ kept_at kept p
  elsewhere p other = get_or-set_other kept place p changed (none_kept [] While []) other

  here : (p : ℕ) → p < length (set kept place changed) → p < length kept
  here p inside = omega (arith, inside, length-set kept place changed)

  -- A first run that stays the same is over too early where it was.
  pub settled_same : IsSameFirst (get_or kept place read) changed → NoneIsPassed kept
      → NoneIsPassed (set kept place changed)
  settled_same same settled q p q_in p_in apart =
      rw (end_at q, begin_at p) (settled q p (here q q_in) (here p p_in) apart)
    where
      begin_at : (p : ℕ) → first_begin (kept_at (set kept place changed) p) ≡ first_begin (kept_at kept p)
      begin_at p =
          ⊎_elim
          (λ (is : p ≡ place). ap first_begin (at_place p is) ∙ same.begin ∙ ap first_begin read_is
          ∙ ap (λ k. first_begin (kept_at kept k)) (sym is))
          (λ (isnt : p ≡ place → ⊥). ap first_begin (elsewhere p isnt))
          (cases_eq p place)

      end_at : (p : ℕ) → first_end (kept_at (set kept place changed) p) ≡ first_end (kept_at kept p)
      end_at p =
          ⊎_elim
          (λ (is : p ≡ place). ap first_end (at_place p is) ∙ same.end ∙ ap first_end read_is
          ∙ ap (λ k. first_end (kept_at kept k)) (sym is))
          (λ (isnt : p ≡ place → ⊥). ap first_end (elsewhere p isnt))
          (cases_eq p place)

  -- If it changes, the others don't.
  pub settled_but : NoneIsPassed kept → NoneIsPassedBut place (set kept place changed)
  settled_but settled q p q_in p_in apart q_other p_other =
      rw (elsewhere q q_other, elsewhere p p_other) (settled q p (here q q_in) (here p p_in) apart)

  module _ (same : watch_kept changed ≡ watch_kept (get_or kept place read)) (taken : List Taken) where
    watched_now : watched_in (set kept place changed) ≡ watched_in kept
    watched_now = watched_set kept place read changed same

    -- What waits now, by what is kept of each host.
    pub keeping : (waiting : ℕ → List LogRun) → HaveDistinctHosts (watched_in kept) → OwnRise (watched_in kept) taken
        → LastKnowsAll taken → AreWaiting (watched_in kept) taken waiting
        → AreKept (watched_in kept) taken changed (waiting place)
        → ((p : ℕ) → p < length kept → (p ≡ place → ⊥) → AreKept (watched_in kept) taken (kept_at kept p) (waiting p))
        → KeepWaiting taken (set kept place changed)
    keeping waiting distinct rise last waits own_kept others_kept = record {
      distinct = subst HaveDistinctHosts (sym watched_now) distinct;
      rise = subst (λ watched. OwnRise watched taken) (sym watched_now) rise;
      last = last;
      waiting = waiting;
      waits = subst (λ watched. AreWaiting watched taken waiting) (sym watched_now) waits;
      are = λ p inside. subst (λ watched. AreKept watched taken (kept_at (set kept place changed) p) (waiting p))
          (sym watched_now) (⊎_elim
          (λ (is : p ≡ place). rw (at_place p is, is) own_kept)
          (λ (isnt : p ≡ place → ⊥). rw (elsewhere p isnt) (others_kept p (here p inside) isnt))
          (cases_eq p place));
    }
