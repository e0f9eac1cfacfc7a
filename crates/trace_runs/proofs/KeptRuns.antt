-- What is kept of the runs of one host.
use Rattle.std.proofs.Common.{◌≡◌, ◌∙◌, sym, ap, subst, ℕ, List, [], ◌∷◌, ◌++◌, map, drop}
use Rattle.std.proofs.Common.{Bool, true, false, refl, Option, Some, None}
use Rattle.std.proofs.lemmas.List.{map-append}
use Rattle.std.proofs.lemmas.Option.{none-some}
use Rattle.std.specs.Prelude.{option_map}
use Rattle.trace_log.specs.Clock.{number_of}
use Rattle.trace_log.specs.Log.{Logged}
use Rattle.trace_log.specs.Order.{last_clock}
use Rattle.trace_moment.specs.Moment.{HostWatch, Taken, events_of}
use Rattle.trace_moment.specs.Kept.{numbers_in}
use Rattle.trace_moment.proofs.Clocks.{ComesNext}
use Rattle.trace_definitely.specs.Logs.{LogRun}
use Rattle.trace_definitely.specs.Waiting.{with_event}
use Rattle.trace_runs.specs.Kept.{KeptRuns, OverRun, begin_among, begin_with, end_among, ended_with}
use Rattle.trace_runs.specs.Kept.{first_begin, first_end, going_on_with, kept_begin, kept_over, over_run, runs_of}
use Rattle.trace_runs.specs.Kept.{told_among, told_kept, told_run, with_next, without_first}
use Rattle.trace_runs.specs.Keeping.{AreKept}

-- The first of some runs.
abbrev pub first_run : List LogRun → Option LogRun
first_run [] = None
first_run (run ∷ runs) = Some run

abbrev pub end_numbers : List HostWatch → Option LogRun → Option (List ℕ)
end_numbers watched None = None
end_numbers watched (Some run) = option_map (λ over. numbers_in watched over.event.clock) run.over

begin_same : (watched : List HostWatch) (over : List OverRun) (ongoing : Option Logged)
    → begin_among (map (kept_over watched) over) (option_map kept_begin ongoing)
    ≡ option_map (λ run. kept_begin run.begin) (first_run (runs_of over ongoing))
begin_same watched [] None = refl
begin_same watched [] (Some begin) = refl
begin_same watched (one ∷ others) ongoing = refl

end_same : (watched : List HostWatch) (over : List OverRun) (ongoing : Option Logged)
    → end_among (map (kept_over watched) over) ≡ end_numbers watched (first_run (runs_of over ongoing))
end_same watched [] None = refl
end_same watched [] (Some begin) = refl
end_same watched (one ∷ others) ongoing = refl

some_same : {x y : LogRun} → Some x ≡ Some y → x ≡ y
some_same same = cc

told_same : (watched : List HostWatch) (over : List OverRun) (ongoing : Option Logged) (run : LogRun)
    → first_run (runs_of over ongoing) ≡ Some run
    → told_among (map (kept_over watched) over) (option_map kept_begin ongoing) ≡ told_run run
told_same watched [] None run is = absurd (none-some run is)
told_same watched [] (Some begin) run is = ap told_run (some_same is)
told_same watched (one ∷ others) ongoing run is = ap told_run (some_same is)

-- The runs after one event more.
ended : Option Logged → Logged → Bool → List OverRun
ended None logged holds = []
ended (Some begin) logged true = []
ended (Some begin) logged false = record { begin = begin; over = logged } ∷ []

going : Option Logged → Logged → Bool → Option Logged
going None logged true = Some logged
going None logged false = None
going (Some begin) logged true = Some begin
going (Some begin) logged false = None

runs_next : (over : List OverRun) (ongoing : Option Logged) (logged : Logged) (holds : Bool)
    → with_event (runs_of over ongoing) (record { logged = logged; holds = holds })
    ≡ runs_of (over ++ ended ongoing logged holds) (going ongoing logged holds)
unfolding ended going
runs_next [] None logged true = refl
runs_next [] None logged false = refl
runs_next [] (Some begin) logged true = refl
runs_next [] (Some begin) logged false = refl
runs_next (one ∷ others) ongoing logged holds =
    ap (λ (runs : List LogRun). over_run one ∷ runs) (runs_next others ongoing logged holds)

ended_kept : (watched : List HostWatch) (ongoing : Option Logged) (logged : Logged) (holds : Bool)
    → ended_with logged.line (numbers_in watched logged.event.clock) holds (option_map kept_begin ongoing)
    ≡ map (kept_over watched) (ended ongoing logged holds)
unfolding ended
ended_kept watched None logged holds = refl
ended_kept watched (Some begin) logged true = refl
ended_kept watched (Some begin) logged false = refl

going_kept : (ongoing : Option Logged) (logged : Logged) (holds : Bool)
    → going_on_with (kept_begin logged) holds (option_map kept_begin ongoing)
    ≡ option_map kept_begin (going ongoing logged holds)
unfolding going
going_kept None logged true = refl
going_kept None logged false = refl
going_kept (Some begin) logged true = refl
going_kept (Some begin) logged false = refl

module _ (watched : List HostWatch) (taken : List Taken) (one : KeptRuns) (runs : List LogRun)
    (are : AreKept watched taken one runs) where
  pub begin_is : first_begin one ≡ option_map (λ run. kept_begin run.begin) (first_run runs)
  begin_is =
      ap (λ over. begin_among over one.ongoing) are.over_kept
      ∙ ap (λ ongoing. begin_among (map (kept_over watched) are.over) ongoing) are.ongoing_kept
      ∙ begin_same watched are.over are.ongoing
      ∙ ap (λ all. option_map (λ run. kept_begin run.begin) (first_run all)) (sym are.runs_are)

  pub end_is : first_end one ≡ end_numbers watched (first_run runs)
  end_is = ap end_among are.over_kept ∙ end_same watched are.over are.ongoing
      ∙ ap (λ all. end_numbers watched (first_run all)) (sym are.runs_are)

  pub told_is : (run : LogRun) → first_run runs ≡ Some run → told_kept one ≡ told_run run
  told_is run is =
      ap (λ over. told_among over one.ongoing) are.over_kept
      ∙ ap (λ ongoing. told_among (map (kept_over watched) are.over) ongoing) are.ongoing_kept
      ∙ told_same watched are.over are.ongoing run (sym (ap first_run are.runs_are) ∙ is)

  -- The host's next event.
  module _ (next : Taken) (comes : ComesNext taken next) where
    pub kept_next : (numbers : List ℕ) → numbers ≡ numbers_in watched next.logged.event.clock
        → next.logged.event.host ≡ one.host
        → AreKept watched (taken ++ next ∷ []) (with_next one next.logged numbers next.holds) (with_event runs next)
    kept_next numbers knows host = record {
      over = are.over ++ ended are.ongoing next.logged next.holds;
      ongoing = going are.ongoing next.logged next.holds;
      runs_are = ap (λ all. with_event all next) are.runs_are ∙ runs_next are.over are.ongoing next.logged next.holds;
      over_kept =
          ap (λ over. over ++ ended_with next.logged.line numbers next.holds one.ongoing) are.over_kept
          ∙ ap (λ ongoing. map (kept_over watched) are.over
          ++ ended_with next.logged.line numbers next.holds ongoing) are.ongoing_kept
          ∙ ap (λ all. map (kept_over watched) are.over
          ++ ended_with next.logged.line all next.holds (option_map kept_begin are.ongoing)) knows
          ∙ ap (λ ends. map (kept_over watched) are.over ++ ends)
          (ended_kept watched are.ongoing next.logged next.holds)
          ∙ sym (map-append (kept_over watched) are.over (ended are.ongoing next.logged next.holds));
      ongoing_kept =
          ap (λ name. going_on_with (begin_with next.logged (number_of name next.logged.event.clock)) next.holds
          one.ongoing) (sym host)
          ∙ ap (λ ongoing. going_on_with (kept_begin next.logged) next.holds ongoing) are.ongoing_kept
          ∙ going_kept are.ongoing next.logged next.holds;
      latest_kept = knows ∙ ap (λ clock. numbers_in watched clock) (sym (subst
          (λ name. last_clock name (events_of (taken ++ next ∷ [])) ≡ next.logged.event.clock) host comes.itself));
    }

    pub kept_other : (next.logged.event.host ≡ one.host → ⊥) → AreKept watched (taken ++ next ∷ []) one runs
    kept_other other = record {
      over = are.over;
      ongoing = are.ongoing;
      runs_are = are.runs_are;
      over_kept = are.over_kept;
      ongoing_kept = are.ongoing_kept;
      latest_kept = are.latest_kept
          ∙ ap (λ clock. numbers_in watched clock) (sym (comes.others one.host other));
    }

-- The first run is over.
pub record FirstIsOver (watched : List HostWatch) (taken : List Taken) (one : KeptRuns) (runs : List LogRun)
    (numbers : List ℕ) : Type 0 where
  pub begin : Logged
  pub over : Logged
  pub rest : List LogRun
  pub runs_are : runs ≡ record { begin = begin; over = Some over } ∷ rest
  pub knows : numbers ≡ numbers_in watched over.event.clock
  pub left : AreKept watched taken (without_first one) rest

numbers_same : {x y : List ℕ} → Some x ≡ Some y → x ≡ y
numbers_same same = cc

pub first_over : (watched : List HostWatch) (taken : List Taken) (one : KeptRuns) (runs : List LogRun)
    (numbers : List ℕ) → AreKept watched taken one runs → first_end one ≡ Some numbers
    → FirstIsOver watched taken one runs numbers
first_over watched taken one runs numbers are ends =
    by_over are.over are.runs_are are.over_kept (sym (ap end_among are.over_kept) ∙ ends)
  where
    by_over : (over : List OverRun) → runs ≡ runs_of over are.ongoing → one.over ≡ map (kept_over watched) over
        → end_among (map (kept_over watched) over) ≡ Some numbers → FirstIsOver watched taken one runs numbers
    by_over [] runs_are kept ends = absurd (none-some numbers ends)
    by_over (first ∷ others) runs_are kept ends = record {
      begin = first.begin;
      over = first.over;
      rest = runs_of others are.ongoing;
      runs_are = runs_are;
      knows = sym (numbers_same ends);
      left = record {
        over = others;
        ongoing = are.ongoing;
        runs_are = refl;
        over_kept = ap (λ over. drop 1 over) kept;
        ongoing_kept = are.ongoing_kept;
        latest_kept = are.latest_kept;
      };
    }

-- The first run isn't over: it goes on, or there is none.
pub first_ongoing : (watched : List HostWatch) (taken : List Taken) (one : KeptRuns) (runs : List LogRun)
    → AreKept watched taken one runs → first_end one ≡ None
    → (begin : Option Logged) × (runs ≡ runs_of [] begin)
first_ongoing watched taken one runs are ends =
    by_over are.over are.runs_are (sym (ap end_among are.over_kept) ∙ ends)
  where
    by_over : (over : List OverRun) → runs ≡ runs_of over are.ongoing
        → end_among (map (kept_over watched) over) ≡ None → (begin : Option Logged) × (runs ≡ runs_of [] begin)
    by_over [] runs_are ends = (are.ongoing, runs_are)
    by_over (first ∷ others) runs_are ends =
        absurd (none-some (numbers_in watched first.over.event.clock) (sym ends))
