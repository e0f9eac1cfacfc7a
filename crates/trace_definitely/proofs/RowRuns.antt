-- Runs among the events of a host, to which more events come.
use Rattle.std.proofs.Common.{◌≡◌, ◌∙◌, sym, ap, subst, ℕ, suc, ◌+◌, ◌<◌, ◌≤◌, ◌⊎◌, Bool, inr}
use Rattle.std.proofs.Common.{List, [], ◌∷◌, ◌++◌, length, true, false, Option, Some, None, refl, arith, ⊎_elim}
use Rattle.std.proofs.Common.{ltb, length-append}
use Rattle.std.specs.Prelude.{if◌then◌else◌}
use Rattle.std.proofs.lemmas.Bool.{cases_Bool, cases_lt, false≢true, le-ltb, lt-ltb, ltb-false, ltb-true}
use Rattle.std.proofs.lemmas.List.{get_or_append_left, get_or-append-add}
use Rattle.std.proofs.lemmas.Option.{none-some}
use Rattle.trace_log.specs.Log.{Logged}
use Rattle.trace_moment.specs.Moment.{Taken}
use Rattle.trace_definitely.specs.Logs.{LogRun, no_event}
use Rattle.trace_definitely.specs.Waiting.{AreAllFrom, IsRunIn, NoneHold, at_last, nth, with_event}

-- What an over run says of its end.
over_at : (events : List Taken) (until : ℕ) → Option Logged
over_at events until = if ltb until (length events) then Some (nth events until).logged else None

pub is_over : (events : List Taken) (from until : ℕ) (run : LogRun) (over : Logged) → IsRunIn events from until run
    → run.over ≡ Some over → (until < length events) × ((nth events until).logged ≡ over)
is_over events from until run over is ends =
    ⊎_elim
    (λ (before : ltb until (length events) ≡ true).
    let at : Some (nth events until).logged ≡ Some over =
    ap (λ b. if b then Some (nth events until).logged else None) (sym before) ∙ sym is.over ∙ ends in
    (ltb-true _ _ before, some_same at))
    (λ (past : ltb until (length events) ≡ false).
    let none : None ≡ Some over =
    ap (λ b. if b then Some (nth events until).logged else None) (sym past) ∙ sym is.over ∙ ends in
    absurd (none-some over none))
    (cases_Bool (ltb until (length events)))
  where
    some_same : {x y : Logged} → Some x ≡ Some y → x ≡ y
    some_same {x = x} same = ap (λ it. elim it [ Some z ↦ z | None ↦ x ]) same

pub goes_on : (events : List Taken) (from until : ℕ) (run : LogRun) → IsRunIn events from until run
    → run.over ≡ None → until ≡ length events
goes_on events from until run is none =
    ⊎_elim
    (λ (before : ltb until (length events) ≡ true).
    let at : None ≡ Some (nth events until).logged =
    sym none ∙ is.over ∙ ap (λ b. if b then Some (nth events until).logged else None) before in
    absurd (none-some (nth events until).logged at))
    (λ (past : ltb until (length events) ≡ false). omega (arith, is.within, ltb-false _ _ past))
    (cases_Bool (ltb until (length events)))

-- Two runs that begin with the same event are one.
pub same_end : (events : List Taken) (from until other_until : ℕ) (run other : LogRun) → IsRunIn events from until run
    → IsRunIn events from other_until other → until ≤ other_until
same_end events from until other_until run other is are =
    ⊎_elim
    (λ (early : other_until < until).
    absurd (false≢true (sym (are.ends (omega (arith, early, is.within)))
    ∙ is.holds other_until (omega (arith, are.some)) early)))
    (λ (late : until ≤ other_until). late)
    (cases_lt other_until until)

module _ (events later : List Taken) where
  all : List Taken
  all = events ++ later

  nth_before : (k : ℕ) → k < length events → nth (events ++ later) k ≡ nth events k
  nth_before k before = get_or_append_left events later no_event k before

  length_all : length (events ++ later) ≡ length events + length later
  length_all = length-append events later

  -- A run that is over stays it.
  pub stays : (from until : ℕ) (run : LogRun) → IsRunIn events from until run → until < length events
      → IsRunIn (events ++ later) from until run
  stays from until run is before = record {
    some = is.some;
    within = omega (arith, is.within, length_all);
    holds = λ k behind early. ap (λ (it : Taken). it.holds) (nth_before k (omega (arith, early, is.within)))
        ∙ is.holds k behind early;
    begins = λ k at.
        ap (λ (it : Taken). it.holds) (nth_before k (omega (arith, at, is.some, is.within))) ∙ is.begins k at;
    ends = λ less. ap (λ (it : Taken). it.holds) (nth_before until before) ∙ is.ends before;
    begin = is.begin ∙ sym (ap (λ (it : Taken). it.logged) (nth_before from (omega (arith, is.some, before))));
    over = is.over ∙ same_over;
  }
    where
      same_over : (if ltb until (length events) then Some (nth events until).logged else None)
          ≡ (if ltb until (length (events ++ later)) then Some (nth (events ++ later) until).logged else None)
      same_over =
          rw (
            lt-ltb until (length events) before,
            lt-ltb until (length (events ++ later)) (omega (arith, before, length_all)),
            nth_before until before,
          )
          refl

  -- What holds from none of the events doesn't from these.
  pub none_before : (low high : ℕ) → high ≤ length events → NoneHold events low high
      → NoneHold (events ++ later) low high
  none_before low high within none k behind before =
      ap (λ (it : Taken). it.holds) (nth_before k (omega (arith, before, within))) ∙ none k behind before

module _ (events : List Taken) (next : Taken) where
  more : List Taken
  more = events ++ next ∷ []

  nth_old : (k : ℕ) → k < length events → nth (events ++ next ∷ []) k ≡ nth events k
  nth_old k before = get_or_append_left events (next ∷ []) no_event k before

  nth_new : nth (events ++ next ∷ []) (length events) ≡ next
  nth_new =
      let at : length events ≡ length events + 0 = omega arith in
      ap (λ k. nth (events ++ next ∷ []) k) at ∙ get_or-append-add events (next ∷ []) 0 no_event

  length_more : length (events ++ next ∷ []) ≡ length events + 1
  length_more = length-append events (next ∷ []) ∙ ap (λ n. length events + n) (omega arith)

  -- One that goes on goes on, or the next event ends it.
  on_with : (from : ℕ) (run : LogRun) → IsRunIn events from (length events) run → next.holds ≡ true
      → IsRunIn (events ++ next ∷ []) from (length events + 1) run
  on_with from run is on = record {
    some = omega (arith, is.some);
    within = omega (arith, length_more);
    holds = λ k behind early. ⊎_elim
        (λ (before : k < length events). ap (λ (it : Taken). it.holds) (nth_old k before) ∙ is.holds k behind before)
        (λ (last : length events ≤ k).
        let at : k ≡ length events = omega (arith, last, early) in
        ap (λ j. (nth (events ++ next ∷ []) j).holds) at ∙ ap (λ (it : Taken). it.holds) nth_new ∙ on)
        (cases_lt k (length events));
    begins = λ k at. ap (λ (it : Taken). it.holds) (nth_old k (omega (arith, at, is.some))) ∙ is.begins k at;
    ends = λ less. absurd (omega (arith, less, length_more));
    begin = is.begin ∙ sym (ap (λ (it : Taken). it.logged) (nth_old from is.some));
    over = is.over ∙ rw (
      le-ltb (length events) (length events) (omega arith),
      le-ltb (length events + 1) (length (events ++ next ∷ [])) (omega (arith, length_more)),
    )
        refl;
  }

  ended_by : (from : ℕ) (run : LogRun) → IsRunIn events from (length events) run → next.holds ≡ false
      → IsRunIn (events ++ next ∷ []) from (length events) (record { begin = run.begin; over = Some next.logged })
  ended_by from run is off = record {
    some = is.some;
    within = omega (arith, length_more);
    holds = λ k behind before. ap (λ (it : Taken). it.holds) (nth_old k before) ∙ is.holds k behind before;
    begins = λ k at. ap (λ (it : Taken). it.holds) (nth_old k (omega (arith, at, is.some))) ∙ is.begins k at;
    ends = λ less. ap (λ (it : Taken). it.holds) nth_new ∙ off;
    begin = is.begin ∙ sym (ap (λ (it : Taken). it.logged) (nth_old from is.some));
    over = rw (lt-ltb (length events) (length (events ++ next ∷ [])) (omega (arith, length_more)), nth_new) refl;
  }

  begun_by : (low : ℕ) → (low ≡ 0) ⊎ (low < length events) → NoneHold events low (length events) → next.holds ≡ true
      → IsRunIn (events ++ next ∷ []) (length events) (length events + 1)
      (record { begin = next.logged; over = None })
  begun_by low within none on = record {
    some = omega arith;
    within = omega (arith, length_more);
    holds = λ k behind early.
        let at : k ≡ length events = omega (arith, behind, early) in
        ap (λ j. (nth (events ++ next ∷ []) j).holds) at ∙ ap (λ (it : Taken). it.holds) nth_new ∙ on;
    begins = λ k at. ap (λ (it : Taken). it.holds) (nth_old k (omega (arith, at))) ∙ ⊎_elim
        (λ (early : k < low). absurd (first k at early))
        (λ (late : low ≤ k). none k late (omega (arith, at)))
        (cases_lt k low);
    ends = λ less. absurd (omega (arith, less, length_more));
    begin = sym (ap (λ (it : Taken). it.logged) nth_new);
    over = rw (le-ltb (length events + 1) (length (events ++ next ∷ [])) (omega (arith, length_more))) refl;
  }
    where
      first : (k : ℕ) → suc k ≡ length events → k < low → ⊥
      first k at early =
          ⊎_elim
          (λ (zero_low : low ≡ 0). omega (arith, zero_low, early))
          (λ (inside : low < length events). omega (arith, inside, at, early))
          within

  none_with : (low : ℕ) → low ≤ length events → NoneHold events low (length events) → next.holds ≡ false
      → NoneHold (events ++ next ∷ []) low (length (events ++ next ∷ []))
  none_with low within none off k behind before =
      ⊎_elim
      (λ (early : k < length events). ap (λ (it : Taken). it.holds) (nth_old k early) ∙ none k behind early)
      (λ (last : length events ≤ k).
      let at : k ≡ length events = omega (arith, last, before, length_more) in
      ap (λ j. (nth (events ++ next ∷ []) j).holds) at ∙ ap (λ (it : Taken). it.holds) nth_new ∙ off)
      (cases_lt k (length events))

  low_within : (low : ℕ) → (low ≡ 0) ⊎ (low < length events) → low ≤ length events
  low_within low within =
      ⊎_elim
      (λ (zero_low : low ≡ 0). omega (arith, zero_low))
      (λ (inside : low < length events). omega (arith, inside))
      within

  started : (low : ℕ) → (low ≡ 0) ⊎ (low < length events) → NoneHold events low (length events) → (holds : Bool)
      → next.holds ≡ holds → AreAllFrom (events ++ next ∷ []) low
      (if holds then record { begin = next.logged; over = None } ∷ [] else [])
  started low within none true on = (
    length events,
    length events + 1,
    low_within low within,
    begun_by low within none on,
    none_before events (next ∷ []) low (length events) (omega arith) none,
    λ k behind before. absurd (omega (arith, behind, before, length_more)),
  )
  started low within none false off = none_with low (low_within low within) none off

  continued : (low from : ℕ) (run : LogRun) → low ≤ from → IsRunIn events from (length events) run
      → NoneHold (events ++ next ∷ []) low from → (holds : Bool) → next.holds ≡ holds
      → AreAllFrom (events ++ next ∷ []) low
      ((if holds then run else record { begin = run.begin; over = Some next.logged }) ∷ [])
  continued low from run above is front true on = (
    from,
    length events + 1,
    above,
    on_with from run is on,
    front,
    λ k behind before. absurd (omega (arith, behind, before, length_more)),
  )
  continued low from run above is front false off = (
    from,
    length events,
    above,
    ended_by from run is off,
    front,
    none_with (length events) (omega arith) (λ k behind before. absurd (omega (arith, behind, before))) off,
  )

  -- All runs from an event on, with the next event.
  pub grown : (low : ℕ) → (low ≡ 0) ⊎ (low < length events) → (runs : List LogRun) → AreAllFrom events low runs
      → AreAllFrom (events ++ next ∷ []) low (with_event runs next)
  grown low within [] none = started low within none next.holds refl
  grown low within (run ∷ runs) all =
      by_end (λ inside. grown all.1 (inr inside) runs all.5) run.over refl
    where
      from : ℕ
      from = all.0

      later : List LogRun
      later = with_event runs next

      front : NoneHold (events ++ next ∷ []) low from
      front = none_before events (next ∷ []) low from (omega (arith, all.3.some, all.3.within)) all.4

      ongoing : (rest : List LogRun) → AreAllFrom events (length events) rest
          → IsRunIn events from (length events) run
          → AreAllFrom (events ++ next ∷ []) low
          ((if next.holds then run else record { begin = run.begin; over = Some next.logged }) ∷ rest)
      ongoing [] none is = continued low from run all.2 is front next.holds refl
      ongoing (other ∷ others) rest is = absurd (omega (arith, rest.2, rest.3.some, rest.3.within))

      by_end : (all.1 < length events → AreAllFrom (events ++ next ∷ []) all.1 later) → (over : Option Logged)
          → run.over ≡ over → AreAllFrom (events ++ next ∷ []) low (at_last over run runs next later)
      by_end rest None is =
          let end = goes_on events from all.1 run all.3 is in
          ongoing runs (subst (λ low. AreAllFrom events low runs) end all.5)
          (subst (λ until. IsRunIn events from until run) end all.3)
      by_end rest (Some over) is =
          let end = is_over events from all.1 run over all.3 is in
          (from, all.1, all.2, stays events (next ∷ []) from all.1 run all.3 end.0, front, rest end.0)
