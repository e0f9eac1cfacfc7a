-- What is taken later, and what lies behind a later moment.
use Rattle.std.specs.Prelude.{◌&&◌, not}
use Rattle.trace_moment.specs.Behind.{is_up_to, only_behind, behind, LiesBehind, behind_last, WereTaken, LastWasTaken}
use Rattle.trace_moment.proofs.Words.{◌≡◌, ◌∙◌, ℕ, Bool, true, false, Option, Some, None, List, [], ◌∷◌, ◌++◌}
use Rattle.trace_moment.proofs.Words.{refl, sym, ap, arith, false≢true, map-append, Contains-append_left}
use Rattle.trace_moment.proofs.Words.{Logged, HostWatch, Taken, HaveDistinctHosts, IsMoment, MayFollow, IsNextAt}
use Rattle.trace_moment.proofs.Words.{LastKnowsAll}
use Rattle.trace_moment.proofs.Clocks.{comes_next}
use Rattle.trace_moment.proofs.Behind.{up_to_is, up_to_from, events_behind, behind_has, held_before, MayFollow-same}
use Rattle.trace_moment.proofs.Behind.{are_those_behind}

-- What is taken next lies behind a moment whose events were taken.
behind-push : (watched : List HostWatch) (moment : ℕ → Logged) (taken : List Taken) (next : Taken)
    → LastKnowsAll taken → MayFollow taken next.logged.event → WereTaken watched taken moment
    → behind watched moment (taken ++ next ∷ []) ≡ behind watched moment taken ++ next ∷ []
behind-push watched moment taken next last follow is = map-append (only_behind watched moment) taken (next ∷ [])
    ∙ ap (λ (up : Bool). behind watched moment taken
    ++ record { logged = next.logged; holds = not up && next.holds } ∷ [])
    (by_answer (is_up_to watched moment next.logged.event) refl)
  where
    by_answer : (up : Bool) → is_up_to watched moment next.logged.event ≡ up → up ≡ false
    by_answer false is_not = refl
    by_answer true up =
        let (p, within, same, low) = up_to_is watched moment next.logged.event up in
        let before = (comes_next taken next follow).before last (record { logged = moment p; holds = true })
        (is.held p within) (is.host p within ∙ same) in
        absurd (omega (arith, before.own_rises, low))

LastKnowsAll-taken : (watched : List HostWatch) (moment : ℕ → Logged) (taken : List Taken)
    → LastKnowsAll (behind watched moment taken) → LastKnowsAll taken
LastKnowsAll-taken watched moment taken last one is name =
    let (other, there, same) = behind_has watched moment taken one is in
    rw (← events_behind watched moment taken, ← same) (last other there name)

-- What is up to a moment is up to a later one.
only_behind-later : (watched : List HostWatch) (before moment : ℕ → Logged) (one : Taken)
    → LiesBehind watched before moment
    → only_behind watched moment (only_behind watched before one) ≡ only_behind watched moment one
only_behind-later watched before moment one later =
    ap (λ (holds : Bool). record { logged = one.logged; holds = holds })
    (by_answers (is_up_to watched moment one.logged.event) (is_up_to watched before one.logged.event) refl refl)
  where
    by_answers : (now earlier : Bool) → is_up_to watched moment one.logged.event ≡ now
        → is_up_to watched before one.logged.event ≡ earlier
        → (not now && (not earlier && one.holds)) ≡ (not now && one.holds)
    by_answers true earlier up_now up_before = refl
    by_answers false false up_now up_before = refl
    by_answers false true up_now up_before =
        let (p, within, same, low) = up_to_is watched before one.logged.event up_before in
        absurd (false≢true (sym up_now ∙ up_to_from watched moment one.logged.event p within (sym same)
        (omega (arith, low, later p within))))

behind-later : (watched : List HostWatch) (before moment : ℕ → Logged) (taken : List Taken)
    → LiesBehind watched before moment
    → behind watched moment (behind watched before taken) ≡ behind watched moment taken
behind-later watched before moment [] later = refl
behind-later watched before moment (one ∷ others) later =
    rw (only_behind-later watched before moment one later, behind-later watched before moment others later) refl

module _ (watched : List HostWatch) where
  -- What is taken next lies behind the moment that was told last.
  pub last-push : (told : Option (ℕ → Logged)) (taken : List Taken) (next : Taken) → LastWasTaken watched told taken
      → LastKnowsAll (behind_last watched told taken) → MayFollow taken next.logged.event
      → behind_last watched told (taken ++ next ∷ []) ≡ behind_last watched told taken ++ next ∷ []
  last-push None taken next was last follow = refl
  last-push (Some moment) taken next was last follow =
      behind-push watched moment taken next (LastKnowsAll-taken watched moment taken last) follow was

  pub last-taken : (told : Option (ℕ → Logged)) (taken : List Taken) (next : Taken) → LastWasTaken watched told taken
      → LastWasTaken watched told (taken ++ next ∷ [])
  last-taken None taken next was = tt
  last-taken (Some moment) taken next was = record {
    held = λ p within. Contains-append_left taken (next ∷ []) _ (was.held p within);
    host = was.host;
  }

  pub last-next : (told : Option (ℕ → Logged)) (taken : List Taken) (place : ℕ) (next : Logged)
      → IsNextAt watched place taken next → IsNextAt watched place (behind_last watched told taken) next
  last-next None taken place next at = at
  last-next (Some moment) taken place next at = record {
    host = at.host;
    follows = MayFollow-same taken (behind watched moment taken) next.event
        (sym (events_behind watched moment taken)) at.follows;
  }

  -- A moment behind the last one: what lies behind it lies behind both.
  pub last-behind : (told : Option (ℕ → Logged)) (taken : List Taken) (moment : ℕ → Logged)
      → HaveDistinctHosts watched → IsMoment watched (behind_last watched told taken) moment
      → behind watched moment (behind_last watched told taken) ≡ behind watched moment taken
  last-behind None taken moment distinct is = refl
  last-behind (Some before) taken moment distinct is =
      behind-later watched before moment taken ((are_those_behind watched before taken distinct moment).0 is).1

  pub last-were : (told : Option (ℕ → Logged)) (taken : List Taken) (moment : ℕ → Logged)
      → IsMoment watched (behind_last watched told taken) moment → WereTaken watched taken moment
  last-were None taken moment is = record { held = is.held; host = is.host }
  last-were (Some before) taken moment is = record {
    held = λ p within. (held_before watched before taken (moment p) (is.held p within)).0;
    host = is.host;
  }
