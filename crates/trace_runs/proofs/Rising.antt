-- The rows of what is taken, one event after another.
use Rattle.std.proofs.Common.{◌≡◌, ◌∙◌, sym, ap, subst, ℕ, ◌+◌, ◌<◌, ◌≤◌, ◌⊎◌, inl, inr, List, [], ◌∷◌, ◌++◌}
use Rattle.std.proofs.Common.{length, true, false, cond, arith, ⊎_elim, append-nil, append_assoc, length-append}
use Rattle.std.proofs.lemmas.Bool.{cases_Bool, cases_lt}
use Rattle.std.proofs.lemmas.List.{get_or_append_left, get_or-append-add}
use Rattle.std.proofs.lemmas.List.Elements.{filter-append}
use Rattle.std.proofs.lemmas.Slice.Eq.{bytes_eq-Decides}
use Rattle.std.specs.Str.{bytes_eq}
use Rattle.trace_moment.specs.Moment.{HostWatch, MayFollow, Taken, own, watch_at}
use Rattle.trace_moment.specs.Elimination.{LastKnowsAll}
use Rattle.trace_moment.proofs.Clocks.{comes_next}
use Rattle.trace_definitely.specs.Logs.{AreOverlappingIn, LogRun, OwnRise, event_at, is_of, no_event, row}
use Rattle.trace_definitely.specs.Waiting.{AreWaiting, nth}
use Rattle.trace_definitely.proofs.Moments.{host_of, in_log}

module _ (watched : List HostWatch) where
  rows : (taken more : List Taken) (p : ℕ) → row watched (taken ++ more) p ≡ row watched taken p ++ row watched more p
  rows taken more p = filter-append (is_of watched p) taken more

  module _ (taken : List Taken) (next : Taken) where
    -- An event of another host isn't in the row.
    pub other_row : (p : ℕ) → (next.logged.event.host ≡ (watch_at watched p).host → ⊥)
        → row watched (taken ++ next ∷ []) p ≡ row watched taken p
    other_row p other =
        let fails : is_of watched p next ≡ false =
        ⊎_elim
        (λ (is : is_of watched p next ≡ true). absurd (other ((bytes_eq-Decides _ _).0 is)))
        (λ (isnt : is_of watched p next ≡ false). isnt)
        (cases_Bool (is_of watched p next)) in
        rows taken (next ∷ []) p ∙ ap (λ b. row watched taken p ++ cond b (next ∷ []) []) fails
        ∙ append-nil (row watched taken p)

    own_row : (p : ℕ) → next.logged.event.host ≡ (watch_at watched p).host
        → row watched (taken ++ next ∷ []) p ≡ row watched taken p ++ next ∷ []
    own_row p same =
        let passes : is_of watched p next ≡ true = (bytes_eq-Decides _ _).1 same in
        rows taken (next ∷ []) p ∙ ap (λ b. row watched taken p ++ cond b (next ∷ []) []) passes

    -- The numbers go on to rise.
    pub OwnRise-push : OwnRise watched taken → LastKnowsAll taken → MayFollow taken next.logged.event
        → OwnRise watched (taken ++ next ∷ [])
    OwnRise-push rise last follow p i j p_host less within =
        ⊎_elim
        (λ (same : next.logged.event.host ≡ (watch_at watched p).host). by_own same)
        (λ (other : next.logged.event.host ≡ (watch_at watched p).host → ⊥).
        let is = other_row p other in
        let risen : (events : List Taken) → events ≡ row watched taken p → j < length events
        → own (nth events i).logged.event < own (nth events j).logged.event =
        λ events same inside. rw same (rise p i j p_host less (rw same at inside)) in
        risen (row watched (taken ++ next ∷ []) p) is within)
        (same_or_not next.logged.event.host (watch_at watched p).host)
      where
        same_or_not : (a b : List ℕ) → (a ≡ b) ⊎ (a ≡ b → ⊥)
        same_or_not a b =
            ⊎_elim
            (λ (is : bytes_eq a b ≡ true). inl ((bytes_eq-Decides a b).0 is))
            (λ (isnt : bytes_eq a b ≡ false). inr (λ same. false_true (sym isnt ∙ (bytes_eq-Decides a b).1 same)))
            (cases_Bool (bytes_eq a b))
          where
            false_true : false ≡ true → ⊥
            false_true is = cc

        by_own : next.logged.event.host ≡ (watch_at watched p).host
            → own (event_at watched (taken ++ next ∷ []) p i).logged.event
            < own (event_at watched (taken ++ next ∷ []) p j).logged.event
        by_own same =
            risen (row watched (taken ++ next ∷ []) p) (own_row p same) within
          where
            before : (k : ℕ) → k < length (row watched taken p)
                → own (nth (row watched taken p) k).logged.event < own next.logged.event
            before k inside = ((comes_next taken next follow).before last (event_at watched taken p k)
                (in_log watched taken p k inside) (host_of watched taken p k inside ∙ sym same)).own_rises

            old : (k : ℕ) → k < length (row watched taken p)
                → nth (row watched taken p ++ next ∷ []) k ≡ nth (row watched taken p) k
            old k inside = get_or_append_left (row watched taken p) (next ∷ []) no_event k inside

            new : nth (row watched taken p ++ next ∷ []) (length (row watched taken p)) ≡ next
            new =
                let at : length (row watched taken p) ≡ length (row watched taken p) + 0 = omega arith in
                ap (λ k. nth (row watched taken p ++ next ∷ []) k) at
                ∙ get_or-append-add (row watched taken p) (next ∷ []) 0 no_event

            on_whole : j < length (row watched taken p ++ next ∷ [])
                → own (nth (row watched taken p ++ next ∷ []) i).logged.event
                < own (nth (row watched taken p ++ next ∷ []) j).logged.event
            on_whole inside =
                ⊎_elim
                (λ (early : j < length (row watched taken p)).
                rw (old i (omega (arith, less, early)), old j early) (rise p i j p_host less early))
                (λ (late : length (row watched taken p) ≤ j).
                let is : j ≡ length (row watched taken p) =
                omega (arith, late, inside, length-append (row watched taken p) (next ∷ [])) in
                let last_is : nth (row watched taken p ++ next ∷ []) j ≡ next =
                ap (λ k. nth (row watched taken p ++ next ∷ []) k) is ∙ new in
                rw (old i (omega (arith, less, is)), last_is) (before i (omega (arith, less, is))))
                (cases_lt j (length (row watched taken p)))

            risen : (events : List Taken) → events ≡ row watched taken p ++ next ∷ [] → j < length events
                → own (nth events i).logged.event < own (nth events j).logged.event
            risen events is inside = rw is (on_whole (rw is at inside))

    -- What waits, with an event of no watched host.
    pub waits_other : (waiting : ℕ → List LogRun) → AreWaiting watched taken waiting
        → ((p : ℕ) → p < length watched → next.logged.event.host ≡ (watch_at watched p).host → ⊥)
        → AreWaiting watched (taken ++ next ∷ []) waiting
    waits_other waiting waits none = record {
      low = waits.low;
      within = λ p host. rw (other_row p (none p host)) (waits.within p host);
      all = λ p host. rw (other_row p (none p host)) (waits.all p host);
      left = λ more rise runs overlap p host.
          subst (λ all. OwnRise watched all → (overlap : AreOverlappingIn watched all runs)
          → waits.low p ≤ (overlap.are p host).from) (sym (append_assoc taken (next ∷ []) more))
          (λ rise overlap. waits.left (next ∷ more) rise runs overlap p host) rise overlap;
    }

  -- The same runs wait.
  pub waits_same : (taken : List Taken) (waiting others : ℕ → List LogRun) → AreWaiting watched taken waiting
      → ((p : ℕ) → p < length watched → others p ≡ waiting p) → AreWaiting watched taken others
  waits_same taken waiting others waits same = record {
    low = waits.low;
    within = waits.within;
    all = λ p host. rw (same p host) (waits.all p host);
    left = waits.left;
  }
