-- What waits while a log is read.
use Rattle.std.proofs.Common.{◌≡◌, ◌==◌, ◌∙◌, sym, ap, subst, ℕ, ◌-◌, ◌<◌, ◌≤◌, inl, inr, List, [], ◌∷◌, ◌++◌}
use Rattle.std.proofs.Common.{length, true, false, cond, Some, None, refl, arith, ⊎_elim, append-nil}
use Rattle.std.proofs.Common.{append_assoc, length-append, ltb}
use Rattle.std.specs.Prelude.{if◌then◌else◌, IfSome}
use Rattle.std.proofs.Math.Bridge.{le_prop}
use Rattle.std.proofs.lemmas.Bool.{cases_Bool, cases_eq, cases_lt, eq-eqb, eqb-true, false≢true}
use Rattle.std.proofs.lemmas.List.{get_or_append_left}
use Rattle.std.proofs.lemmas.List.Elements.{filter-append}
use Rattle.std.proofs.lemmas.Slice.Eq.{bytes_eq-Decides}
use Rattle.trace_log.specs.Clock.{number_of}
use Rattle.trace_log.specs.Log.{Logged}
use Rattle.trace_moment.specs.Moment.{HappenedBefore, HaveDistinctHosts, HostWatch, Taken, own, watch_at}
use Rattle.trace_definitely.specs.Logs.{AreOverlappingIn, IsLogRun, LogRun, OwnRise, is_of, no_event, row}
use Rattle.trace_definitely.specs.Waiting.{AreAllFrom, AreWaiting, IsRunIn, nth, with_event, with_host}
use Rattle.trace_definitely.proofs.Moments.{host_of, rises_to}
use Rattle.trace_definitely.proofs.RowRuns.{grown, is_over, none_before, same_end, stays}

in_row : (watched : List HostWatch) (taken : List Taken) (p : ℕ) (run : LogRun) (is : IsLogRun watched taken p run)
    → IsRunIn (row watched taken p) is.from is.until run
in_row watched taken p run is = record {
  some = is.is.some;
  within = is.is.within;
  holds = is.is.holds;
  begins = is.is.begins;
  ends = is.is.ends;
  begin = is.begins;
  over = is.ends;
}

of_row : (watched : List HostWatch) (taken : List Taken) (p from until : ℕ) (run : LogRun)
    → IsRunIn (row watched taken p) from until run → IsLogRun watched taken p run
of_row watched taken p from until run is = record {
  from = from;
  until = until;
  is = record { some = is.some; within = is.within; holds = is.holds; begins = is.begins; ends = is.ends };
  begins = is.begin;
  ends = is.over;
}

own_host : (waiting : ℕ → List LogRun) (at : ℕ) (runs : List LogRun) (p : ℕ) → p ≡ at
    → with_host waiting at runs p ≡ runs
own_host waiting at runs p same = rw (eq-eqb p at same) refl

other_host : (waiting : ℕ → List LogRun) (at : ℕ) (runs : List LogRun) (p : ℕ) → (p ≡ at → ⊥)
    → with_host waiting at runs p ≡ waiting p
other_host waiting at runs p other =
    ⊎_elim
    (λ (is : (p == at) ≡ true). absurd (other (eqb-true p at is)))
    (λ (isnt : (p == at) ≡ false). rw isnt refl)
    (cases_Bool (p == at))

module _ (watched : List HostWatch) where
  rows : (taken more : List Taken) (p : ℕ) → row watched (taken ++ more) p ≡ row watched taken p ++ row watched more p
  rows taken more p = filter-append (is_of watched p) taken more

  pub begins : AreWaiting watched [] (λ p. [])
  begins = record {
    low = λ p. 0;
    within = λ p host. inl refl;
    all = λ p host k behind before. absurd (omega (arith, before));
    left = λ more rise runs overlap p host. omega arith;
  }

  module _ (taken : List Taken) (waiting : ℕ → List LogRun) (waits : AreWaiting watched taken waiting) where
    module _ (next : Taken) (at : ℕ) (distinct : HaveDistinctHosts watched) (at_host : at < length watched)
        (host_is : next.logged.event.host ≡ (watch_at watched at).host) where
      own_row : (p : ℕ) → p ≡ at → row watched (taken ++ next ∷ []) p ≡ row watched taken p ++ next ∷ []
      own_row p same =
          let here : next.logged.event.host ≡ (watch_at watched p).host =
          host_is ∙ ap (λ q. (watch_at watched q).host) (sym same) in
          let passes : is_of watched p next ≡ true = (bytes_eq-Decides _ _).1 here in
          rows taken (next ∷ []) p ∙ ap (λ b. row watched taken p ++ cond b (next ∷ []) []) passes

      other_row : (p : ℕ) → p < length watched → (p ≡ at → ⊥) → row watched (taken ++ next ∷ []) p ≡ row watched taken p
      other_row p host other =
          let fails : is_of watched p next ≡ false =
          ⊎_elim
          (λ (is : is_of watched p next ≡ true).
          absurd (other (distinct p at host at_host (sym ((bytes_eq-Decides _ _).0 is) ∙ host_is))))
          (λ (isnt : is_of watched p next ≡ false). isnt)
          (cases_Bool (is_of watched p next)) in
          rows taken (next ∷ []) p ∙ ap (λ b. row watched taken p ++ cond b (next ∷ []) []) fails
          ∙ append-nil (row watched taken p)

      pub grows : AreWaiting watched (taken ++ next ∷ []) (with_host waiting at (with_event (waiting at) next))
      grows = record {
        low = waits.low;
        within = λ p host. ⊎_elim
            (λ (none : waits.low p ≡ 0). inl none)
            (λ (inside : waits.low p < length (row watched taken p)). inr (longer p host inside))
            (waits.within p host);
        all = λ p host. ⊎_elim
            (λ (same : p ≡ at).
            let with_next = grown (row watched taken p) next (waits.low p) (waits.within p host) (waiting p)
            (waits.all p host) in
            let runs : with_host waiting at (with_event (waiting at) next) p ≡ with_event (waiting p) next =
            own_host waiting at (with_event (waiting at) next) p same
            ∙ ap (λ q. with_event (waiting q) next) (sym same) in
            rw (own_row p same, runs) with_next)
            (λ (other : p ≡ at → ⊥).
            let runs = other_host waiting at (with_event (waiting at) next) p other in
            rw (other_row p host other, runs) (waits.all p host))
            (cases_eq p at);
        left = λ more rise runs overlap p host.
            let whole = append_assoc taken (next ∷ []) more in
            subst (λ all. OwnRise watched all → (overlap : AreOverlappingIn watched all runs)
            → waits.low p ≤ (overlap.are p host).from) (sym whole)
            (λ rise overlap. waits.left (next ∷ more) rise runs overlap p host) rise overlap;
      }
        where
          more_in : (k : ℕ) (xs : List Taken) → k < length xs → k < length (xs ++ next ∷ [])
          more_in k xs inside = omega (arith, inside, length-append xs (next ∷ []))

          longer : (p : ℕ) → p < length watched → waits.low p < length (row watched taken p)
              → waits.low p < length (row watched (taken ++ next ∷ []) p)
          longer p host inside =
              ⊎_elim
              (λ (same : p ≡ at). rw (own_row p same) (more_in (waits.low p) (row watched taken p) inside))
              (λ (other : p ≡ at → ⊥). rw (other_row p host other) inside)
              (cases_eq p at)

    -- The first run of p is over where it doesn't know that the first one of q has begun.
    module _ (p q : ℕ) (p_host : p < length watched) (q_host : q < length watched) (isnt : p ≡ q → ⊥)
        (run other : LogRun) (runs others : List LogRun) (over : Logged) (first_p : waiting p ≡ run ∷ runs)
        (first_q : waiting q ≡ other ∷ others) (ends : run.over ≡ Some over)
        (unknown : HappenedBefore other.begin.event over.event → ⊥) where
      all_p : AreAllFrom (row watched taken p) (waits.low p) (run ∷ runs)
      all_p = subst (λ them. AreAllFrom (row watched taken p) (waits.low p) them) first_p (waits.all p p_host)

      all_q : AreAllFrom (row watched taken q) (waits.low q) (other ∷ others)
      all_q = subst (λ them. AreAllFrom (row watched taken q) (waits.low q) them) first_q (waits.all q q_host)

      end_inside : all_p.1 < length (row watched taken p)
      end_inside = (is_over (row watched taken p) all_p.0 all_p.1 run over all_p.3 ends).0

      -- It is among no runs that overlap.
      module _ (more : List Taken) (rise : OwnRise watched (taken ++ more)) (found : ℕ → LogRun)
          (overlap : AreOverlappingIn watched (taken ++ more) found) where
        abbrev whole : ℕ → List Taken
        whole x = row watched taken x ++ row watched more x

        is_found : (x : ℕ) (host : x < length watched)
            → IsRunIn (row watched taken x ++ row watched more x) (overlap.are x host).from (overlap.are x host).until
            (found x)
        is_found x host =
            subst (λ events. IsRunIn events (overlap.are x host).from (overlap.are x host).until (found x))
            (rows taken more x) (in_row watched (taken ++ more) x (found x) (overlap.are x host))

        -- Those found begin no earlier than the first that waits.
        no_earlier : (x : ℕ) (host : x < length watched) (one : LogRun) (rest : List LogRun)
            → (all : AreAllFrom (row watched taken x) (waits.low x) (one ∷ rest)) → all.0 ≤ (overlap.are x host).from
        no_earlier x host one rest all =
            let mine = is_found x host in
            let at = (overlap.are x host).from in
            ⊎_elim
            (λ (early : at < all.0).
            let fails = none_before (row watched taken x) (row watched more x) (waits.low x) all.0
            (omega (arith, all.3.some, all.3.within)) all.4 at (waits.left more rise found overlap x host) early in
            absurd (false≢true (sym fails ∙ mine.holds at (omega arith) mine.some)))
            (λ (late : all.0 ≤ at). late)
            (cases_lt at all.0)

        found_at : (x : ℕ) (host : x < length watched)
            → (found x).begin ≡ (nth (row watched (taken ++ more) x) (overlap.are x host).from).logged
        found_at x host = (overlap.are x host).begins

        -- The one of q begins no earlier than the other run does.
        q_later : own other.begin.event ≤ own (found q).begin.event
        q_later =
            let from_q = (overlap.are q q_host).from in
            let order = rises_to watched (taken ++ more) rise all_q.0 from_q q q_host
            (no_earlier q q_host other others all_q)
            (omega (arith, (overlap.are q q_host).is.some, (overlap.are q q_host).is.within)) in
            rw (other_at, found_at q q_host) order
          where
            other_at : other.begin ≡ (nth (row watched (taken ++ more) q) all_q.0).logged
            other_at =
                let inside : all_q.0 < length (row watched taken q) = omega (arith, all_q.3.some, all_q.3.within) in
                all_q.3.begin ∙ ap (λ (it : Taken). it.logged) (sym (at_front inside))
              where
                at_front : all_q.0 < length (row watched taken q)
                    → nth (row watched (taken ++ more) q) all_q.0 ≡ nth (row watched taken q) all_q.0
                at_front inside =
                    ap (λ events. nth events all_q.0) (rows taken more q)
                    ∙ get_or_append_left (row watched taken q) (row watched more q) no_event all_q.0 inside

        same_host : (found q).begin.event.host ≡ other.begin.event.host
        same_host =
            let are = overlap.are q q_host in
            let inside : are.from < length (row watched (taken ++ more) q) =
            omega (arith, are.is.some, are.is.within) in
            let its : all_q.0 < length (row watched taken q) = omega (arith, all_q.3.some, all_q.3.within) in
            ap (λ (it : Logged). it.event.host) (found_at q q_host) ∙ host_of watched (taken ++ more) q are.from inside
            ∙ sym (ap (λ (it : Logged). it.event.host) all_q.3.begin ∙ host_of watched taken q all_q.0 its)

        not_it : (overlap.are p p_host).from < all_p.1 → ⊥
        not_it early =
            let at = (overlap.are p p_host).from in
            let mine = is_found p p_host in
            let here = stays (row watched taken p) (row watched more p) all_p.0 all_p.1 run all_p.3 end_inside in
            let above = no_earlier p p_host run runs all_p in
            let same : at ≡ all_p.0 =
            ⊎_elim
            (λ (behind : all_p.0 < at).
            absurd (false≢true (sym (mine.begins (at - 1) (omega (arith, behind)))
            ∙ here.holds (at - 1) (omega (arith, behind)) (omega (arith, early, behind)))))
            (λ (past : at ≤ all_p.0). omega (arith, past, above))
            (cases_lt all_p.0 at) in
            let one = subst (λ from. IsRunIn (whole p) from (overlap.are p p_host).until (found p)) same mine in
            let later = same_end (whole p) all_p.0 all_p.1 (overlap.are p p_host).until run (found p) here one in
            let sooner = same_end (whole p) all_p.0 (overlap.are p p_host).until all_p.1 (found p) run one here in
            let same_until : (overlap.are p p_host).until ≡ all_p.1 = omega (arith, later, sooner) in
            let over_is : (found p).over ≡ Some over =
            one.over ∙ ap (λ until. if ltb until (length (whole p)) then Some (nth (whole p) until).logged else None)
            same_until ∙ sym here.over ∙ ends in
            let met = subst (λ end. IfSome end (λ it. HappenedBefore (found q).begin.event it.event)) over_is
            (overlap.meet q p q_host p_host (λ is. isnt (sym is))) in
            let reach = subst (λ host. own (found q).begin.event ≤ number_of host over.event.clock) same_host met in
            unknown (omega (arith, q_later, reach))

        past_it : all_p.1 ≤ (overlap.are p p_host).from
        past_it =
            ⊎_elim
            (λ (early : (overlap.are p p_host).from < all_p.1). absurd (not_it early))
            (λ (late : all_p.1 ≤ (overlap.are p p_host).from). late)
            (cases_lt (overlap.are p p_host).from all_p.1)

      low_by : ℕ → ℕ
      low_by x = if x == p then all_p.1 else waits.low x

      low_own : (x : ℕ) → x ≡ p → low_by x ≡ all_p.1
      unfolding low_by
      low_own x same = rw (eq-eqb x p same) refl

      low_other : (x : ℕ) → (x ≡ p → ⊥) → low_by x ≡ waits.low x
      unfolding low_by
      low_other x differs =
          ⊎_elim
          (λ (is : (x == p) ≡ true). absurd (differs (eqb-true x p is)))
          (λ (isnt_it : (x == p) ≡ false). rw isnt_it refl)
          (cases_Bool (x == p))

      pub drops : AreWaiting watched taken (with_host waiting p runs)
      drops = record {
        low = low_by;
        within = λ x host. ⊎_elim
            (λ (same : x ≡ p). inr (rw (low_own x same, same) end_inside))
            (λ (differs : x ≡ p → ⊥). rw (low_other x differs) (waits.within x host))
            (cases_eq x p);
        all = λ x host. ⊎_elim
            (λ (same : x ≡ p). rw (low_own x same, own_host waiting p runs x same, same) all_p.5)
            (λ (differs : x ≡ p → ⊥).
            rw (low_other x differs, other_host waiting p runs x differs) (waits.all x host))
            (cases_eq x p);
        left = λ more rise found overlap x host. ⊎_elim
            (λ (same : x ≡ p). rw (low_own x same) (by_same more rise found overlap x host same))
            (λ (differs : x ≡ p → ⊥). rw (low_other x differs) (waits.left more rise found overlap x host))
            (cases_eq x p);
      }
        where
          by_same : (more : List Taken) (rise : OwnRise watched (taken ++ more)) (found : ℕ → LogRun)
              (overlap : AreOverlappingIn watched (taken ++ more) found) (x : ℕ) (host : x < length watched) → x ≡ p
              → all_p.1 ≤ (overlap.are x host).from
          by_same more rise found overlap x host same =
              subst (λ y. (y_host : y < length watched) → all_p.1 ≤ (overlap.are y y_host).from) (sym same)
              (λ y_host. subst (λ (it : p < length watched). all_p.1 ≤ (overlap.are p it).from)
              (hosts_agree p_host y_host) (past_it more rise found overlap))
              host
            where
              hosts_agree : (a b : p < length watched) → a ≡ b
              hosts_agree a b = le_prop a b

    -- Where no host's first run is dropped any more.
    pub ends_found : (first : ℕ → LogRun) (others : ℕ → List LogRun)
        → ((p : ℕ) → p < length watched → waiting p ≡ first p ∷ others p)
        → ((p q : ℕ) → p < length watched → q < length watched → (p ≡ q → ⊥) →
        IfSome (first q).over (λ over. HappenedBefore (first p).begin.event over.event))
        → AreOverlappingIn watched taken first
    ends_found first others firsts meet = record {
      are = λ p host.
          let all = subst (λ them. AreAllFrom (row watched taken p) (waits.low p) them) (firsts p host)
          (waits.all p host) in
          of_row watched taken p all.0 all.1 (first p) all.3;
      meet = meet;
    }

    pub ends_none : OwnRise watched taken → (p : ℕ) → p < length watched → waiting p ≡ [] → (runs : ℕ → LogRun)
        → AreOverlappingIn watched taken runs → ⊥
    ends_none rise p host none runs overlap =
        let all = subst (λ them. AreAllFrom (row watched taken p) (waits.low p) them) none (waits.all p host) in
        let low = subst (λ log. OwnRise watched log → (overlap : AreOverlappingIn watched log runs)
        → waits.low p ≤ (overlap.are p host).from) (append-nil taken)
        (λ rise_all overlap_all. waits.left [] rise_all runs overlap_all p host) rise overlap in
        let run = in_row watched taken p (runs p) (overlap.are p host) in
        let at = (overlap.are p host).from in
        false≢true
        (sym (all at low (omega (arith, run.some, run.within))) ∙ run.holds at (omega arith) run.some)
