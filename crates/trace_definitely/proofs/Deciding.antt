-- Either there are runs that overlap, or an order along which the conditions never hold at once.
--
-- The first runs that aren't over are dropped one after another: one that is over where it doesn't know that another
-- one has begun. The order goes on to its end, and to no end of another first run; so before that all conditions could
-- hold only within the first runs.
use Rattle.std.proofs.Common.{◌≡◌, ◌↔◌, ◌∙◌, sym, ap, ℕ, zero, suc, ◌+◌, ◌-◌, ◌<◌, ◌≤◌, ◌⊎◌, inl, inr, [], max}
use Rattle.std.proofs.Common.{false, refl, arith, ⊎_elim}
use Rattle.std.proofs.lemmas.Bool.{cases_eq, cases_lt, false≢true}
use Rattle.trace_definitely.specs.Events.{AllHold, AreOrdered, Cut, Events, IsEvent, none_yet}
use Rattle.trace_definitely.specs.Definitely.{AreOverlapping, Definitely, HasLeast}
use Rattle.trace_definitely.proofs.Sums.{total, total-rise}
use Rattle.trace_definitely.proofs.Cuts.{IsClosed, find, rank, rank_falls, rank_within}
use Rattle.trace_definitely.proofs.Runs.{IsCurrent, IsPast, current_run}
use Rattle.trace_definitely.proofs.Orders.{IsBelow}
use Rattle.trace_definitely.proofs.Overlapping.{along}
use Rattle.trace_definitely.proofs.Avoiding.{Avoids, extended}
use Rattle.trace_definitely.proofs.Choosing.{choose}

module _ (events : Events) (is : AreOrdered events) where
  -- Each event that has happened happened before an event from which its host's condition fails, or is it.
  abbrev IsLed : Cut → Type 0
  IsLed cut = (p k : ℕ) → p < events.hosts → k < cut p →
      (q : ℕ) × (j : ℕ) × (q < events.hosts) × (j < cut q) × (k < events.knows q j p) × (events.holds q j ≡ false)

  -- The first runs that aren't over at a cut.
  record Firsts (cut : Cut) : Type 0 where
    from : ℕ → ℕ
    until : ℕ → ℕ
    are : (p : ℕ) → p < events.hosts → IsCurrent events p (cut p) (from p) (until p)

  -- The run of a host is over where it doesn't know that that of another one has begun.
  record IsDropped (cut : Cut) (firsts : Firsts cut) (p q : ℕ) : Type 0 where
    host : p < events.hosts
    other_host : q < events.hosts
    other : q ≡ p → ⊥
    over : firsts.until p < events.count p
    unknown : events.knows p (firsts.until p) q ≤ firsts.from q

  -- The events up to the end of that run.
  up_to : (cut : Cut) → Firsts cut → ℕ → Cut
  up_to cut firsts p q = max (cut q) (events.knows p (firsts.until p) q)

  module _ (cut : Cut) (closed : IsClosed events cut) (firsts : Firsts cut) where
    from : ℕ → ℕ
    from = firsts.from

    until : ℕ → ℕ
    until = firsts.until

    -- No other first run is over before the end of this one.
    abbrev IsFirstOver : ℕ → Type 0
    IsFirstOver p = (x : ℕ) → x < events.hosts → (x ≡ p → ⊥) → firsts.until x < events.count x →
        events.knows p (firsts.until p) x ≤ firsts.until x

    -- Of those that are dropped there is one before whose end no other first run is over.
    first_dropped : (fuel p q : ℕ) → IsDropped cut firsts p q → rank events is p (firsts.until p) < fuel
        → (x : ℕ) × IsDropped cut firsts x q × IsFirstOver x
    first_dropped zero p q dropped few = absurd (omega (arith, few))
    first_dropped (suc fuel) p q dropped few =
        ⊎_elim
        (λ (found : (x : ℕ) × (x < events.hosts) × IsOverBefore x).
        let x = found.0 in
        let over = found.2 in
        first_dropped fuel x q
        (record {
          host = found.1;
          other_host = dropped.other_host;
          other = λ same. isnt_other x over same;
          over = over.1;
          unknown = omega (
            arith,
            dropped.unknown,
            is.passes_on p (firsts.until p) x (firsts.until x) q ended found.1 dropped.other_host over.2,
          );
        })
        (omega (
          arith,
          few,
          rank_falls events is p (firsts.until p) x (firsts.until x) ended found.1 (λ same. over.0 (sym same)) over.2,
        )))
        (λ (none : (x : ℕ) → x < events.hosts → IsOverBefore x → ⊥). (
          p,
          dropped,
          λ x within isnt over. ⊎_elim
              (λ (known : firsts.until x < events.knows p (firsts.until p) x).
              absurd (none x within (isnt, over, known)))
              (λ (past : events.knows p (firsts.until p) x ≤ firsts.until x). past)
              (cases_lt (firsts.until x) (events.knows p (firsts.until p) x)),
        ))
        (find events.hosts IsOverBefore decide)
      where
        ended : IsEvent events p (firsts.until p)
        ended = (dropped.host, dropped.over)

        IsOverBefore : ℕ → Type 0
        IsOverBefore x = (x ≡ p → ⊥) × (firsts.until x < events.count x)
            × (firsts.until x < events.knows p (firsts.until p) x)

        -- It isn't the one that is unknown: that begins before its own end.
        isnt_other : (x : ℕ) → IsOverBefore x → q ≡ x → ⊥
        isnt_other x over same =
            let some = (firsts.are q dropped.other_host).run.some in
            let known : firsts.until q < events.knows p (firsts.until p) q = rw same over.2 in
            omega (arith, some, known, dropped.unknown)

        decide : (x : ℕ) → IsOverBefore x ⊎ (IsOverBefore x → ⊥)
        decide x =
            ⊎_elim
            (λ (same : x ≡ p). inr (λ (over : IsOverBefore x). over.0 same))
            (λ (isnt : x ≡ p → ⊥).
            ⊎_elim
            (λ (ends : firsts.until x < events.count x).
            ⊎_elim
            (λ (known : firsts.until x < events.knows p (firsts.until p) x). inl (isnt, ends, known))
            (λ (past : events.knows p (firsts.until p) x ≤ firsts.until x).
            inr (λ (over : IsOverBefore x). omega (arith, past, over.2)))
            (cases_lt (firsts.until x) (events.knows p (firsts.until p) x)))
            (λ (goes_on : events.count x ≤ firsts.until x).
            inr (λ (over : IsOverBefore x). omega (arith, goes_on, over.1)))
            (cases_lt (firsts.until x) (events.count x)))
            (cases_eq x p)

    module _ (led : IsLed cut) (p q : ℕ) (dropped : IsDropped cut firsts p q) (first : IsFirstOver p) where
      ended : IsEvent events p (firsts.until p)
      ended = (dropped.host, dropped.over)

      target : Cut
      target = up_to cut firsts p

      abbrev known_at_end : ℕ → ℕ
      known_at_end x = events.knows p (firsts.until p) x

      target_is : (x : ℕ) → target x ≡ max (cut x) (known_at_end x)
      unfolding target up_to
      target_is x = refl

      above_cut : IsBelow events is cut target
      above_cut x within = omega (arith, target_is x)

      over_is_in : firsts.until p < target p
      over_is_in = omega (arith, target_is p, is.itself p (firsts.until p) ended)

      target_closed : IsClosed events target
      target_closed = record {
        within = λ x within. omega (
          arith,
          target_is x,
          closed.within x within,
          is.within p (firsts.until p) x ended within,
        );
        known = λ x k y x_host y_host before. ⊎_elim
            (λ (past : k < cut x). omega (arith, target_is y, closed.known x k y x_host y_host past))
            (λ (new : cut x ≤ k).
            let reached : k < known_at_end x = omega (arith, before, new, target_is x) in
            omega (arith, target_is y, is.passes_on p (firsts.until p) x k y ended x_host y_host reached))
            (cases_lt k (cut x));
      }

      -- All that has happened then is led by an end, too.
      target_led : IsLed target
      target_led x k x_host before =
          ⊎_elim
          (λ (past : k < cut x).
          let was = led x k x_host past in
          (was.0, was.1, was.2, omega (arith, was.3, above_cut was.0 was.2), was.4, was.5))
          (λ (new : cut x ≤ k).
          let reached : k < known_at_end x = omega (arith, before, new, target_is x) in
          (p, firsts.until p, dropped.host, over_is_in, reached, (firsts.are p dropped.host).run.ends dropped.over))
          (cases_lt k (cut x))

      -- At a cut on the way at which all conditions hold, each host is in its first run.
      module _ (at : Cut) (above : IsBelow events is cut at) (below : IsBelow events is at target)
          (all : AllHold events at) where
        not_over : (x : ℕ) → x < events.hosts → at x ≤ firsts.until x
        not_over x within =
            ⊎_elim
            (λ (ends : firsts.until x < events.count x).
            ⊎_elim
            (λ (same : x ≡ p). last x within same ends)
            (λ (isnt : x ≡ p → ⊥).
            omega (arith, below x within, target_is x, (firsts.are x within).goes_on, first x within isnt ends))
            (cases_eq x p))
            (λ (goes_on : events.count x ≤ firsts.until x).
            omega (arith, goes_on, below x within, target_closed.within x within))
            (cases_lt (firsts.until x) (events.count x))
          where
            last : (x : ℕ) → x < events.hosts → x ≡ p → firsts.until x < events.count x → at x ≤ firsts.until x
            last x within same ends =
                let top : at x ≤ firsts.until x + 1 =
                rw same
                (omega (
                  arith,
                  below p dropped.host,
                  target_is p,
                  is.itself p (firsts.until p) (dropped.host, dropped.over),
                  (firsts.are p dropped.host).goes_on,
                )) in
                ⊎_elim
                (λ (over : at x ≡ firsts.until x + 1).
                let here : at x - 1 ≡ firsts.until x = omega (arith, over) in
                let fails = (firsts.are x within).run.ends ends in
                absurd (false≢true (sym fails ∙ ap (events.holds x) (sym here) ∙ (all x within).1)))
                (λ (isnt : at x ≡ firsts.until x + 1 → ⊥). omega (arith, top, isnt))
                (cases_eq (at x) (firsts.until x + 1))

        begun : (x : ℕ) → x < events.hosts → firsts.from x < at x
        begun x within =
            let on = all x within in
            let from_at = (firsts.are x within).first (at x - 1) (omega (arith, on.0, not_over x within))
            (omega (arith, on.0, above x within)) on.1 in
            omega (arith, on.0, from_at)

        -- The run of a host has begun before the cut, and not before the end of the one that is dropped.
        record IsEarly (x : ℕ) : Type 0 where
          host : x < events.hosts
          early : firsts.from x < cut x
          unknown : known_at_end x ≤ firsts.from x

        is_early : (x : ℕ) → x < events.hosts → known_at_end x ≤ firsts.from x → IsEarly x
        is_early x within unknown = record {
          host = within;
          early = omega (arith, begun x within, below x within, target_is x, unknown);
          unknown = unknown;
        }

        -- Then so has one that began later.
        later_early : (x : ℕ) → IsEarly x
            → (y : ℕ) × IsEarly y × (rank events is x (firsts.from x) < rank events is y (firsts.from y))
        later_early x early =
            let leads = led x (firsts.from x) early.host early.early in
            let y = leads.0 in
            let h = leads.1 in
            let run = firsts.are y leads.2 in
            let begins : IsEvent events y (firsts.from y) = (leads.2, omega (arith, run.run.some, run.run.within)) in
            let behind : h < firsts.from y =
            ⊎_elim
            (λ (before : h < firsts.from y). before)
            (λ (past : firsts.from y ≤ h).
            absurd (false≢true (sym leads.5 ∙ run.run.holds h past (omega (arith, leads.3, run.goes_on)))))
            (cases_lt h (firsts.from y)) in
            let knows_end : h < events.knows y (firsts.from y) y = omega (
              arith,
              behind,
              is.itself y (firsts.from y) begins,
            ) in
            let known : firsts.from x < events.knows y (firsts.from y) x = omega (
              arith,
              leads.4,
              is.passes_on y (firsts.from y) y h x begins leads.2 early.host knows_end,
            ) in
            let unknown : known_at_end y ≤ firsts.from y =
            ⊎_elim
            (λ (reached : firsts.from y < known_at_end y).
            let knows_it = is.passes_on p (firsts.until p) y (firsts.from y) x ended leads.2 early.host reached in
            absurd (omega (arith, known, early.unknown, knows_it)))
            (λ (past : known_at_end y ≤ firsts.from y). past)
            (cases_lt (firsts.from y) (known_at_end y)) in
            let isnt : y ≡ x → ⊥ = λ same.
            let own : firsts.from y < events.knows y h y = rw same (rw same at leads.4) in
            omega (arith, own, is.itself y h (leads.2, omega (arith, behind, begins.1)), behind) in
            let rises = rank_falls events is y (firsts.from y) x (firsts.from x) begins early.host isnt known in
            (y, is_early y leads.2 unknown, rises)

        most : ℕ
        most = total events.hosts events.count

        rank_most : (x : ℕ) → IsEarly x → rank events is x (firsts.from x) ≤ most
        unfolding most
        rank_most x early =
            let run = (firsts.are x early.host).run in
            rank_within events is x (firsts.from x) (early.host, omega (arith, run.some, run.within))

        climbs : (fuel x : ℕ) → IsEarly x → most < rank events is x (firsts.from x) + fuel → ⊥
        climbs zero x early few = omega (arith, few, rank_most x early)
        climbs (suc fuel) x early few =
            let later = later_early x early in
            climbs fuel later.0 later.1 (omega (arith, few, later.2))

        none_holds : ⊥
        none_holds = climbs (suc most) q (is_early q dropped.other_host dropped.unknown) (omega arith)

  -- Whether the run of a host is dropped for another one.
  is_dropped : (cut : Cut) (firsts : Firsts cut) (p q : ℕ) → p < events.hosts → q < events.hosts
      → IsDropped cut firsts p q ⊎ (IsDropped cut firsts p q → ⊥)
  is_dropped cut firsts p q p_host q_host =
      ⊎_elim
      (λ (same : q ≡ p). inr (λ (dropped : IsDropped cut firsts p q). dropped.other same))
      (λ (isnt : q ≡ p → ⊥).
      ⊎_elim
      (λ (ends : firsts.until p < events.count p).
      ⊎_elim
      (λ (known : firsts.from q < events.knows p (firsts.until p) q).
      inr (λ (dropped : IsDropped cut firsts p q). omega (arith, known, dropped.unknown)))
      (λ (unknown : events.knows p (firsts.until p) q ≤ firsts.from q).
      inl (record { host = p_host; other_host = q_host; other = isnt; over = ends; unknown = unknown }))
      (cases_lt (firsts.from q) (events.knows p (firsts.until p) q)))
      (λ (goes_on : events.count p ≤ firsts.until p).
      inr (λ (dropped : IsDropped cut firsts p q). omega (arith, goes_on, dropped.over)))
      (cases_lt (firsts.until p) (events.count p)))
      (cases_eq q p)

  -- The first runs, where each host has one.
  firsts_of : (cut : Cut)
      → ((p : ℕ) → p < events.hosts → (from : ℕ) × (until : ℕ) × IsCurrent events p (cut p) from until) → Firsts cut
  firsts_of cut run =
      let all = choose {X = ℕ × ℕ} events.hosts (0, 0) (λ p ends. IsCurrent events p (cut p) ends.0 ends.1)
      (λ p within. let one = run p within in ((one.0, one.1), one.2)) in
      record { from = λ p. (all.0 p).0; until = λ p. (all.0 p).1; are = all.1 }

  -- A condition that holds no more never does with the others.
  past_never : (cut : Cut) (p : ℕ) → p < events.hosts → IsPast events p (cut p) → (other : Cut)
      → IsBelow events is cut other → IsBelow events is other events.count → AllHold events other → ⊥
  past_never cut p within past other above below all =
      let on = all p within in
      false≢true
      (sym (past (other p - 1) (omega (arith, on.0, below p within)) (omega (arith, on.0, above p within))) ∙ on.1)

  whole_closed : IsClosed events events.count
  whole_closed = record {
    within = λ p within. omega arith;
    known = λ p k q p_host q_host before. is.within p k q (p_host, before) q_host;
  }

  avoids_past : (cut : Cut) → IsClosed events cut → (p : ℕ) → p < events.hosts → IsPast events p (cut p)
      → Avoids events is cut
  avoids_past cut closed p within past =
      extended events is cut events.count closed whole_closed closed.within (past_never cut p within past) (record {
        order = [];
        is_order = λ q host. refl;
        never = past_never cut p within past events.count closed.within (λ q host. omega arith);
      })

  -- No run that is over at a cut is among any that overlap.
  abbrev IsLeft : Cut → Type 0
  IsLeft cut = (from until : ℕ → ℕ) → AreOverlapping events from until → (p : ℕ) → p < events.hosts → cut p ≤ until p

  module _ (cut : Cut) (firsts : Firsts cut) (from until : ℕ → ℕ) (overlap : AreOverlapping events from until)
      (left_over : (p : ℕ) → p < events.hosts → cut p ≤ until p) where
    -- So those that do are no earlier than the first ones that aren't over.
    begins_later : (p : ℕ) → p < events.hosts → firsts.from p ≤ from p
    begins_later p within =
        let mine = firsts.are p within in
        let run = overlap.runs p within in
        let last = until p - 1 in
        let on = run.holds last (omega (arith, run.some)) (omega (arith, run.some)) in
        ⊎_elim
        (λ (early : from p < firsts.from p).
        ⊎_elim
        (λ (inside : last < firsts.until p).
        let begun = mine.first last inside (omega (arith, run.some, left_over p within)) on in
        absurd (false≢true (sym (fails_before p within early) ∙ run.holds (firsts.from p - 1) (omega (arith, early))
        (omega (arith, early, begun, run.some)))))
        (λ (beyond : firsts.until p ≤ last).
        absurd (false≢true (sym (mine.run.ends (omega (arith, beyond, run.within, run.some)))
        ∙ run.holds (firsts.until p) (omega (arith, early, mine.run.some)) (omega (arith, beyond, run.some)))))
        (cases_lt last (firsts.until p)))
        (λ (late : firsts.from p ≤ from p). late)
        (cases_lt (from p) (firsts.from p))
      where
        fails_before : (p : ℕ) (within : p < events.hosts) → from p < firsts.from p
            → events.holds p (firsts.from p - 1) ≡ false
        fails_before p within early =
            (firsts.are p within).run.begins (firsts.from p - 1) (omega (arith, early))

    ends_later : (p : ℕ) → p < events.hosts → firsts.until p ≤ until p
    ends_later p within =
        let mine = firsts.are p within in
        let run = overlap.runs p within in
        ⊎_elim
        (λ (early : until p < firsts.until p).
        absurd (false≢true (sym (run.ends (omega (arith, early, mine.run.within)))
        ∙ mine.run.holds (until p) (omega (arith, begins_later p within, run.some)) early)))
        (λ (late : firsts.until p ≤ until p). late)
        (cases_lt (until p) (firsts.until p))

    -- The one that is dropped is not among them.
    dropped_ends : (p q : ℕ) → IsDropped cut firsts p q → firsts.until p < until p
    dropped_ends p q dropped =
        ⊎_elim
        (λ (late : firsts.until p < until p). late)
        (λ (same : until p ≤ firsts.until p).
        let is_end : until p ≡ firsts.until p = omega (arith, same, ends_later p dropped.host) in
        let over : until p < events.count p = omega (arith, is_end, dropped.over) in
        let met = overlap.meet q p dropped.other_host dropped.host dropped.other over in
        let met_here : from q < events.knows p (firsts.until p) q = rw is_end at met in
        absurd (omega (arith, met_here, dropped.unknown, begins_later q dropped.other_host)))
        (cases_lt (firsts.until p) (until p))

    dropped_left : (closed : IsClosed events cut) (p q : ℕ) (dropped : IsDropped cut firsts p q)
        → IsFirstOver cut closed firsts p → (x : ℕ) → x < events.hosts → up_to cut firsts p x ≤ until x
    unfolding up_to
    dropped_left closed p q dropped first x within =
        ⊎_elim
        (λ (same : x ≡ p).
        let ends = dropped_ends p q dropped in
        let at : events.knows p (firsts.until p) x ≤ until x = rw same (omega (
          arith,
          is.itself p (firsts.until p) (dropped.host, dropped.over),
          ends,
        )) in
        omega (arith, at, left_over x within))
        (λ (isnt : x ≡ p → ⊥).
        ⊎_elim
        (λ (ends : firsts.until x < events.count x).
        omega (arith, left_over x within, first x within isnt ends, ends_later x within))
        (λ (goes_on : events.count x ≤ firsts.until x).
        omega (
          arith,
          left_over x within,
          goes_on,
          ends_later x within,
          is.within p (firsts.until p) x (dropped.host, dropped.over) within,
        ))
        (cases_lt (firsts.until x) (events.count x)))
        (cases_eq x p)

  -- Runs that overlap, the least ones.
  abbrev pub Overlap : Type 0
  Overlap = HasLeast events

  left : Cut → ℕ
  left cut = total events.hosts (λ p. events.count p - cut p)

  left_falls : (cut target : Cut) (p : ℕ) → p < events.hosts → ((q : ℕ) → q < events.hosts → cut q ≤ target q)
      → cut p < target p → target p ≤ events.count p → left target < left cut
  unfolding left
  left_falls cut target p host above less within =
      total-rise events.hosts (λ q. events.count q - target q) (λ q. events.count q - cut q) p
      (λ q inside. omega (arith, above q inside)) host (omega (arith, less, within))

  overlap_of : (cut : Cut) (firsts : Firsts cut) → IsLeft cut
      → ((p q : ℕ) → p < events.hosts → q < events.hosts → IsDropped cut firsts p q → ⊥) → Overlap
  overlap_of cut firsts left_over none = (
    firsts.from,
    firsts.until,
    record {
      runs = λ p within. (firsts.are p within).run;
      meet = λ p q p_host q_host isnt ends. ⊎_elim
          (λ (known : firsts.from p < events.knows q (firsts.until q) p). known)
          (λ (unknown : events.knows q (firsts.until q) p ≤ firsts.from p).
          absurd (none q p q_host p_host (record {
            host = q_host;
            other_host = p_host;
            other = isnt;
            over = ends;
            unknown = unknown;
          })))
          (cases_lt (firsts.from p) (events.knows q (firsts.until q) p));
    },
    λ from until overlap. begins_later cut firsts from until overlap (left_over from until overlap),
  )

  -- One is dropped, so an order goes on to its end; or none is, and they overlap.
  drop_or_overlap : (cut : Cut) → IsClosed events cut → IsLed cut → IsLeft cut → (firsts : Firsts cut)
      → ((target : Cut) → IsClosed events target → IsLed target → IsLeft target → left target < left cut
      → Overlap ⊎ Avoids events is target)
      → Overlap ⊎ Avoids events is cut
  unfolding target
  drop_or_overlap cut closed led left_over firsts goes_on =
      ⊎_elim
      (λ (found : (p : ℕ) × (p < events.hosts) × IsSomeDropped p).
      let q = found.2.1.0 in
      let dropped = found.2.1.2 in
      let steps = suc (rank events is found.0 (firsts.until found.0)) in
      let first = first_dropped cut closed firsts steps found.0 q dropped (omega arith) in
      let p = first.0 in
      let at = target cut closed firsts led p q first.1 first.2 in
      let at_closed = target_closed cut closed firsts led p q first.1 first.2 in
      let above = above_cut cut closed firsts led p q first.1 first.2 in
      let over = over_is_in cut closed firsts led p q first.1 first.2 in
      let goes_on_to = (firsts.are p first.1.host).goes_on in
      ⊎_elim
      (λ (overlap : Overlap). inl overlap)
      (λ (avoids : Avoids events is at).
      inr (extended events is cut at closed at_closed above
      (none_holds cut closed firsts led p q first.1 first.2) avoids))
      (goes_on at at_closed (target_led cut closed firsts led p q first.1 first.2)
      (at_left p q first.1 first.2)
      (left_falls cut at p first.1.host above (omega (arith, goes_on_to, over)) (at_closed.within p first.1.host))))
      (λ (none : (p : ℕ) → p < events.hosts → IsSomeDropped p → ⊥).
      inl (overlap_of cut firsts left_over (λ p q p_host q_host dropped.
      none p p_host (p_host, (q, q_host, dropped)))))
      (find events.hosts IsSomeDropped some)
    where
      at_left : (p q : ℕ) (dropped : IsDropped cut firsts p q) (first : IsFirstOver cut closed firsts p)
          → IsLeft (target cut closed firsts led p q dropped first)
      at_left p q dropped first from until overlap x within =
          dropped_left cut firsts from until overlap (left_over from until overlap) closed p q dropped first x within

      IsSomeDropped : ℕ → Type 0
      IsSomeDropped p = (p < events.hosts) × ((q : ℕ) × (q < events.hosts) × IsDropped cut firsts p q)

      IsDroppedFor : ℕ → ℕ → Type 0
      IsDroppedFor p q = (q < events.hosts) × IsDropped cut firsts p q

      for_one : (p : ℕ) → p < events.hosts → (q : ℕ) → IsDroppedFor p q ⊎ (IsDroppedFor p q → ⊥)
      for_one p p_host q =
          ⊎_elim
          (λ (q_host : q < events.hosts).
          ⊎_elim
          (λ (dropped : IsDropped cut firsts p q). inl (q_host, dropped))
          (λ (isnt : IsDropped cut firsts p q → ⊥). inr (λ (for_it : IsDroppedFor p q). isnt for_it.1))
          (is_dropped cut firsts p q p_host q_host))
          (λ (past : events.hosts ≤ q). inr (λ (for_it : IsDroppedFor p q). omega (arith, past, for_it.0)))
          (cases_lt q events.hosts)

      some : (p : ℕ) → IsSomeDropped p ⊎ (IsSomeDropped p → ⊥)
      some p =
          ⊎_elim
          (λ (p_host : p < events.hosts).
          ⊎_elim
          (λ (found : (q : ℕ) × (q < events.hosts) × IsDroppedFor p q). inl (p_host, (found.0, found.1, found.2.1)))
          (λ (none : (q : ℕ) → q < events.hosts → IsDroppedFor p q → ⊥).
          inr (λ (found : IsSomeDropped p). none found.1.0 found.1.1 (found.1.1, found.1.2)))
          (find events.hosts (IsDroppedFor p) (for_one p p_host)))
          (λ (past : events.hosts ≤ p). inr (λ (found : IsSomeDropped p). omega (arith, past, found.0)))
          (cases_lt p events.hosts)

  -- Each host has a first run that isn't over, or the condition of one holds no more.
  each_or_past : (cut : Cut) → IsClosed events cut
      → ((p : ℕ) × (p < events.hosts) × IsPast events p (cut p)) ⊎ Firsts cut
  each_or_past cut closed =
      ⊎_elim
      (λ (found : (p : ℕ) × (p < events.hosts) × IsSomePast p). inl (found.0, found.1, found.2.1))
      (λ (none : (p : ℕ) → p < events.hosts → IsSomePast p → ⊥).
      inr (firsts_of cut (λ p within.
      ⊎_elim
      (λ (run : (from : ℕ) × (until : ℕ) × IsCurrent events p (cut p) from until). run)
      (λ (past : IsPast events p (cut p)). absurd (none p within (within, past)))
      (current_run events p (cut p) (closed.within p within)))))
      (find events.hosts IsSomePast some)
    where
      IsSomePast : ℕ → Type 0
      IsSomePast p = (p < events.hosts) × IsPast events p (cut p)

      has_run : (p : ℕ) → (from : ℕ) × (until : ℕ) × IsCurrent events p (cut p) from until → IsSomePast p → ⊥
      has_run p run past =
          let at = run.2 in
          let last = run.1 - 1 in
          false≢true
          (sym (past.1 last (omega (arith, at.run.some, at.run.within)) (omega (arith, at.run.some, at.goes_on)))
          ∙ at.run.holds last (omega (arith, at.run.some)) (omega (arith, at.run.some)))

      some : (p : ℕ) → IsSomePast p ⊎ (IsSomePast p → ⊥)
      some p =
          ⊎_elim
          (λ (within : p < events.hosts).
          ⊎_elim
          (λ (run : (from : ℕ) × (until : ℕ) × IsCurrent events p (cut p) from until). inr (has_run p run))
          (λ (past : IsPast events p (cut p)). inl (within, past))
          (current_run events p (cut p) (closed.within p within)))
          (λ (beyond : events.hosts ≤ p). inr (λ (past : IsSomePast p). omega (arith, beyond, past.0)))
          (cases_lt p events.hosts)

  decide_from : (fuel : ℕ) (cut : Cut) → IsClosed events cut → IsLed cut → IsLeft cut → left cut < fuel
      → Overlap ⊎ Avoids events is cut
  decide_from zero cut closed led left_over few = absurd (omega (arith, few))
  decide_from (suc fuel) cut closed led left_over few =
      ⊎_elim
      (λ (found : (p : ℕ) × (p < events.hosts) × IsPast events p (cut p)).
      inr (avoids_past cut closed found.0 found.1 found.2))
      (λ (firsts : Firsts cut).
      drop_or_overlap cut closed led left_over firsts (λ at at_closed at_led at_left less.
      decide_from fuel at at_closed at_led at_left (omega (arith, few, less))))
      (each_or_past cut closed)

  decide : Overlap ⊎ Avoids events is none_yet
  decide =
      decide_from (suc (left none_yet)) none_yet
      (record {
        within = λ p within. omega arith;
        known = λ p k q p_host q_host before. absurd (omega (arith, before));
      })
      (λ p k p_host before. absurd (omega (arith, before)))
      (λ from until overlap p within. omega arith)
      (omega arith)

  pub least_at : Definitely events → HasLeast events
  least_at definitely =
      ⊎_elim
      (λ (overlap : HasLeast events). overlap)
      (λ (avoids : Avoids events is none_yet). absurd (avoids.never (definitely avoids.order avoids.is_order)))
      decide

  pub definite_at : Definitely events ↔ ((from until : ℕ → ℕ) × AreOverlapping events from until)
  definite_at = (
    λ definitely.
        let least = least_at definitely in
        (least.0, least.1, least.2),
    λ overlap order is_order.
        along events overlap.0 overlap.1 overlap.2 none_yet order is_order (λ p within. omega arith),
  )
