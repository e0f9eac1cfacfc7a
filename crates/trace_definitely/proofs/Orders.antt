-- The way from one cut to another, one event after another.
use Rattle.std.proofs.Common.{◌≡◌, sym, ℕ, zero, suc, ◌-◌, ◌<◌, ◌≤◌, ◌⊎◌, inl, inr, refl, arith, ⊎_elim}
use Rattle.std.proofs.lemmas.Bool.{cases_eq, cases_lt}
use Rattle.trace_definitely.specs.Events.{CanComeNext, Cut, Events, AreOrdered, with_next}
use Rattle.trace_definitely.proofs.Sums.{total, total-rise}
use Rattle.trace_definitely.proofs.Cuts.{IsClosed, IsSame, find, next_closed, next_other, next_own, next_rises, rank}
use Rattle.trace_definitely.proofs.Cuts.{rank_falls}

module _ (events : Events) (is : AreOrdered events) where
  -- One cut lies at or below another.
  abbrev pub IsBelow : Cut → Cut → Type 0
  IsBelow cut other = (p : ℕ) → p < events.hosts → cut p ≤ other p

  -- Some event can come next on the way from a cut to another one.
  comes_next : (cut target : Cut) → IsClosed events target → (fuel p : ℕ) → p < events.hosts → cut p < target p
      → rank events is p (cut p) < fuel → (q : ℕ) × (cut q < target q) × CanComeNext events cut q
  comes_next cut target closed zero p host less few = absurd (omega (arith, few))
  comes_next cut target closed (suc fuel) p host less few =
      ⊎_elim
      (λ (found : (q : ℕ) × (q < events.hosts) × Lacks q).
      let q = found.0 in
      comes_next cut target closed fuel q found.1
      (omega (arith, found.2.1, closed.known p (cut p) q host found.1 less))
      (omega (arith, few, falls q found.1 found.2.0 found.2.1)))
      (λ (none : (q : ℕ) → q < events.hosts → Lacks q → ⊥). (
        p,
        less,
        record {
          host = host;
          more = omega (arith, less, closed.within p host);
          known = λ q within isnt. ⊎_elim
              (λ (lacks : cut q < events.knows p (cut p) q). absurd (none q within (isnt, lacks)))
              (λ (has : events.knows p (cut p) q ≤ cut q). has)
              (cases_lt (cut q) (events.knows p (cut p) q));
        },
      ))
      (find events.hosts Lacks decide)
    where
      falls : (q : ℕ) → q < events.hosts → (q ≡ p → ⊥) → cut q < events.knows p (cut p) q
          → rank events is q (cut q) < rank events is p (cut p)
      falls q q_host isnt known =
          rank_falls events is p (cut p) q (cut q) (host, omega (arith, less, closed.within p host)) q_host
          (λ same. isnt (sym same)) known

      Lacks : ℕ → Type 0
      Lacks q = (q ≡ p → ⊥) × (cut q < events.knows p (cut p) q)

      decide : (q : ℕ) → Lacks q ⊎ (Lacks q → ⊥)
      decide q =
          ⊎_elim
          (λ (same : q ≡ p). inr (λ (lacks : Lacks q). lacks.0 same))
          (λ (isnt : q ≡ p → ⊥).
          ⊎_elim
          (λ (less : cut q < events.knows p (cut p) q). inl (isnt, less))
          (λ (has : events.knows p (cut p) q ≤ cut q). inr (λ (lacks : Lacks q). omega (arith, has, lacks.1)))
          (cases_lt (cut q) (events.knows p (cut p) q)))
          (cases_eq q p)

  -- How far one cut lies below another.
  gap : Cut → Cut → ℕ
  gap cut target = total events.hosts (λ p. target p - cut p)

  gap_falls : (cut target : Cut) (p : ℕ) → p < events.hosts → cut p < target p
      → gap (with_next cut p) target < gap cut target
  unfolding gap
  gap_falls cut target p host less =
      total-rise events.hosts (λ q. target q - with_next cut p q) (λ q. target q - cut q) p
      (λ q within. omega (arith, next_rises cut p q)) host
      (omega (arith, next_own cut p p refl, less))

  step_below : (cut target : Cut) (p : ℕ) → IsBelow cut target → cut p < target p → IsBelow (with_next cut p) target
  step_below cut target p below less q within =
      ⊎_elim
      (λ (same : q ≡ p).
      let here : cut q < target q = rw same less in
      omega (arith, next_own cut p q same, here))
      (λ (isnt : q ≡ p → ⊥). omega (arith, next_other cut p q isnt, below q within))
      (cases_eq q p)

  module _ (target : Cut) (closed_target : IsClosed events target) (P : Cut → Type 0)
      (same : (cut other : Cut) → IsSame events cut other → P cut → P other)
      (step : (cut : Cut) (p : ℕ) → IsBelow cut target → cut p < target p → CanComeNext events cut p →
      P (with_next cut p) → P cut)
      (there : P target) where
    -- What is so of a cut, and of each cut if it is so once one event more has happened, is so of those below it.
    approach : (fuel : ℕ) (cut : Cut) → IsClosed events cut → IsBelow cut target → gap cut target < fuel → P cut
    approach zero cut closed below few = absurd (omega (arith, few))
    approach (suc fuel) cut closed below few =
        ⊎_elim
        (λ (found : (p : ℕ) × (p < events.hosts) × (cut p < target p)).
        let next = comes_next cut target closed_target (suc (rank events is found.0 (cut found.0))) found.0 found.1
        found.2 (omega arith) in
        let p = next.0 in
        step cut p below next.1 next.2
        (approach fuel (with_next cut p) (next_closed events is cut p closed next.2)
        (step_below cut target p below next.1) (omega (arith, few, gap_falls cut target p next.2.host next.1))))
        (λ (none : (p : ℕ) → p < events.hosts → cut p < target p → ⊥).
        same target cut (λ p within.
        ⊎_elim
        (λ (less : cut p < target p). absurd (none p within less))
        (λ (past : target p ≤ cut p). omega (arith, past, below p within))
        (cases_lt (cut p) (target p))) there)
        (find events.hosts (λ p. cut p < target p) (λ p.
        ⊎_elim
        (λ (less : cut p < target p). inl less)
        (λ (past : target p ≤ cut p). inr (λ (less : cut p < target p). omega (arith, past, less)))
        (cases_lt (cut p) (target p))))

    pub so_below : (cut : Cut) → IsClosed events cut → IsBelow cut target → P cut
    so_below cut closed below = approach (suc (gap cut target)) cut closed below (omega arith)
