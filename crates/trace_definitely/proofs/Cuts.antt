-- How many events of each host have happened, one event after another.
use Rattle.std.proofs.Common.{◌≡◌, ◌==◌, ◌∙◌, sym, ap, ℕ, zero, suc, ◌+◌, ◌<◌, ◌≤◌, ◌⊎◌, inl, inr, List, [], ◌∷◌}
use Rattle.std.proofs.Common.{true, false, refl, arith, ⊎_elim}
use Rattle.std.proofs.lemmas.Bool.{cases_eq, cases_lt, cases_Bool, eq-eqb, eqb-true}
use Rattle.trace_definitely.specs.Events.{AllHold, AreOrdered, CanComeNext, Cut, Events, HoldsAlong}
use Rattle.trace_definitely.specs.Events.{IsEvent, IsOrderFrom, with_next}
use Rattle.trace_definitely.proofs.Sums.{total, total-mono, total-rise}

pub next_own : (cut : Cut) (p q : ℕ) → q ≡ p → with_next cut p q ≡ cut q + 1
next_own cut p q same = rw (eq-eqb q p same) refl

pub next_other : (cut : Cut) (p q : ℕ) → (q ≡ p → ⊥) → with_next cut p q ≡ cut q
next_other cut p q other =
    ⊎_elim
    (λ (is : (q == p) ≡ true). absurd (other (eqb-true q p is)))
    (λ (isnt : (q == p) ≡ false). rw isnt refl)
    (cases_Bool (q == p))

pub next_rises : (cut : Cut) (p q : ℕ) → cut q ≤ with_next cut p q
next_rises cut p q =
    ⊎_elim
    (λ (same : q ≡ p). omega (arith, next_own cut p q same))
    (λ (other : q ≡ p → ⊥). omega (arith, next_other cut p q other))
    (cases_eq q p)

-- One host among the first so many has what is asked for, or none has.
pub find : (n : ℕ) (P : ℕ → Type 0) → ((p : ℕ) → P p ⊎ (P p → ⊥))
    → ((p : ℕ) × (p < n) × P p) ⊎ ((p : ℕ) → p < n → P p → ⊥)
find zero P decide = inr (λ p within found. omega (arith, within))
find (suc n) P decide =
    ⊎_elim
    (λ (found : (p : ℕ) × (p < n) × P p). inl (found.0, omega (arith, found.1), found.2))
    (λ (none : (p : ℕ) → p < n → P p → ⊥).
    ⊎_elim
    (λ (here : P n). inl (n, omega arith, here))
    (λ (isnt : P n → ⊥). inr (λ p within found.
    ⊎_elim
    (λ (before : p < n). none p before found)
    (λ (past : n ≤ p).
    let same : p ≡ n = omega (arith, within, past) in
    isnt (rw (← same) found))
    (cases_lt p n)))
    (decide n))
    (find n P decide)

module _ (events : Events) where
  -- What happened before an event that has happened has happened too.
  pub record IsClosed (cut : Cut) : Type 0 where
    pub within : (p : ℕ) → p < events.hosts → cut p ≤ events.count p
    pub known : (p k q : ℕ) → p < events.hosts → q < events.hosts → k < cut p → events.knows p k q ≤ cut q

  -- Two cuts say the same of each host.
  abbrev pub IsSame : Cut → Cut → Type 0
  IsSame cut other = (p : ℕ) → p < events.hosts → cut p ≡ other p

  next_same : (cut other : Cut) (p : ℕ) → IsSame cut other → IsSame (with_next cut p) (with_next other p)
  next_same cut other p same q within =
      ⊎_elim
      (λ (is : q ≡ p). next_own cut p q is ∙ ap (λ k. k + 1) (same q within) ∙ sym (next_own other p q is))
      (λ (isnt : q ≡ p → ⊥). next_other cut p q isnt ∙ same q within ∙ sym (next_other other p q isnt))
      (cases_eq q p)

  all_same : (cut other : Cut) → IsSame cut other → AllHold events other → AllHold events cut
  all_same cut other same all p within = rw (same p within) (all p within)

  pub order_same : (cut other : Cut) (order : List ℕ) → IsSame cut other → IsOrderFrom events cut order
      → IsOrderFrom events other order
  order_same cut other [] same is = λ p within. sym (same p within) ∙ is p within
  order_same cut other (p ∷ order) same is =
      let at = same p is.0.host in (
        record {
          host = is.0.host;
          more = rw (← at) is.0.more;
          known = λ q within isnt. rw (← same q within, ← at) (is.0.known q within isnt);
        },
        order_same (with_next cut p) (with_next other p) order (next_same cut other p same) is.1,
      )

  pub along_same : (cut other : Cut) (order : List ℕ) → IsSame cut other → HoldsAlong events other order
      → HoldsAlong events cut order
  along_same cut other [] same holds = all_same cut other same holds
  along_same cut other (p ∷ order) same holds =
      ⊎_elim
      (λ (all : AllHold events other). inl (all_same cut other same all))
      (λ (later : HoldsAlong events (with_next other p) order).
      inr (along_same (with_next cut p) (with_next other p) order (next_same cut other p same) later))
      holds

  module _ (is : AreOrdered events) where
    -- Of how many events of the hosts an event knows: fewer than one that knows of it.
    pub rank : ℕ → ℕ → ℕ
    rank p k = total events.hosts (events.knows p k)

    pub rank_falls : (p k q j : ℕ) → IsEvent events p k → q < events.hosts → (p ≡ q → ⊥) → j < events.knows p k q
        → rank q j < rank p k
    unfolding rank
    rank_falls p k q j event host other known =
        total-rise events.hosts (events.knows q j) (events.knows p k) p
        (λ r within. is.passes_on p k q j r event host within known) event.0
        (omega (arith, is.not_back p k q j event host other known, is.itself p k event))

    pub rank_within : (p k : ℕ) → IsEvent events p k → rank p k ≤ total events.hosts events.count
    unfolding rank
    rank_within p k event =
        total-mono events.hosts (events.knows p k) events.count (λ q within. is.within p k q event within)

    pub next_closed : (cut : Cut) (p : ℕ) → IsClosed cut → CanComeNext events cut p → IsClosed (with_next cut p)
    next_closed cut p closed can = record {
      within = λ q host. ⊎_elim
          (λ (same : q ≡ p).
          let at = next_own cut p q same in
          let below : cut q < events.count q = rw same can.more in
          omega (arith, at, below))
          (λ (isnt : q ≡ p → ⊥). omega (arith, next_other cut p q isnt, closed.within q host))
          (cases_eq q p);
      known = λ q k r q_host r_host before. ⊎_elim
          (λ (past : k < cut q). omega (arith, closed.known q k r q_host r_host past, next_rises cut p r))
          (λ (now : cut q ≤ k). new q k r q_host r_host before now)
          (cases_lt k (cut q));
    }
      where
        new : (q k r : ℕ) → q < events.hosts → r < events.hosts → k < with_next cut p q → cut q ≤ k
            → events.knows q k r ≤ with_next cut p r
        new q k r q_host r_host before now =
            ⊎_elim
            (λ (same : q ≡ p).
            let at : k ≡ cut p = omega (arith, before, now, next_own cut p q same, ap cut same) in
            ⊎_elim
            (λ (itself : r ≡ p).
            rw (same, at, itself) (omega (arith, is.itself p (cut p) (can.host, can.more), next_own cut p p refl)))
            (λ (isnt : r ≡ p → ⊥).
            rw (same, at) (omega (arith, can.known r r_host isnt, next_rises cut p r)))
            (cases_eq r p))
            (λ (isnt : q ≡ p → ⊥). absurd (omega (arith, before, now, next_other cut p q isnt)))
            (cases_eq q p)
