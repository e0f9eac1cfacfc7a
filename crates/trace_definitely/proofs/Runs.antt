-- The first run of a host that isn't over.
use Rattle.std.proofs.Common.{◌≡◌, ◌∙◌, sym, ℕ, zero, suc, ◌+◌, ◌-◌, ◌<◌, ◌≤◌, ◌⊎◌, inl, inr, true, false}
use Rattle.std.proofs.Common.{arith, ⊎_elim}
use Rattle.std.proofs.lemmas.Bool.{cases_eq, cases_lt, cases_Bool, false≢true}
use Rattle.trace_definitely.specs.Events.{Events}
use Rattle.trace_definitely.specs.Definitely.{IsRun}

module _ (events : Events) (p : ℕ) where
  -- From an event on the condition holds at all up to another one.
  abbrev pub HoldsUpTo : ℕ → ℕ → Type 0
  HoldsUpTo from until = (k : ℕ) → from ≤ k → k < until → events.holds p k ≡ true

  abbrev pub FailsUpTo : ℕ → ℕ → Type 0
  FailsUpTo from until = (k : ℕ) → from ≤ k → k < until → events.holds p k ≡ false

  one_more : (value from : ℕ) → (k : ℕ) → from ≤ k → k < suc value → (k < value → ⊥) → k ≡ value
  one_more value from k past before isnt =
      ⊎_elim
      (λ (less : k < value). absurd (isnt less))
      (λ (same : value ≤ k). omega (arith, before, same))
      (cases_lt k value)

  -- Where the run ends that goes on up to an event.
  until_from : (left from at : ℕ) → at + left ≡ events.count p → from ≤ at → HoldsUpTo from at
      → (until : ℕ) × (at ≤ until) × (until ≤ events.count p) × HoldsUpTo from until
      × (until < events.count p → events.holds p until ≡ false)
  until_from zero from at sum past holds =
      (at, omega arith, omega (arith, sum), holds, λ less. absurd (omega (arith, sum, less)))
  until_from (suc left) from at sum past holds =
      ⊎_elim
      (λ (on : events.holds p at ≡ true).
      let more = until_from left from (suc at) (omega (arith, sum)) (omega (arith, past)) (λ k behind before.
      ⊎_elim
      (λ (less : k < at). holds k behind less)
      (λ (same : at ≤ k).
      let is : at ≡ k = omega (arith, same, before) in
      rw (← is) on)
      (cases_lt k at)) in
      (more.0, omega (arith, more.1), more.2, more.3, more.4))
      (λ (off : events.holds p at ≡ false). (at, omega arith, omega (arith, sum), holds, λ less. off))
      (cases_Bool (events.holds p at))

  -- Where the run begins that goes on from an event.
  begin_of : (at until : ℕ) → HoldsUpTo at until
      → (from : ℕ) × (from ≤ at) × HoldsUpTo from until × ((k : ℕ) → suc k ≡ from → events.holds p k ≡ false)
  begin_of zero until holds = (zero, omega arith, holds, λ k is. absurd (omega (arith, is)))
  begin_of (suc at) until holds =
      ⊎_elim
      (λ (on : events.holds p at ≡ true).
      let more = begin_of at until (λ k behind before.
      ⊎_elim
      (λ (same : k ≡ at). rw same on)
      (λ (isnt : k ≡ at → ⊥). holds k (omega (arith, behind, isnt)) before)
      (cases_eq k at)) in
      (more.0, omega (arith, more.1), more.2, more.3))
      (λ (off : events.holds p at ≡ false). (
        suc at,
        omega arith,
        holds,
        λ k is.
            let same : k ≡ at = omega (arith, is) in
            rw same off,
      ))
      (cases_Bool (events.holds p at))

  -- The first event from one on from which the condition holds, if there is one.
  first_from : (left at : ℕ) → at + left ≡ events.count p
      → ((k : ℕ) × (at ≤ k) × (k < events.count p) × (events.holds p k ≡ true) × FailsUpTo at k)
      ⊎ FailsUpTo at (events.count p)
  first_from zero at sum = inr (λ k behind before. absurd (omega (arith, sum, behind, before)))
  first_from (suc left) at sum =
      ⊎_elim
      (λ (on : events.holds p at ≡ true).
      inl (at, omega arith, omega (arith, sum), on, λ k behind before. absurd (omega (arith, behind, before))))
      (λ (off : events.holds p at ≡ false).
      ⊎_elim
      (λ (found : (k : ℕ) × (suc at ≤ k) × (k < events.count p) × (events.holds p k ≡ true) × FailsUpTo (suc at) k).
      inl (found.0, omega (arith, found.1), found.2, found.3, first_too at off found.0 found.4))
      (λ (none : FailsUpTo (suc at) (events.count p)). inr (first_too at off (events.count p) none))
      (first_from left (suc at) (omega (arith, sum))))
      (cases_Bool (events.holds p at))
    where
      first_too : (at : ℕ) → events.holds p at ≡ false → (until : ℕ) → FailsUpTo (suc at) until → FailsUpTo at until
      first_too at off until fails k behind before =
          ⊎_elim
          (λ (same : k ≡ at). rw same off)
          (λ (isnt : k ≡ at → ⊥). fails k (omega (arith, behind, isnt)) before)
          (cases_eq k at)

  -- The first run that isn't over where so many events have happened.
  pub record IsCurrent (happened from until : ℕ) : Type 0 where
    pub run : IsRun events p from until
    pub goes_on : happened ≤ until
    pub first : (k : ℕ) → k < until → happened ≤ k + 1 → events.holds p k ≡ true → from ≤ k

  -- There is none: the condition no longer holds.
  abbrev pub IsPast : ℕ → Type 0
  IsPast happened = (k : ℕ) → k < events.count p → happened ≤ k + 1 → events.holds p k ≡ false

  current : (happened at : ℕ) → happened ≤ at + 1 → at ≤ events.count p
      → ((k : ℕ) → happened ≤ k + 1 → at ≤ k)
      → ((from : ℕ) × (until : ℕ) × IsCurrent happened from until) ⊎ IsPast happened
  current happened at low within least =
      ⊎_elim
      (λ (found : (k : ℕ) × (at ≤ k) × (k < events.count p) × (events.holds p k ≡ true) × FailsUpTo at k).
      let k = found.0 in
      let rest = events.count p - suc k in
      let ends = until_from rest k (suc k) (omega (arith, found.2)) (omega arith) (λ j behind before.
      let same : k ≡ j = omega (arith, behind, before) in
      rw (← same) found.3) in
      let begins = begin_of k ends.0 ends.3 in
      inl (
        begins.0,
        ends.0,
        record {
          run = record {
            some = omega (arith, begins.1, ends.1);
            within = ends.2;
            holds = begins.2;
            begins = begins.3;
            ends = ends.4;
          };
          goes_on = omega (arith, low, found.1, ends.1);
          first = λ j before happens on. ⊎_elim
              (λ (early : j < k). absurd (false≢true (sym (found.4 j (least j happens) early) ∙ on)))
              (λ (late : k ≤ j). omega (arith, begins.1, late))
              (cases_lt j k);
        },
      ))
      (λ (none : FailsUpTo at (events.count p)). inr (λ k before happens. none k (least k happens) before))
      (first_from (events.count p - at) at (omega (arith, within)))

  pub current_run : (happened : ℕ) → happened ≤ events.count p
      → ((from : ℕ) × (until : ℕ) × IsCurrent happened from until) ⊎ IsPast happened
  current_run zero within = current zero zero (omega arith) (omega arith) (λ k happens. omega arith)
  current_run (suc before) within =
      current (suc before) before (omega arith) (omega (arith, within)) (λ k happens. omega (arith, happens))
