-- A value for each of the first so many hosts.
use Rattle.std.proofs.Common.{ℕ, ◌<◌, ◌≤◌, ◌⊎◌, inl, inr, arith}
use Rattle.std.proofs.lemmas.Bool.{cases_lt}

module _ {X : Type 0} (n : ℕ) (none : X) (P : ℕ → X → Type 0) (each : (p : ℕ) → p < n → (x : X) × P p x) where
  chosen_by : (p : ℕ) → (p < n) ⊎ (n ≤ p) → X
  chosen_by p (inl within) = (each p within).0
  chosen_by p (inr past) = none

  is_by : (p : ℕ) (host : (p < n) ⊎ (n ≤ p)) → p < n → P p (chosen_by p host)
  unfolding chosen_by
  is_by p (inl host) within = (each p host).1
  is_by p (inr past) within = absurd (omega (arith, past, within))

  pub choose : (at : ℕ → X) × ((p : ℕ) → p < n → P p (at p))
  choose = (λ p. chosen_by p (cases_lt p n), λ p within. is_by p (cases_lt p n) within)
