use Rattle.wcp_model.proofs.Words.{ℕ, ◌<◌, ◌≤◌, ◌⊎◌, inl, inr, arith, cases_lt}

-- one for each of the first n, from one for each
module _ {X : Type 0} (none : X) (P : ℕ → X → Type 0) (n : ℕ) (each : (p : ℕ) → p < n → (x : X) × P p x) where
  abbrev one_for : (p : ℕ) → (p < n) ⊎ (n ≤ p) → X
  one_for p (inl within) = (each p within).0
  one_for p (inr past) = none

  one_for-holds : (p : ℕ) (side : (p < n) ⊎ (n ≤ p)) → p < n → P p (one_for p side)
  one_for-holds p side p_within = grind arith

  pub choice_from_each : (choice : ℕ → X) × ((p : ℕ) → p < n → P p (choice p))
  choice_from_each = (λ p. one_for p (cases_lt p n), λ p p_within. one_for-holds p (cases_lt p n) p_within)
