-- What is so of each place.
use Rattle.std.proofs.Common.{◌≡◌, ◌<◌, ◌⊎◌, inl, inr, ℕ, ◌+◌, subst, sym, arith}
use Rattle.wullaphi_record.proofs.Adding.{below_or_at}

-- What is so of the places before one, and there, is so up to it.
pub up_to : (P : ℕ → Type 0) (at : ℕ) → ((i : ℕ) → i < at → P i) → P at → (i : ℕ) → i < at + 1 → P i
up_to P at before here i below = by (below_or_at i at (omega (arith, below)))
  where
    by : (i < at) ⊎ (i ≡ at) → P i
    by (inl lower) = before i lower
    by (inr is) = subst P (sym is) here
