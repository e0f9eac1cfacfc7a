use Rattle.std.proofs.Common.{◌≡◌, ◌≢◌, ℕ, ◌+◌, ◌-◌, ◌<◌, ◌⊎◌, List, length, slice_index_or, inl, inr, arith, sym, ◌∙◌}
use Rattle.std.proofs.lemmas.Bool.{cases_eq}
use Rattle.std.specs.List.{Contains}

-- a list of n, and what is left of it where an element is removed and the last takes its place
pub record IsSwapped {X : Type 0} (old new : List X) (n i : ℕ) : Type 0 where
  pub count : n ≡ length old
  pub within : i < n
  pub shorter : length new + 1 ≡ n
  pub last : (d : X) → i + 1 < n → slice_index_or new i d ≡ slice_index_or old (n - 1) d
  pub others : (k : ℕ) (d : X) → k ≢ i → k + 1 < n → slice_index_or new k d ≡ slice_index_or old k d

-- what is left was there
pub swapped_right : {X : Type 0} (old new : List X) (n i : ℕ) (x : X) → IsSwapped old new n i → Contains new x
    → Contains old x
swapped_right old new n i x is (k, within, here) = elim (cases_eq k i) [
  | inl same ↦ (
    n - 1,
    omega (arith, is.within, is.count),
    sym (is.last x (omega (arith, same, within, is.shorter))) ∙ (rw same at here),
  )
  | inr other ↦ (
    k,
    omega (arith, within, is.shorter, is.count),
    sym (is.others k x other (omega (arith, within, is.shorter))) ∙ here,
  )
]

-- what was there is left, or was removed
pub swapped_kept : {X : Type 0} (old new : List X) (n i : ℕ) (x : X) → IsSwapped old new n i → Contains old x
    → Contains new x ⊎ (slice_index_or old i x ≡ x)
swapped_kept old new n i x is (k, within, here) = elim (cases_eq k i) [
  | inl same ↦ inr (rw same at here)
  | inr other ↦ elim (cases_eq k (n - 1)) [
    | inl end ↦ inl (
      i,
      omega (arith, other, end, is.within, is.shorter),
      is.last x (omega (arith, other, end, is.within)) ∙ (rw end at here),
    )
    | inr middle ↦ inl (
      k,
      omega (arith, middle, within, is.count, is.shorter),
      is.others k x other (omega (arith, middle, within, is.count)) ∙ here,
    )
  ]
]
