use Rattle.std.proofs.Common.{◌≡◌, ℕ, zero, suc, ◌<◌, ◌⊎◌, Bool, inl, inr, ⊎_elim, arith}
use Rattle.std.proofs.lemmas.Bool.{cases_Bool}

-- a fact that holds or not
abbrev pub Decided : Type 0 → Type 0
Decided P = P ⊎ (P → ⊥)

-- facts that give each other are decided together
pub decided_from : {P Q : Type 0} → (P → Q) → (Q → P) → Decided P → Decided Q
decided_from to back decided = grind arith

-- a decided fact that is denied
pub not_decided : {P : Type 0} → Decided P → Decided (P → ⊥)
not_decided decided = grind arith

-- what is decided of each number below n is decided of some of them
pub some_below_decided : (P : ℕ → Type 0) (n : ℕ) → ((k : ℕ) → k < n → Decided (P k))
    → Decided ((k : ℕ) × (k < n) × P k)
some_below_decided P zero decided = inr (λ some. omega (arith, some.1))
some_below_decided P (suc n) decided = elim (decided n (omega arith)) [
  | inl here ↦ inl (n, omega arith, here)
  | inr not_here ↦ grind (arith, some_below_decided P n (λ k below. decided k (omega arith)))
]

-- what is decided of each number below n is decided of all of them
pub all_below_decided : (P : ℕ → Type 0) (n : ℕ) → ((k : ℕ) → k < n → Decided (P k)) → Decided ((k : ℕ) → k < n → P k)
all_below_decided P n decided = elim (some_below_decided (λ k. P k → ⊥) n (λ k below. not_decided (decided k below))) [
  | inl some ↦ inr (λ all. some.2 (all some.0 some.1))
  | inr none ↦ inl (λ k below. ⊎_elim (λ p. p) (λ not. absurd (none (k, below, not))) (decided k below))
]

-- whether two tests agree is decided
pub agree_decided : (a b : Bool) → Decided (a ≡ b)
agree_decided a b = grind (arith, cases_Bool a, cases_Bool b)
