-- Sums of numbers, one for each host.
use Rattle.std.proofs.Common.{◌≡◌, ℕ, zero, suc, ◌+◌, ◌<◌, ◌≤◌, arith, ⊎_elim}
use Rattle.std.proofs.lemmas.Bool.{cases_lt}

pub total : ℕ → (ℕ → ℕ) → ℕ
total zero f = 0
total (suc n) f = total n f + f n

-- A sum of greater numbers is greater.
pub total-mono : (n : ℕ) (f g : ℕ → ℕ) → ((p : ℕ) → p < n → f p ≤ g p) → total n f ≤ total n g
unfolding total
total-mono zero f g below = omega arith
total-mono (suc n) f g below =
    let before = total-mono n f g (λ p within. below p (omega (arith, within))) in
    let last = below n (omega arith) in
    omega (arith, before, last)

-- One of them is.
pub total-rise : (n : ℕ) (f g : ℕ → ℕ) (p : ℕ) → ((q : ℕ) → q < n → f q ≤ g q) → p < n → f p < g p
    → total n f < total n g
unfolding total
total-rise zero f g p below within less = omega (arith, within)
total-rise (suc n) f g p below within less =
    ⊎_elim
    (λ (before : p < n).
    let rest = total-rise n f g p (λ q inside. below q (omega (arith, inside))) before less in
    let last = below n (omega arith) in
    omega (arith, rest, last))
    (λ (past : n ≤ p).
    let rest = total-mono n f g (λ q inside. below q (omega (arith, inside))) in
    let last : f n < g n = rw (← at_end p within past) less in
    omega (arith, rest, last))
    (cases_lt p n)
  where
    at_end : (p : ℕ) → p < suc n → n ≤ p → p ≡ n
    at_end p inside past = omega (arith, inside, past)
