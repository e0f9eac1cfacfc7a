-- How many in front of a list pass a test.
use Rattle.std.proofs.Common.{◌≡◌, ℕ, Bool, zero, suc, ◌+◌, ◌<◌, ◌≤◌, true, false, cond, List, [], ◌∷◌, length, get_or}
use Rattle.std.proofs.Common.{arith}
use Rattle.std.specs.List.{count_by}
use Rattle.std.proofs.lemmas.List.Sums.{sum_by-cons}

module _ {X : Type 0} (test : X → Bool) where
  first : (x : X) (xs : List X) → count_by test (x ∷ xs) ≡ cond (test x) 1 0 + count_by test xs
  first x xs = sum_by-cons (λ y. cond (test y) 1 0) x xs

  -- None behind the first so many does, so they are no more.
  pub few : (xs : List X) (n : ℕ) (d : X)
      → ((k : ℕ) → n ≤ k → k < length xs → test (get_or xs k d) ≡ false) → count_by test xs ≤ n
  few [] n d fail = omega arith
  few (x ∷ xs) zero d fail =
      let here : test x ≡ false = fail zero (omega arith) (omega arith) in
      let rest = few xs zero d (λ k behind within. fail (suc k) (omega arith) (omega (arith, within))) in
      rw (first x xs, here) (omega (arith, rest))
  few (x ∷ xs) (suc n) d fail =
      let rest = few xs n d (λ k behind within. fail (suc k) (omega (arith, behind)) (omega (arith, within))) in
      rw (first x xs) (at_most (test x) (count_by test xs) n rest)
    where
      at_most : (b : Bool) (count n : ℕ) → count ≤ n → cond b 1 0 + count ≤ suc n
      at_most true count n less = omega (arith, less)
      at_most false count n less = omega (arith, less)

  -- All of them do, so they are no fewer.
  pub many : (xs : List X) (n : ℕ) (d : X) → n ≤ length xs
      → ((k : ℕ) → k < n → test (get_or xs k d) ≡ true) → n ≤ count_by test xs
  many xs zero d within pass = omega arith
  many [] (suc n) d within pass = absurd (omega (arith, within))
  many (x ∷ xs) (suc n) d within pass =
      let here : test x ≡ true = pass zero (omega arith) in
      let rest = many xs n d (omega (arith, within)) (λ k before. pass (suc k) (omega (arith, before))) in
      rw (first x xs, here) (omega (arith, rest))
