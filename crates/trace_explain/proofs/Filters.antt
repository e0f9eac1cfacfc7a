-- What passes a test, and two lists that go together.
use Rattle.trace_explain.proofs.Words.{◌≡◌, ℕ, Bool, true, false, cond, List, [], ◌∷◌, ◌++◌, arith, zero, suc, AllZip}
use Rattle.trace_explain.proofs.Words.{Contains, filter, All-contains, All-filter, All-contains_itself, filter_passes}
use Rattle.trace_explain.proofs.Words.{Contains-append_right, ◌<◌, length, take, get_or, ◌∙◌, ap, append-nil, filter_more}
use Rattle.trace_explain.proofs.Words.{◌+◌, ◌≤◌}

module _ {X : Type 0} (test : X → Bool) where
  pub filter-Contains : (xs : List X) (x : X) → Contains (filter test xs) x → Contains xs x
  filter-Contains xs x is = All-contains (Contains xs) (filter test xs) x
      (All-filter test (Contains xs) xs (All-contains_itself xs)) is

  pub filter-test : (xs : List X) (x : X) → Contains (filter test xs) x → test x ≡ true
  filter-test xs x is = All-contains (λ y. test y ≡ true) (filter test xs) x (filter_passes test xs) is

  pub Contains-filter : (xs : List X) (x : X) → Contains xs x → test x ≡ true → Contains (filter test xs) x
  Contains-filter [] x (k, within, is) passes = absurd (omega arith)
  Contains-filter (y ∷ ys) x (zero, within, is) passes =
      let here : test y ≡ true = ap test is ∙ passes in
      rw here (0, omega arith, is)
  Contains-filter (y ∷ ys) x (suc k, within, is) passes =
      let rest = Contains-filter ys x (k, omega arith, is) passes in
      elim (test y) as (λ b. Contains (cond b (y ∷ filter test ys) (filter test ys)) x) [
        | true ↦ Contains-append_right (y ∷ []) (filter test ys) x rest
        | false ↦ rest
      ]

  -- Where none passes from one place up to another, as many pass before both.
  pub filter-none : (xs : List X) (d : X) (from count : ℕ) → from + count ≤ length xs
      → ((k : ℕ) → from ≤ k → k < from + count → test (get_or xs k d) ≡ false)
      → filter test (take (from + count) xs) ≡ filter test (take from xs)
  filter-none xs d from zero within none = ap (λ (n : ℕ). filter test (take n xs)) (omega arith)
  filter-none xs d from (suc count) within none =
      let lt : from + count < length xs = omega arith in
      let last : test (get_or xs (from + count) d) ≡ false = none (from + count) (omega arith) (omega arith) in
      let more = filter_more test xs (from + count) d lt in
      ap (λ (n : ℕ). filter test (take n xs)) (omega arith) ∙ more
      ∙ rw (last, append-nil (filter test (take (from + count) xs)))
      (filter-none xs d from count (omega arith) (λ k from_on below. none k from_on (omega arith)))

pub zip_push : {A B : Type 0} (R : A → B → Type 0) (xs : List A) (ys : List B) (x : A) (y : B) → AllZip R xs ys
    → R x y → AllZip R (xs ++ x ∷ []) (ys ++ y ∷ [])
zip_push R [] [] x y all here = (here, tt)
zip_push R [] (b ∷ bs) x y all here = absurd all
zip_push R (a ∷ others) [] x y all here = absurd all
zip_push R (a ∷ others) (b ∷ bs) x y all here = (all.0, zip_push R others bs x y all.1 here)
