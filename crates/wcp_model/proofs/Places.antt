use Rattle.wcp_model.proofs.Words.{◌≡◌, ℕ, ◌+◌, ◌≤◌, Bool, true, false, List, take, length, count_by, slice_get, Some}
use Rattle.wcp_model.proofs.Words.{refl, ◌∙◌, ap, arith, take-take, take_all, count_by_more_yes, count_by_more_no}
use Rattle.wcp_model.proofs.Words.{sum_by-take-le, slice_get_within, get_or_from_slice_get}

-- how many of the elements before a place pass a test
abbrev pub count_before : {X : Type 0} → (X → Bool) → List X → ℕ → ℕ
count_before test xs place = count_by test (take place xs)

-- past an element that passes the count is one more
pub count_before-yes : {X : Type 0} (test : X → Bool) (xs : List X) (place : ℕ) (x : X) → slice_get xs place ≡ Some x
    → test x ≡ true → count_before test xs (place + 1) ≡ count_before test xs place + 1
count_before-yes test xs place x here passes =
    count_by_more_yes test xs place x (slice_get_within xs place x here)
    (ap test (get_or_from_slice_get xs place x x here) ∙ passes)

-- past an element that fails the count is the same
pub count_before-no : {X : Type 0} (test : X → Bool) (xs : List X) (place : ℕ) (x : X) → slice_get xs place ≡ Some x
    → test x ≡ false → count_before test xs (place + 1) ≡ count_before test xs place
count_before-no test xs place x here fails =
    count_by_more_no test xs place x (slice_get_within xs place x here)
    (ap test (get_or_from_slice_get xs place x x here) ∙ fails)

-- the count never falls
pub count_before-mono : {X : Type 0} (test : X → Bool) (xs : List X) (early late : ℕ) → early ≤ late
    → count_before test xs early ≤ count_before test xs late
count_before-mono test xs early late order = search (arith, take-take early late xs order, sum_by-take-le)

-- two elements that pass, with as many that pass before them, stand at one place
pub count_before-place : {X : Type 0} (test : X → Bool) (xs : List X) (one other : ℕ) (x y : X)
    → slice_get xs one ≡ Some x → slice_get xs other ≡ Some y → test x ≡ true → test y ≡ true
    → count_before test xs one ≡ count_before test xs other → one ≡ other
count_before-place test xs one other x y here there passes also same =
    grind (
      arith,
      count_before-yes test xs one x here passes,
      count_before-yes test xs other y there also,
      count_before-mono test xs (one + 1) other,
      count_before-mono test xs (other + 1) one,
    )

-- past the end the count is the same
pub count_before-past : {X : Type 0} (test : X → Bool) (xs : List X) (place : ℕ) → length xs ≤ place
    → count_before test xs (place + 1) ≡ count_before test xs place
count_before-past test xs place past = rw (take_all (place + 1) xs (omega arith), take_all place xs past) refl
