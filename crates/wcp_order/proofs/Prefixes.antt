-- Lists whose elements that pass a test are the first ones of another list that do.
use Rattle.wcp_order.proofs.Words.{count_before-mono, ◌≡◌, ℕ, ◌+◌, ◌<◌, ◌≤◌, Bool, true, List, [], ◌∷◌, take, filter}
use Rattle.wcp_order.proofs.Words.{count_by, Some, refl, sym, arith, slice_get, cases_Bool, length-filter, take-take}
use Rattle.wcp_order.proofs.Words.{take_all, sum_by-take-le, filter_prefix, count_by_yes, count_by_no, count_before-yes}

-- what passes of the one list is the first of what passes of the other
abbrev pub Begins : {X : Type 0} → (X → Bool) → List X → List X → Type 0
Begins P ys xs = filter P ys ≡ take (count_by P ys) (filter P xs)

module _ {X : Type 0} (P : X → Bool) where
  pub begins_itself : (xs : List X) → Begins P xs xs
  begins_itself xs = sym (take_all (count_by P xs) (filter P xs) (omega (arith, length-filter P xs)))

  -- so is what passes of its front
  pub begins_take : (xs ys : List X) (k : ℕ) → Begins P ys xs → Begins P (take k ys) xs
  begins_take xs ys k begins = grind (arith, sum_by-take-le, take-take, filter_prefix, length-filter)

module _ {X : Type 0} (P Q : X → Bool) (implies : (x : X) → Q x ≡ true → P x ≡ true) where
  pub count_by-filter : (xs : List X) → count_by Q (filter P xs) ≡ count_by Q xs
  count_by-filter [] = refl
  count_by-filter (x ∷ xs) = grind (arith, count_by-filter xs, count_by_yes, count_by_no, cases_Bool)

  module _ (xs : List X) where
    -- where fewer pass the test, no more pass a stricter one
    no_more_pass : (ys zs : List X) → Begins P ys xs → Begins P zs xs
        → count_by P ys ≤ count_by P zs → count_by Q ys ≤ count_by Q zs
    no_more_pass ys zs ys_begin zs_begin fewer = grind (arith, count_before-mono, count_by-filter)

    module _ (ys : List X) (begins : Begins P ys xs) where
      pub no_more_than_all : count_by Q ys ≤ count_by Q xs
      no_more_than_all = grind (arith, sum_by-take-le, count_by-filter)

      front : (i : ℕ) → Begins P (take i xs) xs
      front i = begins_take P xs xs i (begins_itself P xs)

      -- an element that passes both tests and is among the first by the one is so by the stricter one
      pub among_by_stricter : (i : ℕ) (x : X) → slice_get xs i ≡ Some x → Q x ≡ true
          → count_by P (take i xs) < count_by P ys → count_by Q (take i xs) < count_by Q ys
      among_by_stricter i x at passes more =
          let by_test = count_before-yes P xs i x at (implies x passes) in
          let by_stricter = count_before-yes Q xs i x at passes in
          omega (arith, by_test, by_stricter, no_more_pass (take (i + 1) xs) ys (front (i + 1)) begins)

      pub among_by_test : (i : ℕ) → count_by Q (take i xs) < count_by Q ys → count_by P (take i xs) < count_by P ys
      among_by_test i more = grind (arith, no_more_pass ys (take i xs) begins (front i))

      pub as_many_pass : (i : ℕ) → count_by P (take i xs) ≡ count_by P ys → count_by Q (take i xs) ≡ count_by Q ys
      as_many_pass i same = grind (arith, no_more_pass, front)
