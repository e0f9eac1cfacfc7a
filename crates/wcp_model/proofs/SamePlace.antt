use Rattle.wcp_model.proofs.Words.{◌≡◌, ℕ, zero, suc, ◌<◌, Bool, true, false, List, [], ◌∷◌, length, take, filter}
use Rattle.wcp_model.proofs.Words.{count_by, slice_get, cond, Some, refl, inl, inr, arith, cases_Bool, length-filter}
use Rattle.wcp_model.proofs.Words.{sum_by-cons}

-- a filter keeps, and a count counts, the first element exactly where it passes
pub filter_yes : {X : Type 0} (P : X → Bool) (x : X) (xs : List X) → P x ≡ true → filter P (x ∷ xs) ≡ x ∷ filter P xs
filter_yes P x xs passes = rw passes

pub count_by_yes : {X : Type 0} (P : X → Bool) (x : X) (xs : List X) → P x ≡ true
    → count_by P (x ∷ xs) ≡ suc (count_by P xs)
count_by_yes P x xs passes = grind (arith, sum_by-cons (λ e. cond (P e) 1 0) x xs)

pub count_by_no : {X : Type 0} (P : X → Bool) (x : X) (xs : List X) → P x ≡ false → count_by P (x ∷ xs) ≡ count_by P xs
count_by_no P x xs fails = grind (arith, sum_by-cons (λ e. cond (P e) 1 0) x xs)

-- a list has an element at each place below its length
pub element_within : {X : Type 0} (xs : List X) (place : ℕ) → place < length xs
    → (x : X) × (slice_get xs place ≡ Some x)
element_within [] place within = absurd (omega arith)
element_within (x ∷ xs) zero within = (x, refl)
element_within (x ∷ xs) (suc place) within = element_within xs place (omega arith)

-- the front of a list has the same elements
pub slice_get-take : {X : Type 0} (n : ℕ) (xs : List X) (place : ℕ) → place < n
    → slice_get (take n xs) place ≡ slice_get xs place
slice_get-take zero xs place below = absurd (omega arith)
slice_get-take (suc n) [] place below = refl
slice_get-take (suc n) (x ∷ xs) zero below = refl
slice_get-take (suc n) (x ∷ xs) (suc place) below = slice_get-take n xs place (omega arith)

-- an element that passes stands in the filtered list behind those before it that pass
pub slice_get-filter : {X : Type 0} (P : X → Bool) (xs : List X) (place : ℕ) (x : X) → slice_get xs place ≡ Some x
    → P x ≡ true → slice_get (filter P xs) (length (filter P (take place xs))) ≡ Some x
slice_get-filter P [] place x found passes = cc
slice_get-filter P (y ∷ ys) zero x found passes = grind arith
slice_get-filter P (y ∷ ys) (suc place) x found passes = grind (arith, slice_get-filter P ys place x found passes)

-- an element passes the test and stands in the list after `earlier` others that do
pub record StandsAfter {X : Type 0} (P : X → Bool) (xs : List X) (earlier : ℕ) (x : X) : Type 0 where
  pub place : ℕ
  pub found : slice_get xs place ≡ Some x
  pub passes : P x ≡ true
  pub behind : count_by P (take place xs) ≡ earlier

-- one place on, behind one more element
one_on : {X : Type 0} (P : X → Bool) (y : X) (ys : List X) (earlier k : ℕ) (x : X) → StandsAfter P ys earlier x
    → cond (P y) (suc earlier) earlier ≡ k → StandsAfter P (y ∷ ys) k x
one_on P y ys earlier k x rest here = record {
  place = suc rest.place;
  found = rest.found;
  passes = rest.passes;
  behind = grind (arith, sum_by-cons (λ e. cond (P e) 1 0) y (take rest.place ys));
}

-- each element of the filtered list has a place in the list
stands_after : {X : Type 0} (P : X → Bool) (xs : List X) (earlier : ℕ) (x : X)
    → slice_get (filter P xs) earlier ≡ Some x → StandsAfter P xs earlier x
stands_after P [] earlier x kept = cc
stands_after P (y ∷ ys) zero x kept = elim (cases_Bool (P y)) [
  | inl here ↦ grind arith
  | inr here ↦ one_on P y ys zero zero x (stands_after P ys zero x (rw here at kept)) (rw here)
]
stands_after P (y ∷ ys) (suc earlier) x kept = elim (cases_Bool (P y)) [
  | inl here ↦ one_on P y ys earlier (suc earlier) x (stands_after P ys earlier x (rw here at kept)) (rw here)
  | inr here ↦ one_on P y ys (suc earlier) (suc earlier) x (stands_after P ys (suc earlier) x (rw here at kept))
      (rw here)
]

-- where more elements pass than `earlier`, one passes after `earlier` others
pub element_after : {X : Type 0} (P : X → Bool) (xs : List X) (earlier : ℕ) → earlier < count_by P xs
    → (x : X) × StandsAfter P xs earlier x
element_after P xs earlier more =
    let kept = element_within (filter P xs) earlier (omega (arith, length-filter P xs)) in
    (kept.0, stands_after P xs earlier kept.0 kept.1)

-- what passes in a prefix is a prefix of what passes
pub filter_prefix : {X : Type 0} (P : X → Bool) (place : ℕ) (xs : List X)
    → filter P (take place xs) ≡ take (length (filter P (take place xs))) (filter P xs)
filter_prefix P zero xs = refl
filter_prefix P (suc place) [] = refl
filter_prefix P (suc place) (x ∷ xs) = grind (arith, filter_prefix P place xs)

-- the same element stands in another list behind the same elements that pass
pub record SamePlace {X : Type 0} (P : X → Bool) (xs ys : List X) (place : ℕ) (x : X) : Type 0 where
  pub other : ℕ
  pub found : slice_get ys other ≡ Some x
  pub front : filter P (take other ys) ≡ filter P (take place xs)

-- where two lists keep the same elements, each of these has the same place in both
pub same_place : {X : Type 0} (P : X → Bool) (xs ys : List X) (place : ℕ) (x : X) → filter P xs ≡ filter P ys
    → slice_get xs place ≡ Some x → P x ≡ true → SamePlace P xs ys place x
same_place P xs ys place x same found passes =
    let kept = slice_get-filter P xs place x found passes in
    let there = stands_after P ys (length (filter P (take place xs))) x (rw same at kept) in
    record {
      other = there.place;
      found = there.found;
      front = cc (
        filter_prefix P there.place ys,
        filter_prefix P place xs,
        same,
        there.behind,
        length-filter P (take there.place ys),
      );
    }

-- a stricter test finds in a filtered list what it finds in the list
filter-filter : {X : Type 0} (P Q : X → Bool) → ((x : X) → Q x ≡ true → P x ≡ true) → (xs : List X)
    → filter Q (filter P xs) ≡ filter Q xs
filter-filter P Q implies [] = refl
filter-filter P Q implies (x ∷ xs) = grind (arith, filter-filter P Q implies xs)

-- where the same elements pass a test, as many pass a stricter one
pub same_count : {X : Type 0} (P Q : X → Bool) (xs ys : List X) → ((x : X) → Q x ≡ true → P x ≡ true)
    → filter P xs ≡ filter P ys → count_by Q xs ≡ count_by Q ys
same_count P Q xs ys implies same =
    grind (arith, filter-filter P Q implies xs, filter-filter P Q implies ys, length-filter Q xs, length-filter Q ys)
