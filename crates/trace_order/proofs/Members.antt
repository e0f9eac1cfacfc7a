-- What stands in a list, in what is picked from it, and on both sides of a seam.
use Rattle.trace_order.proofs.Words.{◌≡◌, ◌+◌, Bool, true, false, cond, List, [], ◌∷◌, ◌++◌, length, map}
use Rattle.trace_order.proofs.Words.{get_or}
use Rattle.trace_order.proofs.Words.{refl, sym, ◌∙◌, ap, subst, arith, inl, inr, ◌⊎◌, get_or-map, length-map}
use Rattle.trace_order.proofs.Words.{get_or_default, get_or_append_left, get_or-append-add, length-append}
use Rattle.trace_order.proofs.Words.{AllPairs}
use Rattle.trace_order.proofs.Words.{Contains, filter, Contains-append_left, Contains-append_right, Contains-push}
use Rattle.trace_order.proofs.Words.{Contains-append_cases, Contains-push_cases, All-contains, All-filter}
use Rattle.trace_order.proofs.Words.{filter_passes}
use Rattle.trace_order.proofs.Words.{All-map, All-contains_itself, All-weaker}

-- The first and the others.
pub in_first : {X : Type 0} (x : X) (xs : List X) → Contains (x ∷ xs) x
in_first x xs = Contains-append_left (x ∷ []) xs x (Contains-push [] x)

pub in_others : {X : Type 0} (x y : X) (xs : List X) → Contains xs y → Contains (x ∷ xs) y
in_others x y xs there = Contains-append_right (x ∷ []) xs y there

none_in : {X : Type 0} (x : X) → Contains [] x → ⊥
none_in x there = omega (arith, there.1)

pub first_or_others : {X : Type 0} (x y : X) (xs : List X) → Contains (x ∷ xs) y → (x ≡ y) ⊎ Contains xs y
first_or_others x y xs there =
    elim (Contains-append_cases (x ∷ []) xs y there) [
      | inl one ↦ elim (Contains-push_cases [] x y one) [ inl never ↦ absurd (none_in y never) | inr same ↦ inl same ]
      | inr other ↦ inr other
    ]

-- What passes a test stands in what it picks.
pub is_picked : {X : Type 0} (test : X → Bool) (xs : List X) (x : X) → Contains xs x → test x ≡ true
    → Contains (filter test xs) x
is_picked test [] x there passes = absurd (none_in x there)
is_picked test (y ∷ ys) x there passes =
    elim (first_or_others y x ys there) [
      | inl same ↦ subst (λ z. Contains (cond (test y) (y ∷ filter test ys) (filter test ys)) z) same
          (subst (λ b. Contains (cond b (y ∷ filter test ys) (filter test ys)) y) (sym (ap test same ∙ passes))
          (in_first y (filter test ys)))
      | inr other ↦ either (test y) (is_picked test ys x other passes)
    ]
  where
    either : (b : Bool) → Contains (filter test ys) x → Contains (cond b (y ∷ filter test ys) (filter test ys)) x
    either true later = in_others y x (filter test ys) later
    either false later = later

pub picked_is : {X : Type 0} (test : X → Bool) (xs : List X) (x : X) → Contains (filter test xs) x → Contains xs x
picked_is test xs x there =
    All-contains (Contains xs) (filter test xs) x (All-filter test (Contains xs) xs (All-contains_itself xs)) there

pub picked_passes : {X : Type 0} (test : X → Bool) (xs : List X) (x : X) → Contains (filter test xs) x → test x ≡ true
picked_passes test xs x there = All-contains (λ y. test y ≡ true) (filter test xs) x (filter_passes test xs) there

-- What a list is mapped to.
pub is_mapped : {X Y : Type 0} (f : X → Y) (xs : List X) (x : X) → Contains xs x → Contains (map f xs) (f x)
is_mapped f xs x there =
    (there.0, omega (arith, length-map xs f, there.1), get_or-map f xs there.0 x (f x) there.1 ∙ ap f there.2)

pub mapped_from : {X Y : Type 0} (f : X → Y) (xs : List X) (y : Y) → Contains (map f xs) y
    → (x : X) × Contains xs x × (f x ≡ y)
mapped_from {X} {Y} f xs y there =
    let From : Y → Type 0 = λ z. (x : X) × Contains xs x × (f x ≡ z) in
    All-contains From (map f xs) y (All-map From f xs (All-weaker (Contains xs) (λ x. From (f x)) (λ x is. (
      x,
      is,
      refl,
    ))
    xs (All-contains_itself xs))) there

-- What is so of each two that stand one behind the other is so across a seam.
pub across : {X : Type 0} (R : X → X → Type 0) (xs ys : List X) (x y : X) → AllPairs R (xs ++ ys) → Contains xs x
    → Contains ys y → R x y
across R xs ys x y pairs left right =
    let one : get_or (xs ++ ys) left.0 x ≡ x = get_or_append_left xs ys x left.0 left.1 ∙ left.2 in
    let other : get_or (xs ++ ys) (length xs + right.0) x ≡ y =
    get_or-append-add xs ys right.0 x ∙ get_or_default ys right.0 x y right.1 ∙ right.2 in
    let both = pairs left.0 (length xs + right.0) x (omega (arith, left.1))
    (omega (arith, length-append xs ys, right.1)) in
    subst (λ z. R x z) other (subst (λ z. R z (get_or (xs ++ ys) (length xs + right.0) x)) one both)
