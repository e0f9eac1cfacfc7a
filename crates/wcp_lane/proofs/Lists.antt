-- Lists that are read by their places, and the items of one origin in them.
use Rattle.wcp_lane.proofs.Words.{◌≡◌, ◌≢◌, ◌⊎◌, ℕ, zero, suc, ◌<◌, ◌≤◌, true, false, List, [], ◌∷◌, ◌++◌, length, set}
use Rattle.wcp_lane.proofs.Words.{sym, refl, ap, ◌∙◌, inl, inr, ⊎_elim, arith, length-append, ◌==◌, All, flat_map}
use Rattle.wcp_lane.proofs.Words.{flat_map-append, cases_lt, nat_tests, append-nil, drop_all, set_comm, filter-append}
use Rattle.wcp_lane.proofs.Words.{some, some-injective, some-ne-none, get_elem?, items_from}
use Rattle.atomic_table.proofs.Lists.{set_else, set_again}

module _ {A : Type 0} where
  pub not_empty : (before : List A) (x : A) (behind : List A) → [] ≡ before ++ x ∷ behind → ⊥
  not_empty [] x behind e = cc
  not_empty (b ∷ before) x behind e = cc

  -- an element of a list with one more at its end is of the list, or that one
  pub of_snoc : (xs : List A) (y : A) (before : List A) (x : A) (behind : List A) → xs ++ y ∷ [] ≡ before ++ x ∷ behind
      → ((rest : List A) × (xs ≡ before ++ x ∷ rest)) ⊎ ((xs ≡ before) × (y ≡ x))
  of_snoc [] y [] x behind e = inr (refl, (cc))
  of_snoc [] y (b ∷ before) x behind e = let rest : [] ≡ before ++ x ∷ behind = cc in
      absurd (not_empty before x behind rest)
  of_snoc (z ∷ xs) y [] x behind e = let first : z ≡ x = cc in inl (xs, λ i. first i ∷ xs)
  of_snoc (z ∷ xs) y (b ∷ before) x behind e =
      let first : z ≡ b = cc in
      let rest : xs ++ y ∷ [] ≡ before ++ x ∷ behind = cc in
      ⊎_elim
      (λ (in_list : (r : List A) × (xs ≡ before ++ x ∷ r)). inl (in_list.0, λ i. first i ∷ in_list.1 i))
      (λ (at_end : (xs ≡ before) × (y ≡ x)). inr ((λ i. first i ∷ at_end.0 i), at_end.1))
      (of_snoc xs y before x behind rest)

module _ {A B : Type 0} (F : A → List B) where
  length-of_flat_map : (xs : List A) (i : ℕ) (x : A) → get_elem? xs i ≡ some x → length (F x) ≤ length (flat_map F xs)
  length-of_flat_map [] i x at = absurd (some-ne-none x (sym at))
  length-of_flat_map (z ∷ zs) zero x at =
      omega (arith, length-append (F z) (flat_map F zs), ap (λ a. length (F a)) (some-injective z x at))
  length-of_flat_map (z ∷ zs) (suc i) x at =
      omega (arith, length-append (F z) (flat_map F zs), length-of_flat_map zs i x at)

  -- an element is replaced by one that gives the same
  pub flat_map-set_same : (xs : List A) (i : ℕ) (x y : A) → get_elem? xs i ≡ some x → F y ≡ F x
      → flat_map F (set xs i y) ≡ flat_map F xs
  flat_map-set_same [] i x y at same = refl
  flat_map-set_same (z ∷ zs) zero x y at same = rw (same, some-injective z x at) refl
  flat_map-set_same (z ∷ zs) (suc i) x y at same = rw (flat_map-set_same zs i x y at same) refl

  -- an element that gives all that is given is replaced
  pub flat_map-set_own : (xs : List A) (i : ℕ) (x y : A) → get_elem? xs i ≡ some x
      → length (flat_map F xs) ≤ length (F x) → flat_map F (set xs i y) ≡ F y
  flat_map-set_own [] i x y at all = absurd (some-ne-none x (sym at))
  flat_map-set_own (z ∷ zs) zero x y at all =
      rw (drop_all 0 (flat_map F zs)
      (omega (arith, length-append (F z) (flat_map F zs), ap (λ a. length (F a)) (some-injective z x at))))
      (append-nil (F y))
  flat_map-set_own (z ∷ zs) (suc i) x y at all =
      let both = length-append (F z) (flat_map F zs) in
      rw (drop_all 0 (F z) (omega (arith, both, length-of_flat_map zs i x at)))
      (flat_map-set_own zs i x y at (omega (arith, both)))

  -- where one thing is given, an element that gives something gives just this
  pub flat_map-one : (xs : List A) (i : ℕ) (x : A) (t : B) → get_elem? xs i ≡ some x → flat_map F xs ≡ t ∷ []
      → 0 < length (F x) → F x ≡ t ∷ []
  flat_map-one xs i x t at all some_here = sym (flat_map-set_own xs i x x at (omega (arith, ap length all)))
      ∙ ap (flat_map F) (set_again xs i x at) ∙ all

  -- where one thing is given, an element takes over what another one gives
  pub flat_map-merge : (xs : List A) (i j : ℕ) (x u y z : A) (t : B) → get_elem? xs i ≡ some x → j ≢ i
      → get_elem? (set xs i y) j ≡ some u → F y ≡ F u ++ F x → F z ≡ []
      → flat_map F xs ≡ t ∷ [] → flat_map F (set (set xs i y) j z) ≡ t ∷ []
  flat_map-merge xs i j x u y z t at apart at_other both spent all =
      ⊎_elim
      (λ (some_here : 0 < length (F u)).
      let there : get_elem? xs j ≡ some u = sym (set_else xs i j y apart) ∙ at_other in
      let here : get_elem? (set xs j z) i ≡ some x = set_else xs j i z (λ e. apart (sym e)) ∙ at in
      let own : F u ≡ t ∷ [] = flat_map-one xs j u t there all some_here in
      let none : flat_map F (set xs j z) ≡ [] = flat_map-set_own xs j u z there (omega (arith, ap length all))
      ∙ spent in
      let nothing : F x ≡ [] =
      drop_all 0 (F x) (omega (arith, ap length none, length-of_flat_map (set xs j z) i x here)) in
      ap (flat_map F) (set_comm xs i j y z (λ e. apart (sym e)))
      ∙ flat_map-set_own (set xs j z) i x y here (omega (arith, ap length none)) ∙ both ∙ (λ k. own k ++ nothing k))
      (λ (none_here : length (F u) ≤ 0).
      let nothing : F u ≡ [] = drop_all 0 (F u) none_here in
      flat_map-set_same (set xs i y) j u z at_other (spent ∙ sym nothing)
      ∙ flat_map-set_same xs i x y at (both ∙ ap (λ s. s ++ F x) nothing) ∙ all)
      (cases_lt 0 (length (F u)))

module _ {I : Type 0} (origin : I → ℕ) (p : ℕ) where
  pub items_from-append : (xs ys : List I)
      → items_from origin p (xs ++ ys) ≡ items_from origin p xs ++ items_from origin p ys
  items_from-append xs ys = filter-append (λ (x : I). origin x == p) xs ys

  pub items_from-own : (x : I) (xs : List I) → origin x ≡ p → items_from origin p (x ∷ xs) ≡ x ∷ items_from origin p xs
  items_from-own x xs own = let is : (origin x == p) ≡ true = grind (arith, nat_tests) in rw is

  pub items_from-other : (x : I) (xs : List I) → origin x ≢ p → items_from origin p (x ∷ xs) ≡ items_from origin p xs
  items_from-other x xs other = let is : (origin x == p) ≡ false = grind (arith, nat_tests) in rw is

  pub items_from-all : (xs : List I) → All (λ x. origin x ≡ p) xs → items_from origin p xs ≡ xs
  items_from-all [] all = refl
  items_from-all (x ∷ xs) all = items_from-own x xs (all 0 x (omega arith))
      ∙ ap (λ ys. x ∷ ys) (items_from-all xs (λ k d below. all (suc k) d (omega arith)))

  pub items_from-none : (xs : List I) → All (λ x. origin x ≢ p) xs → items_from origin p xs ≡ []
  items_from-none [] all = refl
  items_from-none (x ∷ xs) all = items_from-other x xs (all 0 x (omega arith))
      ∙ items_from-none xs (λ k d below. all (suc k) d (omega arith))

module _ {M I : Type 0} (items : M → List I) where
  -- the items of some messages and of one more
  pub items-push : (messages : List M) (m : M)
      → flat_map items (messages ++ m ∷ []) ≡ flat_map items messages ++ items m
  items-push messages m = rw (flat_map-append items messages (m ∷ []), append-nil (items m)) refl

  pub items_from-push : (origin : I → ℕ) (p : ℕ) (messages : List M) (m : M) → items_from origin p (flat_map items
      (messages ++ m ∷ [])) ≡ items_from origin p (flat_map items messages) ++ items_from origin p (items m)
  items_from-push origin p messages m =
      rw (items-push messages m) (items_from-append origin p (flat_map items messages) (items m))
