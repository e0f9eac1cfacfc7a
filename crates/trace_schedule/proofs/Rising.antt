-- Events by how many of them their clocks count.
use Rattle.std.proofs.Common.{◌≡◌, ◌<◌, ◌∙◌, ℕ, Bool, true, false, List, [], ◌∷◌, arith, ap, cond, filter, get_or, length, map, inl, inr}
use Rattle.std.proofs.Common.{refl, subst, sym}
use Rattle.std.proofs.lemmas.Bool.{cases_lt, eq-eqb, le-ltb, lt-ltb, ne_eqb}
use Rattle.std.proofs.lemmas.List.{get_or-map, length-map}
use Rattle.std.proofs.lemmas.List.Elements.{filter_agree}
use Rattle.std.proofs.lemmas.List.Sorted.{IsPermutation-map}
use Rattle.std.specs.Borrow.{Bor}
use Rattle.std.specs.List.Sorted.{IsNonDecreasingBy, IsPermutation, IsStableByKey}
use Rattle.std.specs.Ordering.{is_lt, nat_cmp}
use Rattle.std.specs.declared.cmp.Ordering.TheVariants.{Equal, Greater, Less}
use Rattle.std.specs.Prelude.{◌&&◌, ◌==◌, not, nat_lt}
use Rattle.trace_log.specs.Log.{Logged}
use Rattle.trace_schedule.specs.Schedule.{IsByCount, counted}

-- Of two numbers none is less exactly if they are one.
ties : (n m : ℕ) → (not (nat_lt n m) && not (nat_lt m n)) ≡ (n == m)
ties n m = elim (cases_lt n m) [
  | inl less ↦ rw (lt-ltb n m less, ne_eqb n m (λ same. omega (arith, less, same))) refl
  | inr more ↦ elim (cases_lt m n) [
    | inl less ↦ rw (le-ltb n m more, lt-ltb m n less, ne_eqb n m (λ same. omega (arith, less, same))) refl
    | inr less ↦ rw (le-ltb n m more, le-ltb m n less, eq-eqb n m (omega (arith, more, less))) refl
  ]
]

compares : (n m : ℕ) → is_lt (nat_cmp n m) ≡ nat_lt n m
compares n m = by (nat_lt n m) (n == m)
  where
    by : (less same : Bool) → is_lt (cond less Less (cond same Equal Greater)) ≡ less
    by true same = refl
    by false true = refl
    by false false = refl

compare-alike : (n m : ℕ) → (not (is_lt (nat_cmp n m)) && not (is_lt (nat_cmp m n))) ≡ (n == m)
compare-alike n m = (λ i. not (compares n m i) && not (compares m n i)) ∙ ties n m

-- What holds along values does so along what they say.
module _ {X Y : Type 0} (says : X → Y) where
  filter-said : (test : Y → Bool) (values : List X)
      → filter test (map says values) ≡ map says (filter (λ one. test (says one)) values)
  filter-said test [] = refl
  filter-said test (one ∷ others) = by (test (says one)) (filter-said test others)
    where
      by : (b : Bool) → filter test (map says others) ≡ map says (filter (λ one. test (says one)) others)
          → cond b (says one ∷ filter test (map says others)) (filter test (map says others))
          ≡ map says (cond b (one ∷ filter (λ one. test (says one)) others) (filter (λ one. test (says one)) others))
      by true rest = ap (λ (all : List Y). says one ∷ all) rest
      by false rest = rest

  module _ (number : Y → ℕ) where
    pub rises-said : (values : List X) → IsNonDecreasingBy (λ one. number (says one)) values
        → IsNonDecreasingBy number (map says values)
    rises-said [] up i j d before within = absurd (omega (arith, within))
    rises-said (one ∷ others) up i j d before within =
        let all = one ∷ others in
        let short = length-map all says in
        let first = get_or-map says all i one d (omega (arith, before, within, short)) in
        let second = get_or-map says all j one d (omega (arith, within, short)) in
        rw (first, second) (up i j one before (omega (arith, within, short)))

    one-stays : (one : X) (old new : List X) → IsStableByKey (λ one. number (says one)) nat_cmp old new
        → filter (λ other. number (says one) == number other) (map says new)
        ≡ filter (λ other. number (says one) == number other) (map says old)
    one-stays one old new stable =
        let test : Y → Bool = λ other. number (says one) == number other in
        let alike : (other : X) → (not (is_lt (nat_cmp (number (says one)) (number (says other))))
        && not (is_lt (nat_cmp (number (says other)) (number (says one))))) ≡ test (says other) =
        λ other. compare-alike (number (says one)) (number (says other)) in
        filter-said test new
        ∙ ap (map says) (sym (filter_agree _ _ alike new) ∙ stable one ∙ filter_agree _ _ alike old)
        ∙ sym (filter-said test old)

    pub stays-said : (old new : List X) → IsStableByKey (λ one. number (says one)) nat_cmp old new
        → (place : ℕ) (d : Y) → place < length (map says new)
        → filter (λ other. number (get_or (map says new) place d) == number other) (map says new)
        ≡ filter (λ other. number (get_or (map says new) place d) == number other) (map says old)
    stays-said old [] stable place d within = absurd (omega (arith, within))
    stays-said old (first ∷ others) stable place d within =
        let new = first ∷ others in
        let is = get_or-map says new place first d (omega (arith, within, length-map new says)) in
        subst (λ it. filter (λ other. number it == number other) (map says new)
        ≡ filter (λ other. number it == number other) (map says old)) (sym is)
        (one-stays (get_or new place first) old new stable)

-- References that stand by how much the events count to which they refer.
pub by-count : (past order : List (Bor Logged)) → IsPermutation past order
    → IsNonDecreasingBy (λ one. counted one.now) order → IsStableByKey (λ one. counted one.now) nat_cmp past order
    → IsByCount (map (λ one. one.now) past) (map (λ one. one.now) order)
by-count past order moved up stable = record {
  same = IsPermutation-map (λ one. one.now) past order moved;
  rises = rises-said (λ one. one.now) counted order up;
  stays = stays-said (λ one. one.now) counted past order stable;
}
