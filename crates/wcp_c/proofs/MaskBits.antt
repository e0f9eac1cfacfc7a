-- The bits of a mask.
use Rattle.std.proofs.Common.{◌≡◌, ◌≢◌, ℕ, zero, suc, ◌+◌, ◌-◌, ◌/◌, ◌%◌, ◌<◌, ◌≤◌, ◌&&◌, Bool, true, false, ltb, inl}
use Rattle.std.proofs.Common.{inr, refl}
use Rattle.std.proofs.Common.{ap, sym, ◌∙◌, arith}
use Rattle.std.proofs.lemmas.Bool.{cases_eq, cases_lt, false≢true}
use Rattle.std.proofs.lemmas.Bool.Decides.{nat_tests}
use Rattle.std.specs.FinSet as set
use Rattle.std.specs.Ordering.{nat_cmp}
use Rattle.wcp_clock.proofs.Marks.{contains_with}
use Rattle.wcp_clock.specs.ProcessNumbers.{NumberSet}
use Rattle.wcp_model.specs.Watched.{AreSomeWatched}
use Rattle.wcp_c.specs.Masks.{has_bit, IsMask, IsSetOfMask}

pub no_bit : (q : ℕ) → has_bit 0 q ≡ false
no_bit zero = refl
no_bit (suc q) = no_bit q

-- a number that isn't 0 has a bit
pub some_bit : (fuel rest : ℕ) → rest ≤ fuel → 0 < rest → (q : ℕ) × (has_bit rest q ≡ true)
some_bit zero rest under some = absurd (omega (arith, under, some))
some_bit (suc fuel) rest under some = elim (cases_eq (rest % 2) 1) [
  | inl odd ↦ (0, grind (arith, odd))
  | inr even ↦
      let more = some_bit fuel (rest / 2) (omega (arith, under, some)) (omega (arith, some, even)) in
      (suc more.0, more.1)
]

pub none_marked : (mask q : ℕ) → set.contains (set.empty {R = nat_cmp}) q ≡ (ltb q 0 && has_bit mask q)
none_marked mask q = none_of (has_bit mask q)
  where
    none_of : (bit : Bool) → set.contains (set.empty {R = nat_cmp}) q ≡ (ltb q 0 && bit)
    none_of bit = grind (arith, nat_tests, set.contains-empty nat_cmp q)

more_of : (members : NumberSet) (bit : ℕ → Bool) (p : ℕ) → bit p ≡ true
    → ((q : ℕ) → set.contains members q ≡ (ltb q p && bit q)) → (q : ℕ)
    → set.contains (set.insert members p) q ≡ (ltb q (p + 1) && bit q)
more_of members bit p is before q = grind (arith, nat_tests, contains_with, before)

same_of : (members : NumberSet) (bit : ℕ → Bool) (p : ℕ) → bit p ≡ false
    → ((q : ℕ) → set.contains members q ≡ (ltb q p && bit q)) → (q : ℕ)
    → set.contains members q ≡ (ltb q (p + 1) && bit q)
same_of members bit p is before q = grind (arith, nat_tests, before)

-- one process more is looked at
module _ (members : NumberSet) (mask p rest : ℕ) (bits : (q : ℕ) → has_bit mask (p + q) ≡ has_bit rest q)
    (before : (q : ℕ) → set.contains members q ≡ (ltb q p && has_bit mask q)) where
  pub next_bits : (q : ℕ) → has_bit mask (p + 1 + q) ≡ has_bit (rest / 2) q
  next_bits q =
      let shifted : p + 1 + q ≡ p + suc q = omega arith in
      ap (has_bit mask) shifted ∙ bits (suc q)

  own_bit : has_bit mask p ≡ has_bit rest 0
  own_bit =
      let here : p ≡ p + 0 = omega arith in
      ap (has_bit mask) here ∙ bits 0

  pub more_marked : rest % 2 ≡ 1 → (q : ℕ)
      → set.contains (set.insert members p) q ≡ (ltb q (p + 1) && has_bit mask q)
  more_marked odd = more_of members (has_bit mask) p
      (own_bit ∙ grind (arith, odd)) before

  pub same_marked : rest % 2 ≢ 1 → (q : ℕ) → set.contains members q ≡ (ltb q (p + 1) && has_bit mask q)
  same_marked even = same_of members (has_bit mask) p
      (own_bit ∙ grind (arith, even)) before

-- at the loop's end
pub all_bits : (n p mask rest : ℕ) → p ≡ n → ((q : ℕ) → has_bit mask (p + q) ≡ has_bit rest q) → (q : ℕ)
    → has_bit mask (n + q) ≡ has_bit rest q
all_bits n p mask rest end bits q = ap (λ it. has_bit mask (it + q)) (sym end) ∙ bits q

pub all_marks : (n p mask : ℕ) (members : NumberSet) → p ≡ n
    → ((q : ℕ) → set.contains members q ≡ (ltb q p && has_bit mask q)) → (q : ℕ)
    → set.contains members q ≡ (ltb q n && has_bit mask q)
all_marks n p mask members end marked q = marked q ∙ ap (λ it. ltb q it && has_bit mask q) end

-- all processes were looked at
module _ (n mask rest : ℕ) (bits : (q : ℕ) → has_bit mask (n + q) ≡ has_bit rest q) where
  pub no_mask : 0 < rest → IsMask n mask → ⊥
  no_mask more is =
      let bit = some_bit rest rest (omega arith) more in
      let above = is.within (n + bit.0) (bits bit.0 ∙ bit.1) in
      omega (arith, above)

  none_above : rest ≡ 0 → (q : ℕ) → n ≤ q → has_bit mask q ≡ false
  none_above none q above =
      let there : q ≡ n + (q - n) = omega (arith, above) in
      ap (has_bit mask) there ∙ bits (q - n) ∙ ap (λ left. has_bit left (q - n)) none ∙ no_bit (q - n)

  pub is_mask : 0 < mask → rest ≡ 0 → IsMask n mask
  is_mask some none = record {
    some = some_bit mask mask (omega arith) some;
    within = λ q has. elim (cases_lt q n) [
      | inl below ↦ below
      | inr above ↦ absurd (false≢true (sym (none_above none q above) ∙ has))
    ];
  }

  pub is_set : (members : NumberSet) → rest ≡ 0 → ((q : ℕ) → set.contains members q ≡ (ltb q n && has_bit mask q))
      → IsSetOfMask mask members
  is_set members none marked q = elim (cases_lt q n) [
    | inl below ↦ marked q ∙ all_of (has_bit mask q) below
    | inr above ↦ marked q ∙ past_of (has_bit mask q) (none_above none q above)
  ]
    where
      all_of : (bit : Bool) → q < n → (ltb q n && bit) ≡ bit
      all_of bit below = grind (arith, nat_tests, below)

      past_of : (bit : Bool) → bit ≡ false → (ltb q n && bit) ≡ bit
      past_of bit is = grind (arith, nat_tests, is)

pub some_of_mask : (n mask : ℕ) (members : NumberSet) → IsMask n mask → IsSetOfMask mask members
    → AreSomeWatched n members
some_of_mask n mask members is set_is = record {
  some = (is.some.0, set_is is.some.0 ∙ is.some.1);
  within = λ p has. is.within p (sym (set_is p) ∙ has);
}
