-- Sets of numbers, by the marks that say which numbers are in them.
use Rattle.std.proofs.Common.{◌≡◌, ℕ, ◌<◌, ◌≤◌, ◌+◌, ◌↔◌, Bool, true, false, ◌||◌, List, length, get_or, set, ap, ◌∙◌}
use Rattle.std.proofs.Common.{sym}
use Rattle.std.proofs.Common.{subst, arith, Any, Contains, true≢false}
use Rattle.std.proofs.lemmas.Grind.{get_or_default_zero}
use Rattle.std.proofs.lemmas.Bool.Decides.{nat_tests}
use Rattle.std.proofs.lemmas.List.{get_or-set_same, get_or-set_other, get_or_past}
use Rattle.std.specs.Cmp.{unsigned_tied, nat_cmp_total}
use Rattle.std.specs.Ordering.{nat_cmp}
use Rattle.std.specs.Prelude.{nat_eq, nat_lt}
use Rattle.wcp_clock.specs.Limits.{most_processes}
use Rattle.wcp_clock.specs.Numbers.{set_of, contains-marks}
use Rattle.wcp_clock.specs.ProcessNumbers.{AreProcessNumbers}
use Rattle.std.specs.FinSet as sets
use Rattle.std.specs.FinMap.{nat_cmp-IsAntisymmetric}

-- the numbers of a set of so many marks are those of processes
pub process_numbers : (marks : List Bool) (numbers : sets.FinSet nat_cmp) → length marks ≡ most_processes
    → set_of marks ≡ numbers → AreProcessNumbers numbers
process_numbers marks numbers full is q member = grind (arith, contains-marks, get_or_past)

-- what a set contains once p is added
pub contains_with : (numbers : sets.FinSet nat_cmp) (p q : ℕ)
    → sets.contains (sets.insert numbers p) q ≡ (nat_eq q p || sets.contains numbers q)
contains_with numbers p q = sets.contains-insert nat_cmp_total numbers p q
    ∙ ap (λ b. b || sets.contains numbers q) (unsigned_tied q p)

-- none is below 0
pub none_below : (q : ℕ) → sets.contains (sets.empty {R = nat_cmp}) q ≡ nat_lt q 0
none_below q = grind (arith, nat_tests, sets.contains-empty nat_cmp q)

-- the first k numbers and k are the first k + 1
pub all_with : (numbers : sets.FinSet nat_cmp) (k : ℕ) → ((q : ℕ) → sets.contains numbers q ≡ nat_lt q k)
    → (q : ℕ) → sets.contains (sets.insert numbers k) q ≡ nat_lt q (k + 1)
all_with numbers k all q = grind (arith, nat_tests, contains_with)

-- the set of one number
abbrev pub alone : ℕ → sets.FinSet nat_cmp
alone p = sets.insert sets.empty p

-- that number is in it
pub alone_has : (p : ℕ) → sets.contains (alone p) p ≡ true
alone_has p = grind (arith, nat_tests, contains_with)

marks_with : (marks : List Bool) (p q : ℕ) → p < length marks
    → get_or (set marks p true) q false ≡ (nat_eq q p || get_or marks q false)
marks_with marks p q within = grind (arith, nat_tests, get_or-set_same, get_or-set_other)

-- a mark more is a number more
pub set_of-set : (marks : List Bool) (p : ℕ) → p < length marks
    → set_of (set marks p true) ≡ sets.insert (set_of marks) p
set_of-set marks p within =
    sets.same_set nat_cmp_total nat_cmp-IsAntisymmetric _ _ (λ q.
    rw (contains_with, contains-marks (set marks p true) q, contains-marks marks q) (marks_with marks p q within))

-- the marks of either set are the marks of their union
pub set_of-either : (marks mine theirs : List Bool)
    → ((p : ℕ) → get_or marks p false ≡ (get_or mine p false || get_or theirs p false))
    → set_of marks ≡ sets.union (set_of mine) (set_of theirs)
set_of-either marks mine theirs each =
    sets.same_set nat_cmp_total nat_cmp-IsAntisymmetric _ _ (λ q. rw (
      sets.contains-union nat_cmp_total,
      contains-marks marks q,
      contains-marks mine q,
      contains-marks theirs q,
    ) (each q))

-- a number past the marks isn't in the set
pub past_is_out : (marks : List Bool) (p : ℕ) → length marks ≤ p → sets.contains (set_of marks) p ≡ false
past_is_out marks p past = contains-marks marks p ∙ get_or_past marks p false past

-- each of the first k numbers is in the set, and only they are
pub record AreFirst (numbers : List ℕ) (k : ℕ) (these : sets.FinSet nat_cmp) : Type 0 where
  pub has : (i : ℕ) → i < k → sets.contains these (get_or numbers i 0) ≡ true
  pub only : (p : ℕ) → sets.contains these p ≡ true → (i : ℕ) × (i < k) × (get_or numbers i 0 ≡ p)
  pub below : (i : ℕ) → i < k → get_or numbers i 0 < most_processes

pub first_none : (numbers : List ℕ) → AreFirst numbers 0 sets.empty
first_none numbers = record {
  has = λ i below. absurd (omega arith);
  only = λ p is. absurd (true≢false (sym is ∙ sets.contains-empty nat_cmp p));
  below = λ i below. absurd (omega arith);
}

pub first_more : (numbers : List ℕ) (k : ℕ) (these : sets.FinSet nat_cmp) → AreFirst numbers k these
    → get_or numbers k 0 < most_processes → AreFirst numbers (k + 1) (sets.insert these (get_or numbers k 0))
first_more numbers k these are within = record {
  has = λ i below. grind (arith, nat_tests, contains_with, are.has);
  only = λ p is. grind (arith, nat_tests, contains_with, are.only);
  below = λ i below. grind (arith, are.below);
}

pub first_all : (numbers : List ℕ) (k : ℕ) (these : sets.FinSet nat_cmp) → AreFirst numbers k these
    → k ≡ length numbers → (p : ℕ) → (sets.contains these p ≡ true) ↔ Contains numbers p
first_all numbers k these are all p = (
  λ is. let at = are.only p is in
      (at.0, omega (arith, at.1), get_or_default_zero numbers at.0 p (omega (arith, at.1)) ∙ at.2),
  λ is. subst (λ q. sets.contains these q ≡ true)
      (sym (get_or_default_zero numbers is.0 p is.1) ∙ is.2) (are.has is.0 (omega (arith, is.1))),
)

pub first_within : (numbers : List ℕ) (k : ℕ) (these : sets.FinSet nat_cmp) → AreFirst numbers k these
    → k ≡ length numbers → ¬ Any (λ p. most_processes ≤ p) numbers
first_within numbers k these are all any = grind (arith, are.below, get_or_default_zero)
