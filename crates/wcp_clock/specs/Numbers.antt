use Rattle.std.specs.Prelude.{◌≡◌, ◌≢◌, ℕ, zero, suc, ◌+◌, ◌<◌, Bool, true, false, ◌||◌, List, [], ◌∷◌, length, nat_eq}
use Rattle.std.specs.Ordering.{nat_cmp}
use Rattle.std.specs.List.{list_any}
use Rattle.std.specs.FinSet as set
use Rattle.std.proofs.Common.{refl, ap, ◌∙◌, arith, get_or}
use Rattle.std.proofs.lemmas.Bool.Decides.{nat_tests}

-- The numbers, from k on, whose marks are set.
abbrev pub numbers_from : ℕ → List Bool → List ℕ
numbers_from k [] = []
numbers_from k (true ∷ marks) = k ∷ numbers_from (suc k) marks
numbers_from k (false ∷ marks) = numbers_from (suc k) marks

-- The marks of n numbers from k on.
unfoldable pub marks_of : set.FinSet nat_cmp → ℕ → ℕ → List Bool
marks_of numbers k zero = []
marks_of numbers k (suc n) = set.contains numbers k ∷ marks_of numbers (suc k) n

-- whether q is one of the numbers, from k on, whose marks are set
abbrev is_marked : ℕ → List Bool → ℕ → Bool
is_marked k marks q = list_any (λ y. nat_eq y q) (numbers_from k marks)

other_number : (k q : ℕ) → k ≢ q → nat_eq k q ≡ false
other_number k q apart = grind (arith, nat_tests)

same_number : (k q : ℕ) → q ≡ k → nat_eq k q ≡ true
same_number k q same = grind (arith, nat_tests)

below_first : (k q : ℕ) (marks : List Bool) → q < k → is_marked k marks q ≡ false
below_first k q [] below = refl
below_first k q (true ∷ marks) below =
    ap (λ b. b || is_marked (suc k) marks q) (other_number k q (λ e. absurd (omega arith)))
    ∙ below_first (suc k) q marks (omega arith)
below_first k q (false ∷ marks) below = below_first (suc k) q marks (omega arith)

marked : (k i q : ℕ) (marks : List Bool) → q ≡ k + i → is_marked k marks q ≡ get_or marks i false
marked k i q [] is = refl
marked k zero q (true ∷ marks) is = ap (λ b. b || is_marked (suc k) marks q) (same_number k q (omega arith))
marked k zero q (false ∷ marks) is = below_first (suc k) q marks (omega arith)
marked k (suc i) q (true ∷ marks) is =
    ap (λ b. b || is_marked (suc k) marks q) (other_number k q (λ e. absurd (omega arith)))
    ∙ marked (suc k) i q marks (omega arith)
marked k (suc i) q (false ∷ marks) is = marked (suc k) i q marks (omega arith)

-- the set of the numbers whose marks are set
abbrev pub set_of : List Bool → set.FinSet nat_cmp
set_of marks = set.from_list (numbers_from 0 marks)

-- a number is in the set exactly where its mark is set
pub contains-marks : (marks : List Bool) (q : ℕ) → set.contains (set_of marks) q ≡ get_or marks q false
contains-marks marks q = set.contains-from_list_nat (numbers_from 0 marks) q ∙ marked 0 q q marks (omega arith)

marks_from : (numbers : set.FinSet nat_cmp) (k n : ℕ) (marks : List Bool) → length marks ≡ n
    → ((i : ℕ) → set.contains numbers (k + i) ≡ get_or marks i false) → marks_of numbers k n ≡ marks
unfolding marks_of
marks_from numbers k zero [] full each = refl
marks_from numbers k zero (mark ∷ marks) full each = absurd (omega arith)
marks_from numbers k (suc n) [] full each = absurd (omega arith)
marks_from numbers k (suc n) (mark ∷ marks) full each =
    let here : k ≡ k + 0 = omega arith in
    let there : (i : ℕ) → suc k + i ≡ k + suc i = λ i. omega arith in
    let first : set.contains numbers k ≡ mark = ap (set.contains numbers) here ∙ each 0 in
    let rest : marks_of numbers (suc k) n ≡ marks =
    marks_from numbers (suc k) n marks (omega arith) (λ i. ap (set.contains numbers) (there i) ∙ each (suc i)) in
    λ j. first j ∷ rest j

-- the marks of a set that was made of marks are these marks
pub marks_back : (marks : List Bool) (n : ℕ) → length marks ≡ n → marks_of (set_of marks) 0 n ≡ marks
marks_back marks n full =
    let here : (i : ℕ) → 0 + i ≡ i = λ i. omega arith in
    marks_from (set_of marks) 0 n marks full (λ i. ap (set.contains (set_of marks)) (here i) ∙ contains-marks marks i)
