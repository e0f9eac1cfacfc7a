use Rattle.std.proofs.Common.{◌≡◌, ℕ, ◌+◌, ◌<◌, ◌||◌, Bool, true, false, nat_eq, List, [], ◌∷◌, All, length, take}
use Rattle.std.proofs.Common.{get_or, ap, sym, ◌∙◌, arith}
use Rattle.std.proofs.lemmas.Bool.Decides.{nat_tests}
use Rattle.std.proofs.lemmas.List.Elements.{All-head, All-tail}
use Rattle.std.proofs.lemmas.List.Folds.{list_any_more}
use Rattle.std.specs.FinSet as set
use Rattle.std.specs.Ordering.{nat_cmp}
use Rattle.std.specs.List.{list_any}
use Rattle.wcp_clock.proofs.Marks.{contains_with}
use Rattle.wcp_clock.specs.ProcessNumbers.{NumberSet}
use Rattle.wcp_c.specs.Checkers.{IsSetOf, NamesProcesses}
use Rattle.wcp_model.specs.Watched.{AreSomeWatched}

-- no number is in the empty set
pub none_yet : (p : ℕ) → set.contains (set.empty {R = nat_cmp}) p ≡ false
none_yet p = set.contains-empty nat_cmp p

swapped : (p number : ℕ) (others : Bool) → (nat_eq p number || others) ≡ (others || nat_eq number p)
swapped p number others = grind (arith, nat_tests)

-- a set with one number more
pub members_more : (numbers : List ℕ) (i : ℕ) (members : NumberSet) → i < length numbers
    → ((p : ℕ) → set.contains members p ≡ list_any (λ number. nat_eq number p) (take i numbers))
    → (p : ℕ) → set.contains (set.insert members (get_or numbers i 0)) p ≡ list_any (λ number. nat_eq number p)
    (take (i + 1) numbers)
members_more numbers i members inside so_far p =
    contains_with members (get_or numbers i 0) p ∙ ap (λ others. nat_eq p (get_or numbers i 0) || others) (so_far p)
    ∙ swapped p (get_or numbers i 0) (list_any (λ number. nat_eq number p) (take i numbers))
    ∙ sym (list_any_more (λ number. nat_eq number p) numbers i 0 inside)

one_of : (number n p : ℕ) (others : Bool) → number < n → (others ≡ true → p < n) → (nat_eq number p || others) ≡ true
    → p < n
one_of number n p others first rest is = grind (arith, nat_tests)

itself : (number : ℕ) (others : Bool) → (nat_eq number number || others) ≡ true
itself number others = grind (arith, nat_tests)

below : (numbers : List ℕ) (n p : ℕ) → All (λ number. number < n) numbers
    → list_any (λ number. nat_eq number p) numbers ≡ true → p < n
below [] n p each is = grind arith
below (number ∷ numbers) n p each is =
    one_of number n p (list_any (λ number. nat_eq number p) numbers) (All-head (λ x. x < n) number numbers each)
    (below numbers n p (All-tail (λ x. x < n) number numbers each)) is

first_is : (numbers : List ℕ) → 0 < length numbers → (p : ℕ) × (list_any (λ number. nat_eq number p) numbers ≡ true)
first_is [] some = absurd (omega arith)
first_is (number ∷ numbers) some = (number, itself number (list_any (λ other. nat_eq other number) numbers))

-- the processes that are named are some of them
pub some_named : (n : ℕ) (numbers : List ℕ) (members : NumberSet) → NamesProcesses n numbers → IsSetOf numbers members
    → AreSomeWatched n members
some_named n numbers members named is =
    let first = first_is numbers named.some in
    record { some = (first.0, is first.0 ∙ first.1); within = λ p has. below numbers n p named.each (sym (is p) ∙ has) }
