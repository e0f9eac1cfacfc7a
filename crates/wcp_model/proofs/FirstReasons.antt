-- The first reason of an ordered list, by what holds and by tests.
use Rattle.wcp_model.proofs.Words.{◌≡◌, ℕ, zero, suc, ◌<◌, Bool, true, false, IsTrue, None, Some, List, [], ◌∷◌}
use Rattle.wcp_model.proofs.Words.{slice_get, refl, ap, arith, same_Some, IsFirstReason, first_reason, FirstReasonLaw}

-- there is one first reason
pub first_unique : {R : Type 0} (Holds : R → Type 0) (reasons : List R) (one other : R)
    → IsFirstReason Holds reasons one → IsFirstReason Holds reasons other → one ≡ other
first_unique Holds reasons one other left right = grind (arith, same_Some)

-- the reason is the first of these by their tests
abbrev IsFirstByTests : {R : Type 0} → List (Bool × R) → R → Type 0
IsFirstByTests {R} reasons first = IsFirstReason (λ (reason : Bool × R). IsTrue reason.0) reasons (true, first)

first_behind : {R : Type 0} (reason first : R) (reasons : List (Bool × R)) → IsFirstByTests reasons first
    → IsFirstByTests ((false, reason) ∷ reasons) first
first_behind {R} reason first reasons later =
    record { place = suc later.place; listed = later.listed; holds = refl; none_before = none }
  where
    none : (earlier : ℕ) (other : Bool × R) → earlier < suc later.place
        → slice_get ((false, reason) ∷ reasons) earlier ≡ Some other → ¬ IsTrue other.0
    none zero other below at = grind arith
    none (suc earlier) other below at = later.none_before earlier other (omega arith) at

computed_is_first : {R : Type 0} (reasons : List (Bool × R)) (first : R) → first_reason reasons ≡ Some first
    → IsFirstByTests reasons first
computed_is_first [] first is = cc
computed_is_first ((true, reason) ∷ reasons) first is = record {
  place = 0;
  listed = ap (λ r. Some (true, r))
      (same_Some reason first is);
  holds = refl;
  none_before = λ earlier other below. absurd (omega arith);
}
computed_is_first ((false, reason) ∷ reasons) first is =
    first_behind reason first reasons (computed_is_first reasons first is)

first_is_computed : {R : Type 0} (reasons : List (Bool × R)) (first : R) (place : ℕ)
    → slice_get reasons place ≡ Some (true, first) → ((earlier : ℕ) (other : Bool × R) → earlier < place
    → slice_get reasons earlier ≡ Some other → ¬ IsTrue other.0) → first_reason reasons ≡ Some first
first_is_computed [] first place listed none = cc
first_is_computed ((true, reason) ∷ reasons) first zero listed none = grind arith
first_is_computed ((false, reason) ∷ reasons) first zero listed none = grind arith
first_is_computed ((true, reason) ∷ reasons) first (suc place) listed none =
    absurd (none 0 (true, reason) (omega arith) refl refl)
first_is_computed ((false, reason) ∷ reasons) first (suc place) listed none =
    first_is_computed reasons first place listed (λ earlier other below. none (suc earlier) other (omega arith))

-- of reasons with tests, the one that is computed is the first that holds
pub first_reason_is : {R : Type 0} → FirstReasonLaw R
first_reason_is reasons first =
    (computed_is_first reasons first, λ is. first_is_computed reasons first is.place is.listed is.none_before)

-- where none is computed, no test holds
pub none_holds : {R : Type 0} (list : List (Bool × R)) (i : ℕ) (reason : Bool × R) → slice_get list i ≡ Some reason
    → first_reason list ≡ None → reason.0 ≡ false
none_holds [] i reason at none = cc
none_holds ((true, other) ∷ list) i reason at none = cc
none_holds ((false, other) ∷ list) zero reason at none = grind arith
none_holds ((false, other) ∷ list) (suc i) reason at none = none_holds list i reason at none
