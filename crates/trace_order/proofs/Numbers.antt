-- The numbers of a clock, as a list.
use Rattle.trace_order.proofs.Words.{◌≡◌, ◌∙◌, ℕ, zero, suc, ◌+◌, ◌<◌, Bool, true, false, cond, max, List, [], ◌∷◌}
use Rattle.trace_order.proofs.Words.{◌++◌}
use Rattle.trace_order.proofs.Words.{length-set, length, set, refl, sym, ap, arith, slice_index, get_or-set_same}
use Rattle.trace_order.proofs.Words.{get_or-set_other}
use Rattle.std.proofs.Common.{nat_eq, eq-eqb}
use Rattle.std.proofs.lemmas.Bool.{eqb-true, eqb-false, ltb-true, ltb-false}
use Rattle.std.proofs.lemmas.Grind.{same_number_lists}
use Rattle.std.proofs.lemmas.List.{get_or_append_left, get_or_push, length_push}
use Rattle.std.proofs.Math.Dec.{ltb}
use Rattle.trace_order.specs.Clocks.{numbers_to, next_clock, next_number}

pub numbers_length : (number : ℕ → ℕ) (count : ℕ) → length (numbers_to number count) ≡ count
unfolding numbers_to
numbers_length number zero = refl
numbers_length number (suc count) =
    length_push (numbers_to number count) (number count) ∙ omega (arith, numbers_length number count)

number_at_end : (number : ℕ → ℕ) (count i : ℕ) → i < count + 1
    → (i < count → slice_index (numbers_to number count) i ≡ number i)
    → slice_index (numbers_to number count ++ number count ∷ []) i ≡ number i
number_at_end number count i within earlier = by_place (ltb i count) refl
  where
    many : length (numbers_to number count) ≡ count
    many = numbers_length number count

    by_place : (b : Bool) → ltb i count ≡ b
        → slice_index (numbers_to number count ++ number count ∷ []) i ≡ number i
    by_place true test =
        let before = ltb-true i count test in
        get_or_append_left (numbers_to number count) (number count ∷ []) 0 i (omega (arith, before, many))
        ∙ earlier before
    by_place false test =
        let past = ltb-false i count test in
        let here : i ≡ count = omega (arith, past, within) in
        get_or_push (numbers_to number count) (number count) 0 i (many ∙ sym here) ∙ ap number (sym here)

pub numbers_at : (number : ℕ → ℕ) (count i : ℕ) → i < count → slice_index (numbers_to number count) i ≡ number i
unfolding numbers_to
numbers_at number zero i within = absurd (omega (arith, within))
numbers_at number (suc count) i within =
    number_at_end number count i (omega (arith, within)) (numbers_at number count i)

-- A list with these numbers is theirs.
pub numbers_are : (clock : List ℕ) (number : ℕ → ℕ) (count : ℕ) → length clock ≡ count
    → ((i : ℕ) → i < length clock → slice_index clock i ≡ number i) → clock ≡ numbers_to number count
numbers_are clock number count many each =
    same_number_lists clock (numbers_to number count) (many ∙ sym (numbers_length number count))
    (λ i within. each i within ∙ sym (numbers_at number count i (omega (arith, within, many))))

-- The clock with one number changed.
set_number : (clock : List ℕ) (host value i : ℕ) → host < length clock
    → slice_index (set clock host value) i ≡ cond (nat_eq i host) value (slice_index clock i)
set_number clock host value i within = by_host (nat_eq i host) refl
  where
    by_host : (b : Bool) → nat_eq i host ≡ b
        → slice_index (set clock host value) i ≡ cond (nat_eq i host) value (slice_index clock i)
    by_host true same =
        ap (slice_index (set clock host value)) (eqb-true i host same)
        ∙ get_or-set_same clock host value 0 within ∙ rw same refl
    by_host false differ = get_or-set_other clock host i value 0 (eqb-false i host differ) ∙ rw differ refl

-- The clock of an event, counted up from the greatest of both.
pub counted_up : (before sender clock : List ℕ) (host value : ℕ) → host < length clock
    → length clock ≡ max (max (length before) (length sender)) (host + 1)
    → ((i : ℕ) → slice_index clock i ≡ max (slice_index before i) (slice_index sender i))
    → value ≡ slice_index clock host + 1 → set clock host value ≡ next_clock before sender host
unfolding next_clock
counted_up before sender clock host value within many greatest is =
    numbers_are (set clock host value) (next_number before sender host) _ (length_is ∙ many) each
  where
    length_is : length (set clock host value) ≡ length clock
    length_is = length-set clock host value

    each : (i : ℕ) → i < length (set clock host value)
        → slice_index (set clock host value) i ≡ next_number before sender host i
    each i there = set_number clock host value i within ∙ by_host (nat_eq i host) refl
      where
        by_host : (b : Bool) → nat_eq i host ≡ b
            → cond (nat_eq i host) value (slice_index clock i) ≡ next_number before sender host i
        by_host true same =
            rw same (is ∙ ap (λ k. slice_index clock k + 1) (sym (eqb-true i host same)) ∙ ap (λ n. n + 1) (greatest i))
        by_host false differ = rw differ (greatest i ∙ omega arith)

-- The number of the event's own host.
pub own_number : (before sender : List ℕ) (host : ℕ)
    → slice_index (next_clock before sender host) host ≡ max (slice_index before host) (slice_index sender host) + 1
unfolding next_clock
own_number before sender host =
    numbers_at (next_number before sender host) _ host (omega arith)
    ∙ ap (λ b. max (slice_index before host) (slice_index sender host) + cond b 1 0) (eq-eqb host host refl)
