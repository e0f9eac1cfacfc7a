-- A text that a look passed is the clock, as JSON has it.
use Rattle.std.proofs.Common.{◌≡◌, ◌∙◌, ◌<◌, ◌≤◌, ◌^◌, ℕ, true, List, [], ◌∷◌, ◌++◌, Some, Ok}
use Rattle.std.proofs.Common.{map, length, refl, sym, ap, arith, append_assoc, decimal, zero, suc}
use Rattle.std.proofs.Math.Dec.{leb}
use Rattle.std.proofs.lemmas.Bool.{le-leb, lt-ltb}
use Rattle.std.proofs.lemmas.Fmt.{digits_decimal, digits_value-decimal, decimal_digit}
use Rattle.std.specs.Option.{ok_or}
use Rattle.std.specs.Str.{all_ascii_digits}
use Rattle.std.specs.Str.Parse.{digits_value}
use Rattle.json.specs.Json.{number}
use Rattle.json.specs.Print.{escape}
use Rattle.json.specs.Spaced.{IsGap}
use Rattle.json.proofs.Printed.Decimals.{IsNumber-decimal}
use Rattle.trace_log.specs.Clock.{Member, most_number, are_distinct, has_distinct_names}
unfoldable use Rattle.trace_log.specs.Clock.{clock_of, number_spelled}
unfoldable use Rattle.trace_log.specs.Event.{clock_in_text}
use Rattle.trace_log.specs.declared.fault.LogFaultKind.TheVariants as kind
use Rattle.trace_log.specs.Event.{clock_in}
use Rattle.trace_log.specs.Fields.{members_from, Spells, IsField, AreFields}
use Rattle.trace_log.specs.Judgement.{◌>>=◌, ask}
use Rattle.trace_log.specs.Look.{IsMember, AreMembers, ArePlain}
use Rattle.trace_log.specs.PlainEvents.{clock_fields, clock_object}
use Rattle.trace_log.proofs.Numbers.{own}
use Rattle.trace_log.proofs.Objects.{field_names, object_spelled, digits_spelled, document_is}

abbrev names : List Member → List (List ℕ)
names clock = map (λ (m : Member). m.name) clock

field_is : (lead : ℕ) (first : Member) (text rest : List ℕ) → IsMember lead first.name first.number text rest
    → escape first.name ≡ first.name
    → IsField 0 lead (record { name = first.name; value = number (decimal first.number) }) text rest
field_is lead first text rest is plain = record {
  behind = is.between ++ (decimal first.number ++ rest);
  named = record { before = is.before; gap_before = is.gap_before; plain = plain; parts = is.parts };
  valued = record {
    spelled = is.between ++ decimal first.number;
    is = digits_spelled 0 is.between (decimal first.number) is.gap_between
        (IsNumber-decimal first.number (omega (arith, is.most)));
    parts = sym (append_assoc is.between (decimal first.number) rest);
  };
}

fields_are : (clock : List Member) (lead : ℕ) (text : List ℕ) → AreMembers lead clock text → ArePlain clock
    → AreFields 0 lead (clock_fields clock) text
fields_are [] lead text are plain = are
fields_are (first ∷ others) lead text are plain =
    (are.0, field_is lead first text are.0 are.1 plain.0, fields_are others 44 are.0 are.2 plain.1)

abbrev AreSmall : List Member → Type 0
AreSmall [] = Unit {0}
AreSmall (first ∷ others) = (first.number ≤ most_number) × AreSmall others

small_of : (clock : List Member) (lead : ℕ) (text : List ℕ) → AreMembers lead clock text → AreSmall clock
small_of [] lead text are = tt
small_of (first ∷ others) lead text are = (are.1.most, small_of others 44 are.0 are.2)

some_digit : (digits : List ℕ) (n : ℕ) → digits_value 10 digits ≡ suc n → 0 < length digits
some_digit [] n value = absurd (omega (arith, value))
some_digit (digit ∷ digits) n value = omega arith

spelled_if : (n : ℕ) (digits : List ℕ) → n ≤ most_number → 0 < length digits → all_ascii_digits digits ≡ true
    → digits_value 10 digits ≡ n → number_spelled digits ≡ Some n
unfolding number_spelled
spelled_if n digits small some are value =
    let few : leb (digits_value 10 digits) most_number ≡ true = le-leb _ _ (omega (arith, value, small)) in
    rw (lt-ltb 0 (length digits) some, are, few, value) refl

spelled_is : (n : ℕ) → n ≤ most_number → number_spelled (decimal n) ≡ Some n
spelled_is zero small =
    rw (decimal_digit 0 (omega arith)) (spelled_if 0 (48 ∷ []) (omega arith) (omega arith) refl refl)
spelled_is (suc n) small =
    let fits : suc n < 2 ^ 64 = omega (arith, small) in
    let value = digits_value-decimal own (suc n) fits in
    spelled_if (suc n) (decimal (suc n)) small (some_digit (decimal (suc n)) n value)
    (digits_decimal own (suc n) fits) value

clock_is : (clock : List Member) → AreSmall clock → clock_of (members_from (clock_fields clock)) ≡ Ok clock
unfolding clock_of
clock_is [] small = refl
clock_is (first ∷ others) small = rw (spelled_is first.number small.0, clock_is others small.1) refl

names_are : (clock : List Member) → field_names (clock_fields clock) ≡ names clock
names_are [] = refl
names_are (first ∷ others) = ap (λ l. first.name ∷ l) (names_are others)

-- A clock whose names stand once, behind a gap.
pub clock_object_spelled : (gap : List ℕ) (first : Member) (others : List Member) (text : List ℕ) → IsGap gap
    → AreMembers 123 (first ∷ others) text → ArePlain (first ∷ others) → are_distinct (names (first ∷ others)) ≡ true
    → Spells 1 (clock_object (first ∷ others)) (gap ++ text)
clock_object_spelled gap first others text is_gap are plain distinct =
    let clock = first ∷ others in
    object_spelled 0 gap _ (clock_fields others) text is_gap (fields_are clock 123 text are plain)
    (ap are_distinct (names_are clock) ∙ distinct)

-- It is that clock.
pub clock_in_object : (clock : List Member) (text : List ℕ) → AreMembers 123 clock text
    → clock_in (Some (clock_object clock)) ≡ Ok clock
clock_in_object clock text are = clock_is clock (small_of clock 123 text are)

-- A clock whose names stand once is read as JSON reads it.
pub clock_spelled : (first : Member) (others : List Member) (text : List ℕ) → AreMembers 123 (first ∷ others) text
    → ArePlain (first ∷ others) → are_distinct (names (first ∷ others)) ≡ true
    → clock_in_text text ≡ Ok (first ∷ others)
unfolding clock_in_text
clock_spelled first others text are plain distinct =
    let clock = first ∷ others in
    let spelled = clock_object_spelled [] first others text tt are plain distinct in
    ap (λ o. ok_or o kind.Clock >>= λ json. ask (has_distinct_names json) kind.Clock >>= λ _. clock_in (Some json))
    (document_is 1 (clock_object clock) text spelled (omega arith))
    ∙ ap (λ b. ask b kind.Clock >>= λ _. clock_in (Some (clock_object clock))) spelled.distinct
    ∙ clock_in_object clock text are
