-- What is said of an event is read as that event.
use Rattle.std.proofs.Common.{◌≡◌, ◌^◌, ◌<◌, ◌≤◌, ℕ, zero, suc, Bool, true, false, List, [], ◌∷◌}
use Rattle.std.proofs.Common.{◌++◌, Some}
use Rattle.std.proofs.Common.{None, Ok, length, drop, refl, arith, add-one, length-append}
use Rattle.std.specs.Prelude.{◌==◌, ◌&&◌, nat_le, nat_lt, decimal}
use Rattle.std.specs.Char.{is_ascii_digit}
use Rattle.std.specs.List.{position_or_len}
use Rattle.std.specs.Str.{IsAscii, IsUtf8, is_utf8, all_ascii_digits}
use Rattle.std.proofs.lemmas.Bool.{le-leb, lt-ltb, lt-leb, eq-eqb}
use Rattle.std.proofs.lemmas.Bool.Decides.{nat_tests}
use Rattle.std.proofs.lemmas.Fmt.{decimal_is_IsNumeral, decimal_nonempty, IsAscii-decimal}
use Rattle.std.proofs.lemmas.Str.{IsUtf8-append, IsUtf8-from_ascii, is_utf8-from_IsUtf8}
use Rattle.std.proofs.Math.Seq.{take-append_seam}
use Rattle.json.specs.Json.{Json}
use Rattle.json.specs.Tree.{HasNumbers}
use Rattle.json.proofs.Printed.Trees.{document-print}
use Rattle.trace_log.proofs.Numbers.{own}
use Rattle.trace_log.specs.Event.{most_bytes, space}
use Rattle.trace_log.specs.Numbered.{fault_mark, most_lines}
unfoldable use Rattle.trace_log.specs.Numbered.{numbered_in, line_spelled, cut_at}
use Rattle.trace_rewrite.specs.Lines.{event_json, event_object, event_text, SaysEvent}

both_true : (a b : Bool) → (a && b) ≡ true → (a ≡ true) × (b ≡ true)
both_true true b is = (refl, is)
both_true false b is = cc

other : (digit mark : ℕ) → is_ascii_digit digit ≡ true → mark < 48 → (digit == mark) ≡ false
other digit mark is low = grind (arith, nat_tests)

-- A mark that is no digit stands behind digits.
marked : (mark : ℕ) (digits rest : List ℕ) → mark < 48 → all_ascii_digits digits ≡ true
    → position_or_len (λ byte. byte == mark) (digits ++ mark ∷ rest) ≡ length digits
marked mark [] rest low all = rw (eq-eqb mark mark refl) refl
marked mark (digit ∷ digits) rest low all =
    let both = both_true (is_ascii_digit digit) (all_ascii_digits digits) all in
    rw (other digit mark both.0 low, marked mark digits rest low both.1) (omega arith)

unmarked : (mark : ℕ) (digits : List ℕ) → mark < 48 → all_ascii_digits digits ≡ true
    → position_or_len (λ byte. byte == mark) digits ≡ length digits
unmarked mark [] low all = refl
unmarked mark (digit ∷ digits) low all =
    let both = both_true (is_ascii_digit digit) (all_ascii_digits digits) all in
    rw (other digit mark both.0 low, unmarked mark digits low both.1) (omega arith)

drop_seam : (mark : ℕ) (digits rest : List ℕ) → drop (suc (length digits)) (digits ++ mark ∷ rest) ≡ rest
drop_seam mark [] rest = refl
drop_seam mark (digit ∷ digits) rest = drop_seam mark digits rest

-- A text is cut at a mark behind digits.
cut_behind : (mark : ℕ) (digits rest : List ℕ) → mark < 48 → all_ascii_digits digits ≡ true
    → cut_at mark (digits ++ mark ∷ rest) ≡ Some (digits, rest)
unfolding cut_at
cut_behind mark digits rest low all =
    let within : length digits < length (digits ++ mark ∷ rest) =
    omega (arith, length-append digits (mark ∷ rest)) in
    rw (
      marked mark digits rest low all,
      lt-ltb (length digits) (length (digits ++ mark ∷ rest)) within,
      take-append_seam digits (mark ∷ rest),
      add-one,
      drop_seam mark digits rest,
    ) refl

not_cut : (mark : ℕ) (digits : List ℕ) → mark < 48 → all_ascii_digits digits ≡ true → cut_at mark digits ≡ None
unfolding cut_at
not_cut mark digits low all =
    rw (unmarked mark digits low all, lt-leb (suc (length digits)) (length digits) (omega arith)) refl

-- A number is spelled by its digits.
spelled : (number : ℕ) → number < 2 ^ 64 → line_spelled (decimal number) ≡ Some number
unfolding line_spelled
spelled number fits =
    let is = decimal_is_IsNumeral number fits in
    let digits : all_ascii_digits (decimal number) ≡ true = own.from (decimal number) is.0.1 in
    let some : nat_lt 0 (length (decimal number)) ≡ true = lt-ltb _ _ (decimal_nonempty number fits) in
    let few : nat_le number most_lines ≡ true = le-leb number most_lines (omega arith) in
    rw (some, digits, is.1, few) refl

numbered : (number : ℕ) (digits json : List ℕ) → length (digits ++ space ∷ json) ≤ most_bytes
    → is_utf8 (digits ++ space ∷ json) ≡ true → all_ascii_digits digits ≡ true → line_spelled digits ≡ Some number
    → numbered_in (digits ++ space ∷ json) ≡ Ok (record { number = number; says = Ok json })
unfolding numbered_in
numbered number digits json short utf8 all is =
    rw (
      le-leb (length (digits ++ space ∷ json)) most_bytes short,
      utf8,
      cut_behind space digits json (omega arith) all,
      not_cut fault_mark digits (omega arith) all,
      is,
    ) refl

space_is_ascii : IsAscii (space ∷ [])
space_is_ascii zero = omega arith
space_is_ascii (suc i) = omega arith

utf8_behind : (number : ℕ) (json : List ℕ) → number < 2 ^ 64 → IsUtf8 json → IsUtf8 (decimal number ++ space ∷ json)
utf8_behind number json fits utf8 =
    IsUtf8-append (decimal number) (space ∷ json) (IsUtf8-from_ascii (decimal number) (IsAscii-decimal number fits))
    (IsUtf8-append (space ∷ []) json (IsUtf8-from_ascii (space ∷ []) space_is_ascii) utf8)

-- What says an event is read as that event.
pub event_read : (number : ℕ) (host text : List ℕ) (clock : Json) → number < 2 ^ 64 → HasNumbers clock
    → IsUtf8 (event_json host clock text) → length (event_text number host clock text) ≤ most_bytes
    → SaysEvent number host clock text (event_text number host clock text)
event_read number host text clock fits has utf8 short =
    let json = event_json host clock text in
    let digits : all_ascii_digits (decimal number) ≡ true =
    own.from (decimal number) (decimal_is_IsNumeral number fits).0.1 in
    record {
      json = json;
      numbered = numbered number (decimal number) json short
          (is_utf8-from_IsUtf8 _ (utf8_behind number json fits utf8)) digits (spelled number fits);
      object = λ shallow. document-print (event_object host clock text) (tt, (has, (tt, tt))) (omega arith);
    }
