-- Which texts are numbers of a clock.
use Rattle.trace_log.proofs.Words.{◌≡◌, ◌≢◌, ℕ, ◌<◌, ◌≤◌, true, false, List, [], ◌∷◌, length, get_or, Some, None, Ok}
use Rattle.trace_log.proofs.Words.{Err}
use Rattle.trace_log.proofs.Words.{refl, arith, all_ascii_digits, most_number}
use Rattle.std.proofs.lemmas.Str.Parse.{IsNumeralModel, numerals_by_value, tells_all_ascii_digits, parse_plain}
use Rattle.std.specs.Str.Parse.{digits_value, ParsesUnsigned}
use Rattle.trace_log.specs.Clock.{number_spelled}
use Rattle.trace_log.specs.Numbered.{line_spelled}

pub own : IsNumeralModel (λ ds. all_ascii_digits ds ≡ true) (digits_value 10)
own = numerals_by_value _ tells_all_ascii_digits

-- What a parse gives of a text without a plus.
pub small_number : (text : List ℕ) (n : ℕ) → get_or text 0 0 ≢ 43 → ParsesUnsigned {E = ℕ} 32 10 text (Ok n)
    → n ≤ most_number → Some n ≡ number_spelled text
unfolding number_spelled
small_number text n plain parsed small =
    let is = parse_plain own {E = ℕ} 32 text (Ok n) parsed plain in
    grind arith

pub large_number : (text : List ℕ) (n : ℕ) → get_or text 0 0 ≢ 43 → ParsesUnsigned {E = ℕ} 32 10 text (Ok n)
    → most_number < n → None ≡ number_spelled text
unfolding number_spelled
large_number text n plain parsed large =
    let is = parse_plain own {E = ℕ} 32 text (Ok n) parsed plain in
    grind arith

pub no_number : (text : List ℕ) (e : ℕ) → get_or text 0 0 ≢ 43 → ParsesUnsigned {E = ℕ} 32 10 text (Err e)
    → None ≡ number_spelled text
unfolding number_spelled
no_number text e plain parsed =
    let not = parse_plain own {E = ℕ} 32 text (Err e) parsed plain in
    grind arith

pub no_plus : (text : List ℕ) → ((0 < length text) × (get_or text 0 0 ≡ 43) → ⊥) → get_or text 0 0 ≢ 43
no_plus [] none first = omega arith
no_plus (byte ∷ bytes) none first = none (omega arith, first)

-- A text that begins with a plus is none.
pub plus_is_none : (text : List ℕ) → 0 < length text → get_or text 0 0 ≡ 43 → None ≡ number_spelled text
unfolding number_spelled
plus_is_none [] some first = absurd (omega arith)
plus_is_none (byte ∷ bytes) some first =
    let none : all_ascii_digits (byte ∷ bytes) ≡ false = rw first refl in
    grind arith

-- The same of the numbers of lines.
pub is_line : (text : List ℕ) (n : ℕ) → get_or text 0 0 ≢ 43 → ParsesUnsigned {E = ℕ} 64 10 text (Ok n)
    → Some n ≡ line_spelled text
unfolding line_spelled
is_line text n plain parsed =
    let is = parse_plain own {E = ℕ} 64 text (Ok n) parsed plain in
    grind arith

pub is_no_line : (text : List ℕ) (e : ℕ) → get_or text 0 0 ≢ 43 → ParsesUnsigned {E = ℕ} 64 10 text (Err e)
    → None ≡ line_spelled text
unfolding line_spelled
is_no_line text e plain parsed =
    let not = parse_plain own {E = ℕ} 64 text (Err e) parsed plain in
    grind arith

pub plus_is_no_line : (text : List ℕ) → 0 < length text → get_or text 0 0 ≡ 43 → None ≡ line_spelled text
unfolding line_spelled
plus_is_no_line [] some first = absurd (omega arith)
plus_is_no_line (byte ∷ bytes) some first =
    let none : all_ascii_digits (byte ∷ bytes) ≡ false = rw first refl in
    grind arith
