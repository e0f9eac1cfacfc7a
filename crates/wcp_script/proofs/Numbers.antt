-- Which words are numbers.
use Rattle.wcp_script.proofs.Words.{◌≡◌, ℕ, ◌+◌, ◌*◌, ◌^◌, ◌<◌, ◌≤◌, List, ◌∷◌, ◌++◌, length, get_or, take, Option}
use Rattle.wcp_script.proofs.Words.{Some, None, MatchOption, refl, sym, ap, arith, digits_value, AllDigits, decimal}
use Rattle.wcp_script.proofs.Words.{bytes_eq-Decides, IsNumeralModel, numerals_by_value, tells_digits, digit_at}
use Rattle.wcp_script.proofs.Words.{digits_value-take-le, decimal_step, digits_decimal, digits_value-decimal}
use Rattle.wcp_script.proofs.Words.{decimal-digits_value, first_decimal, decimal_nonempty, decimal_digit}
use Rattle.wcp_script.proofs.Words.{digits_value_more, digit_value}
use Rattle.wcp_script.specs.Lines.{number_spelled}

pub own : IsNumeralModel (AllDigits 10) (digits_value 10)
own = numerals_by_value (AllDigits 10) tells_digits

-- A word is a number just where it's the decimal text of one below 2 ^ 32.
pub number_is : (word : List ℕ) (n : ℕ) → number_spelled word ≡ Some n → (word ≡ decimal n) × (n < 2 ^ 32)
unfolding number_spelled
number_is word n e = grind (arith, bytes_eq-Decides)

pub number_spelled-decimal : (n : ℕ) → n < 2 ^ 32 → number_spelled (decimal n) ≡ Some n
unfolding number_spelled
number_spelled-decimal n small = grind (arith, bytes_eq-Decides, digits_value-decimal, own)

none_unless : (word : List ℕ) (o : Option ℕ) → o ≡ number_spelled word → ((n : ℕ) → word ≡ decimal n → n < 2 ^ 32 → ⊥)
    → None ≡ o
none_unless word None e h = refl
none_unless word (Some n) e h = let is = number_is word n (sym e) in absurd (h n is.0 is.1)

pub no_number : (word : List ℕ) → ((n : ℕ) → word ≡ decimal n → n < 2 ^ 32 → ⊥) → None ≡ number_spelled word
no_number word h = none_unless word (number_spelled word) refl h

pub no_number_in_digits : (word : List ℕ) → (AllDigits 10 word → 2 ^ 32 ≤ digits_value 10 word)
    → None ≡ number_spelled word
no_number_in_digits word large = grind (arith, digits_decimal, digits_value-decimal, no_number, own)

decimal_zero : length (decimal 0) ≡ 1
decimal_zero = ap length (decimal_digit 0 (omega arith))

pub no_number_after_zero : (word : List ℕ) → get_or word 0 0 ≡ 48 → 2 ≤ length word → None ≡ number_spelled word
no_number_after_zero word first long = grind (arith, decimal_zero, first_decimal, no_number)

pub no_number_of_nothing : (word : List ℕ) → length word ≡ 0 → None ≡ number_spelled word
no_number_of_nothing word none =
    no_number word (λ n e small. absurd (omega (arith, none, ap length e, decimal_nonempty n (omega arith))))

pub number_from_digits : (word : List ℕ) (value : ℕ) → AllDigits 10 word → value ≡ digits_value 10 word → value < 2 ^ 32
    → 0 < length word → (get_or word 0 0 ≡ 48 → length word ≡ 1) → Some value ≡ number_spelled word
number_from_digits word value digits same small some canonical =
    grind (arith, decimal-digits_value own word digits some canonical, number_spelled-decimal value small)

pub no_digit : (ds : List ℕ) (i : ℕ) → i < length ds → (digit_value (get_or ds i 0) < 10 → ⊥) → AllDigits 10 ds → ⊥
no_digit ds i lt none digits = grind (arith, digit_at ds i digits lt)

pub too_large : (ds : List ℕ) (i value : ℕ) → i < length ds → value ≡ digits_value 10 (take i ds)
    → 2 ^ 32 ≤ value * 10 + digit_value (get_or ds i 0) → 2 ^ 32 ≤ digits_value 10 ds
too_large ds i value lt same large =
    omega (arith, digits_value_more 10 ds i lt, digits_value-take-le 10 ds (i + 1) (omega arith))

pub number_by_value : (word : List ℕ) (o : Option ℕ) → 0 < length word → ((1 < length word)
    × (get_or word 0 0 ≡ 48) → ⊥) → MatchOption o (AllDigits 10 word → 2 ^ 32 ≤ digits_value 10 word)
    (λ value. AllDigits 10 word × (value ≡ digits_value 10 word) × (value < 2 ^ 32)) → o ≡ number_spelled word
number_by_value word o some canonical h = grind (arith, no_number_in_digits, number_from_digits)

-- The text of a number of one digit, and of one from 10 to 19.
pub decimal_unit : (n : ℕ) (text rest : List ℕ) → text ≡ (48 + n) ∷ rest → n < 10 → text ≡ decimal n ++ rest
decimal_unit n text rest same small = rw (decimal_digit n small) same

pub decimal_teen : (n : ℕ) (text after rest : List ℕ) → text ≡ 49 ∷ after → after ≡ (48 + n) ∷ rest → n < 10
    → text ≡ decimal (10 + n) ++ rest
decimal_teen n text after rest same more small = grind (arith, decimal_digit, decimal_step)
