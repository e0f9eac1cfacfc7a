-- Which words are numbers of lines.
use Rattle.std.proofs.Common.{◌≡◌, ◌≢◌, ℕ, ◌<◌, ◌≤◌, false, List, [], ◌∷◌, length, get_or, Some, None, Ok, Err}
use Rattle.std.proofs.Common.{refl, arith}
use Rattle.std.specs.Str.{all_ascii_digits}
use Rattle.std.specs.Str.Parse.{ParsesUnsigned}
use Rattle.std.proofs.lemmas.Str.Parse.{parse_plain}
use Rattle.trace_log.proofs.Numbers.{own}
use Rattle.trace_words.specs.Options.{line_said}

-- What a parse gives of a word without a plus.
pub is_line : (word : List ℕ) (n : ℕ) → get_or word 0 0 ≢ 43 → ParsesUnsigned {E = ℕ} 64 10 word (Ok n)
    → 1 ≤ n → Some n ≡ line_said word
unfolding line_said
is_line word n plain parsed some =
    let is = parse_plain own {E = ℕ} 64 word (Ok n) parsed plain in
    grind arith

pub zero_is_none : (word : List ℕ) (n : ℕ) → get_or word 0 0 ≢ 43 → ParsesUnsigned {E = ℕ} 64 10 word (Ok n)
    → n < 1 → None ≡ line_said word
unfolding line_said
zero_is_none word n plain parsed zero =
    let is = parse_plain own {E = ℕ} 64 word (Ok n) parsed plain in
    grind arith

pub no_line : (word : List ℕ) (e : ℕ) → get_or word 0 0 ≢ 43 → ParsesUnsigned {E = ℕ} 64 10 word (Err e)
    → None ≡ line_said word
unfolding line_said
no_line word e plain parsed =
    let not = parse_plain own {E = ℕ} 64 word (Err e) parsed plain in
    grind arith

-- A word that begins with a plus is none.
pub plus_is_none : (word : List ℕ) → 0 < length word → get_or word 0 0 ≡ 43 → None ≡ line_said word
unfolding line_said
plus_is_none [] some first = absurd (omega arith)
plus_is_none (byte ∷ bytes) some first =
    let none : all_ascii_digits (byte ∷ bytes) ≡ false = rw first refl in
    grind arith
