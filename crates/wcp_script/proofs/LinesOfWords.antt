-- Lines of words that are written as a text are split into these lines and words again.
use Rattle.wcp_script.proofs.Words.{◌≡◌, ℕ, ◌^◌, ◌<◌, true, false, eqb, not, ◌&&◌, Bool, List, [], ◌∷◌, ◌++◌, All, Ok}
use Rattle.wcp_script.proofs.Words.{refl, ◌∙◌, append_assoc, arith, join_with_byte, list_all, AllByRecursion, decimal}
use Rattle.wcp_script.proofs.Words.{and_parts, ne_eqb, not-true, digits_decimal, get_or_default, All-append, All-cons}
use Rattle.wcp_script.proofs.Words.{All-nil, slice_split_at, slice_split_none, AllPass-from_list_all, not_in_digits}
use Rattle.wcp_script.proofs.Words.{TextLine, Word, line_text, number_in}
use Rattle.std.specs.Int.{IsInRange}
use Rattle.wcp_script.specs.Lines.{lines_of, words_of}
use Rattle.wcp_script.proofs.Splits.{lines_after}
use Rattle.wcp_script.proofs.Numbers.{own, number_spelled-decimal}

-- A word has neither a space nor a LF.
abbrev is_inner : ℕ → Bool
is_inner byte = not (eqb byte 32) && not (eqb byte 10)

abbrev pub IsWord : Word → Type 0
IsWord word = All (λ byte. is_inner byte ≡ true) word

pub IsWord-literal : (word : Word) → list_all is_inner word ≡ true → IsWord word
IsWord-literal word each = AllPass-from_list_all is_inner word each

-- A byte that is no digit isn't in a number.
pub lacks-decimal : (byte n : ℕ) → n < 2 ^ 32 → (IsInRange 48 57 byte → ⊥)
    → All (λ other. eqb other byte ≡ false) (decimal n)
lacks-decimal byte n small out = λ k d lt.
    ne_eqb _ byte (λ e. not_in_digits own (decimal n) byte (digits_decimal own n (omega arith)) out k lt
    (get_or_default (decimal n) k 0 d lt ∙ e))

pub IsWord-decimal : (n : ℕ) → n < 2 ^ 32 → IsWord (decimal n)
IsWord-decimal n small = grind (arith, lacks-decimal)

pub number_in-decimal : (n : ℕ) → n < 2 ^ 32 → number_in (decimal n) ≡ Ok n
number_in-decimal n small = rw (number_spelled-decimal n small) refl

lacks_space : (word : Word) → IsWord word → All (λ byte. eqb byte 32 ≡ false) word
lacks_space word is = λ k d lt. not-true _ (and_parts _ _ (is k d lt)).0

lacks_feed : (word : Word) → IsWord word → All (λ byte. eqb byte 10 ≡ false) word
lacks_feed word is = λ k d lt. not-true _ (and_parts _ _ (is k d lt)).1

-- ---- words

pub words_of-joined : (word : Word) (words : List Word) → AllByRecursion IsWord (word ∷ words)
    → words_of (join_with_byte 32 (word ∷ words)) ≡ word ∷ words
unfolding words_of
words_of-joined word [] each = slice_split_none (λ byte. eqb byte 32) word (lacks_space word each.0)
words_of-joined word (next ∷ words) each =
    grind (arith, lacks_space, slice_split_at, words_of-joined next words each.1)

-- ---- lines

-- The line of these words as it is split off a text.
abbrev pub worded : List Word → TextLine
worded words = record { bytes = join_with_byte 32 words; ended = true }

line_text-joined : (words : List Word) (rest : List ℕ) → line_text words ++ rest ≡ join_with_byte 32 words ++ 10 ∷ rest
line_text-joined [] rest = refl
line_text-joined (word ∷ []) rest = append_assoc word (10 ∷ []) rest
line_text-joined (word ∷ next ∷ words) rest =
    grind (arith, append_assoc, line_text-joined (next ∷ words) rest)

joined_lacks_feed : (words : List Word) → AllByRecursion IsWord words
    → All (λ byte. eqb byte 10 ≡ false) (join_with_byte 32 words)
joined_lacks_feed [] each = All-nil (λ byte. eqb byte 10 ≡ false)
joined_lacks_feed (word ∷ []) each = lacks_feed word each.0
joined_lacks_feed (word ∷ next ∷ words) each =
    search (arith, lacks_feed word each.0, joined_lacks_feed (next ∷ words) each.1, All-append, All-cons, lacks_feed)

-- A text that begins with a line of words is split behind it.
pub lines_of-line_text : (words : List Word) (rest : List ℕ) → AllByRecursion IsWord words
    → lines_of (line_text words ++ rest) ≡ worded words ∷ lines_of rest
lines_of-line_text words rest each = grind (arith, joined_lacks_feed, line_text-joined, lines_after, slice_split_at)

pub lines_of_nothing : lines_of [] ≡ []
unfolding lines_of
lines_of_nothing = refl
