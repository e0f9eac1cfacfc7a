-- How a text stands in lines and a line in words, how they are split again, and which words are numbers.
use Rattle.std.specs.Prelude.{◌==◌, ◌&&◌, ◌^◌, ℕ, Bool, true, false, List, [], ◌∷◌, ◌++◌, length, nat_lt, Option, Some}
use Rattle.std.specs.Prelude.{None, if◌then◌else◌}
use Rattle.std.specs.List.{flat_map, slice_split}
use Rattle.std.specs.Str.{bytes_eq}
use Rattle.std.specs.Str.Parse.{digits_value}
use Rattle.std.specs.Fmt.{decimal}

-- A word, byte by byte.
abbrev pub Word : Type 0
Word = List ℕ

-- The bytes between the words of a line and after each line: a space and a line feed (LF).
abbrev pub space : ℕ
space = 32

abbrev pub line_feed : ℕ
line_feed = 10

-- The words of a line stand with a space between each two, and a LF ends the line.
abbrev pub line_text : List Word → List ℕ
line_text [] = line_feed ∷ []
line_text (word ∷ []) = word ++ line_feed ∷ []
line_text (word ∷ next ∷ words) = word ++ space ∷ line_text (next ∷ words)

-- The lines of a text stand one after the other.
abbrev pub text_of : List (List Word) → List ℕ
text_of lines = flat_map line_text lines

-- A line that was split off a text: its bytes, and whether its LF follows them.
pub record TextLine : Type 0 where
  pub bytes : List ℕ
  pub ended : Bool

-- Of the parts between line feeds each but the last is a line; the last, if it isn't empty, is a line that lacks its
-- LF.
abbrev pub lines_among : List (List ℕ) → List TextLine
lines_among [] = []
lines_among (last ∷ []) = if length last == 0 then [] else record { bytes = last; ended = false } ∷ []
lines_among (part ∷ next ∷ parts) = record { bytes = part; ended = true } ∷ lines_among (next ∷ parts)

-- The lines of a text.
unfoldable pub lines_of : List ℕ → List TextLine
lines_of text = lines_among (slice_split (λ byte. byte == line_feed) text)

-- The words of a line: it's split at each space, so that two spaces have an empty word between them.
unfoldable pub words_of : List ℕ → List (List ℕ)
words_of line = slice_split (λ byte. byte == space) line

-- The number that a word is: the one below 2 ^ 32 whose decimal text it is, so without leading zeros.
unfoldable pub number_spelled : List ℕ → Option ℕ
number_spelled word =
    let value = digits_value 10 word in
    if nat_lt value (2 ^ 32) && bytes_eq word (decimal value) then Some value else None
