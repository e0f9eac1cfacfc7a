-- How a text falls into lines.
use Rattle.std.specs.Prelude.{ℕ, ◌==◌, List, [], ◌∷◌, if◌then◌else◌}

-- LF, which ends a line.
abbrev pub line_feed : ℕ
line_feed = 10

-- A byte at the front of the first line.
abbrev pub put_in_front : ℕ → List (List ℕ) → List (List ℕ)
put_in_front byte [] = (byte ∷ []) ∷ []
put_in_front byte (line ∷ lines) = (byte ∷ line) ∷ lines

-- The lines of a text, each without its LF. What stands after the last LF is a line, unless it is empty.
unfoldable pub lines_of : List ℕ → List (List ℕ)
lines_of [] = []
lines_of (byte ∷ bytes) = if byte == line_feed then [] ∷ lines_of bytes else put_in_front byte (lines_of bytes)
