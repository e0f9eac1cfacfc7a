-- What a reader of lines has left to give, and what giving one line takes from it.
use Rattle.std.specs.Prelude.{◌≡◌, ℕ, ◌≤◌, List, ◌∷◌, ◌++◌, Option, IfSome, length}
use Rattle.std.specs.Io.KnownBytes.{prepend_known, Consumes}
use Rattle.wcp_io.specs.declared.line_reader.LineReader.{LineReader}
use Rattle.wcp_io.specs.Lines.{lines_of}

-- The most bytes of a line that are given.
abbrev pub most_given : ℕ
most_given = 65537

-- The bytes that wait: those that were read ahead and that no line has taken.
abbrev pub waiting : LineReader → List ℕ
waiting reader = reader.ahead

-- The bytes that are left: those that wait, and then those of the input, where they are known.
abbrev pub left : LineReader → Option (List ℕ) → Option (List ℕ)
left reader input = prepend_known (waiting reader) input

-- The line is the first one of the bytes, and the rest has the others; or it is the front of the first one, which is
-- too long to be given whole.
pub data IsFirst (bytes line rest : List ℕ) : Type 0 where
  Whole : lines_of bytes ≡ line ∷ lines_of rest → IsFirst bytes line rest
  Prefix : (more : List ℕ) (later : List (List ℕ)) → lines_of bytes ≡ (line ++ more) ∷ later
      → length line ≡ most_given → bytes ≡ line ++ rest → IsFirst bytes line rest

-- The first line of what was left was given.
pub record Gives (left left_after : Option (List ℕ)) (line : List ℕ) : Type 0 where
  pub within : length line ≤ most_given
  pub taken : List ℕ
  pub consumed : Consumes left left_after taken
  pub first : IfSome left (λ bytes. IfSome left_after (λ rest. IsFirst bytes line rest))
