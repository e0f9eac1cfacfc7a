-- What a rewriter says of the lines of a log.
use Rattle.std.specs.Prelude.{◌≡◌, ℕ, ◌+◌, List, [], ◌∷◌, ◌++◌}

-- What is said of lines, the first of which has this number, and of the log's end behind them.
abbrev pub Saying : Type 0
Saying = ℕ → List (List ℕ) → List ℕ

-- Of the line with this number a piece is said, which is added to these bytes; of the lines behind it then the rest.
pub record SaysLine (old new : Saying) (number : ℕ) (line before after : List ℕ) : Type 0 where
  pub piece : List ℕ
  pub added : after ≡ before ++ piece
  pub said : (lines : List (List ℕ)) → old number (line ∷ lines) ≡ piece ++ new (number + 1) lines

-- What is said of the log's end is added to these bytes.
abbrev pub SaysEnd : Saying → List ℕ → List ℕ → Type 0
SaysEnd saying before after = (number : ℕ) → after ≡ before ++ saying number []

-- The same is said.
abbrev pub SaysSame : Saying → Saying → Type 0
SaysSame old new = (number : ℕ) (lines : List (List ℕ)) → new number lines ≡ old number lines

-- The same is said of the line with this number and those behind it.
abbrev pub SaysAgain : Saying → Saying → ℕ → List ℕ → Type 0
SaysAgain old new number line = (lines : List (List ℕ)) → new number (line ∷ lines) ≡ old number (line ∷ lines)
