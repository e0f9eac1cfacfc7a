-- Which lines of a log are given to a rewriter.
use Rattle.std.specs.Prelude.{ℕ, ◌+◌, ◌&&◌, Bool, false, List, [], ◌∷◌, length, take, nat_lt, nat_le, Option}
use Rattle.std.specs.Prelude.{if◌then◌else◌}
use Rattle.std.specs.Option.{option_map_or}
use Rattle.wcp_io.specs.Reader.{most_given}
use Rattle.trace_log.specs.Event.{most_bytes}
use Rattle.trace_rewrite.specs.Saying.{Saying}

-- The last line that is read is among so many, if there is a last one.
abbrev pub is_last : Option ℕ → ℕ → Bool
is_last last count = option_map_or (λ last. nat_le last count) last false

-- A line and those behind it: none where it's too long.
abbrev pub up_to_long : List ℕ → List (List ℕ) → List (List ℕ)
up_to_long line others = if nat_le (length line) most_bytes then line ∷ others else line ∷ []

-- The lines that are read, behind so many: none behind the last one, and none behind one that is too long. Of that
-- one the front is read.
unfoldable pub read_lines : Option ℕ → ℕ → List (List ℕ) → List (List ℕ)
read_lines last count [] = []
read_lines last count (line ∷ lines) =
    if is_last last count then [] else up_to_long (take most_given line) (read_lines last (count + 1) lines)

-- What is said of lines that are read, behind so many: nothing of those before the first that is given, unless one is
-- too long.
unfoldable pub said_from : Saying → ℕ → ℕ → List (List ℕ) → List ℕ
said_from say first count [] = say (count + 1) []
said_from say first count (line ∷ lines) =
    if nat_lt (count + 1) first && nat_le (length line) most_bytes then said_from say first (count + 1) lines
    else say (count + 1) (line ∷ lines)
