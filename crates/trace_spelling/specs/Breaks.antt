-- The ends of lines that an expression names.
use Rattle.std.specs.Prelude.{ℕ, ◌+◌, ◌-◌, ◌^◌, ◌==◌, ◌&&◌, min, Bool, false, not, List, [], ◌∷◌, Option, Some, None}
use Rattle.std.specs.Prelude.{if◌then◌else◌}

-- Whether a byte ends a line: `n` behind a backslash, and else LF.
abbrev pub is_break : Bool → ℕ → Bool
is_break escaped byte = byte == (if escaped then 110 else 10)

-- Whether a byte is a backslash that begins an escape.
abbrev pub begins_escape : Bool → ℕ → Bool
begins_escape escaped byte = not escaped && byte == 92

-- How many ends of lines bytes name, by whether a backslash stands before them.
unfoldable pub breaks : Bool → List ℕ → ℕ
breaks escaped [] = 0
breaks escaped (byte ∷ bytes) = (if is_break escaped byte then 1 else 0) + breaks (begins_escape escaped byte) bytes

-- How many lines an event has: as many as were said, and else one more than the expression names ends of lines.
abbrev pub lines_said : Option ℕ → List ℕ → ℕ
lines_said (Some lines) expression = lines
lines_said None expression = min (breaks false expression + 1) (2 ^ 64 - 1)
