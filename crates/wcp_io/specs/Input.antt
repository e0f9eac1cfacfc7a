use Rattle.std.specs.Prelude.{ℕ, ◌≤◌, List, Option, length}
use Rattle.std.specs.Io.KnownBytes.{Consumes, IsAtEnd}

-- The most bytes of a text that is read.
abbrev pub most_bytes : ℕ
most_bytes = 2097152

-- The most reads that take in a text, those counted too that were interrupted.
abbrev pub most_reads : ℕ
most_reads = 4194304

-- The most bytes that are read ahead of the lines, and wait to be taken: one read asks for so many.
abbrev pub most_waiting : ℕ
most_waiting = 65536

-- What is known of the bytes that a reader has left, or of those that a writer holds.
abbrev pub Known : Type 0
Known = Option (List ℕ)

-- The text is the whole input, and no longer than a text may be.
pub record IsInput (input input_after : Known) (text : List ℕ) : Type 0 where
  pub consumed : Consumes input input_after text
  pub ended : IsAtEnd input_after
  pub within : length text ≤ most_bytes
