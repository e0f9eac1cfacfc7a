-- How much of a line is left behind its first words.
use Rattle.wcp_script.proofs.Words.{ℕ, ◌+◌, List, length, Option, Some, None}
use Rattle.std.specs.Borrow.{Bor}

abbrev pub bytes_left : Option (Bor (List ℕ)) → ℕ
bytes_left None = 0
bytes_left (Some words) = length words.now + 1
