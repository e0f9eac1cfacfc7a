use Rattle.std.specs.Prelude.{◌==◌, ℕ, List, [], ◌∷◌, ◌++◌, if◌then◌else◌}
use Rattle.wcp_clock.specs.declared.note.Note.{Note}

-- The notes of each process that were put on its link, with one more of a process.
abbrev pub put_more : (ℕ → List Note) → ℕ → Note → ℕ → List Note
put_more put p note q = if q == p then put q ++ note ∷ [] else put q
