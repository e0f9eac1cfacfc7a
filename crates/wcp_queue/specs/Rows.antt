use Rattle.std.specs.Prelude.{ℕ, suc, ◌==◌, List, [], ◌∷◌, filter, map, slice_get, slice_index, if◌then◌else◌}
use Rattle.std.specs.FinSet as set
use Rattle.std.specs.List.{range_with_len}
use Rattle.wcp_clock.specs.ProcessNumbers.{NumberSet}
use Rattle.wcp_clock.specs.declared.note.Item.{Item}
use Rattle.wcp_model.specs.Cut.{Intervals}
use Rattle.wcp_model.specs.Report.{clocks_taken}

-- A checker has a row of candidates for each watched process, by rising number.

-- The watched ones of n processes, by rising number.
abbrev pub members_of : ℕ → NumberSet → List ℕ
members_of n watched = filter (set.contains watched) (range_with_len 0 n)

-- The place of a process among these; where it isn't one of them, their number.
abbrev pub row_of : List ℕ → ℕ → ℕ
row_of [] p = 0
row_of (member ∷ members) p = if member == p then 0 else suc (row_of members p)

-- What a clock says of these processes.
abbrev pub known_of : List ℕ → List ℕ → List ℕ
known_of members clock = map (slice_index clock) members

-- The rows of candidates: of each of these processes the clocks taken of it, as far as they speak of these processes.
abbrev pub rows_of : List ℕ → List Item → ℕ → List (List ℕ)
rows_of members items row = map (known_of members) (clocks_taken (slice_index members row) items)

-- The cut of n processes that names, of each of these, the interval at its row.
abbrev pub cut_of : ℕ → List ℕ → List ℕ → Intervals
cut_of n members intervals = map (λ p. slice_get intervals (row_of members p)) (range_with_len 0 n)
