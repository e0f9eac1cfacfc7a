use Rattle.std.specs.Prelude.{◌≡◌, ℕ, true, is_some, slice_index_or, None}
use Rattle.wcp_model.specs.Cut.{Intervals}

-- The cut names a state of process p.
abbrev pub Names : Intervals → ℕ → Type 0
Names cut p = is_some (slice_index_or cut p None) ≡ true
