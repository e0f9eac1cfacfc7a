use Rattle.std.specs.Prelude.{◌≡◌, ◌==◌, ◌/◌, ◌%◌, ◌<◌, ℕ, zero, suc, Bool, true, List, length, slice_index}
use Rattle.std.specs.Prelude.{slice_index_or}
use Rattle.std.specs.FinSet as set
use Rattle.wcp_clock.specs.ProcessNumbers.{NumberSet}

-- A mask is a number that stands for a set of processes: bit p, counted from the lowest, says whether process p is one.
abbrev pub has_bit : ℕ → ℕ → Bool
has_bit mask zero = mask % 2 == 1
has_bit mask (suc p) = has_bit (mask / 2) p

abbrev pub IsSetOfMask : ℕ → NumberSet → Type 0
IsSetOfMask mask members = (p : ℕ) → set.contains members p ≡ has_bit mask p

-- It names some of n processes, and nobody else.
pub record IsMask (n mask : ℕ) : Type 0 where
  pub some : (p : ℕ) × (has_bit mask p ≡ true)
  pub within : (p : ℕ) → has_bit mask p ≡ true → p < n

-- The sets of masks, in their order.
pub record AreSetsOf (masks : List ℕ) (sets : List NumberSet) : Type 0 where
  pub as_many : length sets ≡ length masks
  pub each : (k : ℕ) → k < length masks → IsSetOfMask (slice_index masks k) (slice_index_or sets k set.empty)

-- The most questions that are asked of one checker.
abbrev pub most_questions : ℕ
most_questions = 1024
