-- The ends of parts.
use Rattle.std.specs.Prelude.{◌≡◌, ℕ, Some, List, length, slice_get}

-- Each of these ends is that of the part at its place.
pub record AreEndsOf {P E : Type 0} (IsEnd : P → E → Type 0) (parts : List P) (ends : List E) : Type 0 where
  pub count : length ends ≡ length parts
  pub each : (place : ℕ) (part : P) (end : E)
      → slice_get parts place ≡ Some part → slice_get ends place ≡ Some end → IsEnd part end
