-- The ends of the parts of one kind, each at the place of its number.
use Rattle.std.specs.Prelude.{◌≡◌, ◌≢◌, ℕ, ◌<◌, Option, Some, List, slice_get, All, AllPairs, Contains}

-- All these ends are of a watch, and no two have one number.
pub record AreOfWatch {E : Type 0} (watch_of place_of : E → ℕ) (watch : ℕ) (ends : List E) : Type 0 where
  pub same : All (λ end. watch_of end ≡ watch) ends
  pub apart : AllPairs (λ one other. place_of one ≢ place_of other) ends

-- This is one of these ends, and has this number.
abbrev pub IsEndAt : {E : Type 0} → (E → ℕ) → List E → ℕ → E → Type 0
IsEndAt place_of ends place end = Contains ends end × (place_of end ≡ place)

-- There is an end of each of the first numbers.
abbrev pub AreAllThere : {E : Type 0} → (E → ℕ) → ℕ → List E → Type 0
AreAllThere {E} place_of count ends = (place : ℕ) → place < count → (end : E) × IsEndAt place_of ends place end

-- This end sits at this place.
abbrev pub SitsAt : {E : Type 0} → List (Option E) → ℕ → E → Type 0
SitsAt seats place end = slice_get seats place ≡ Some (Some end)

-- Somebody sits at each of the first places.
abbrev pub AreAllSeated : {E : Type 0} → ℕ → List (Option E) → Type 0
AreAllSeated {E} count seats = (place : ℕ) → place < count → (end : E) × SitsAt seats place end

-- Just these ends sit each at the place of its number.
pub record AreSeats {E : Type 0} (place_of : E → ℕ) (ends : List E) (seats : List (Option E)) : Type 0 where
  pub seated : (place : ℕ) (end : E) → IsEndAt place_of ends place end → SitsAt seats place end
  pub own : (place : ℕ) (end : E) → SitsAt seats place end → IsEndAt place_of ends place end
