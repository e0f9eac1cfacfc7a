use Rattle.std.specs.Prelude.{◌≡◌, ◌≢◌, ℕ, ◌<◌, ◌≤◌, max, Bool, true, false, List, length, replicate, slice_index}
use Rattle.std.specs.Prelude.{slice_index_or, Option, Some, None, if◌then◌else◌}
use Rattle.wcp_clock.specs.Limits.{most_processes}
use Rattle.wcp_queue.specs.declared.floor.Floor.{Floor}

-- Component p of the floor, and whether process p has a head.
abbrev pub component : Floor → ℕ → ℕ
component floor p = slice_index floor.components p

abbrev pub has_head : Floor → ℕ → Bool
has_head floor p = slice_index_or floor.heads p false

-- The interval of the head of process p, if it has one.
abbrev pub head_of : Floor → ℕ → Option ℕ
head_of floor p = if has_head floor p then Some (component floor p) else None

-- The floor before there was a head.
abbrev pub first_floor : Floor
first_floor = record {
  components = replicate most_processes 0;
  heads = replicate most_processes false;
  tests = 0;
}

-- Each of n processes has a head.
abbrev pub HaveHeads : ℕ → Floor → Type 0
HaveHeads n floor = (p : ℕ) → p < n → has_head floor p ≡ true

-- The cut of the heads: each of n processes has one, whose own component, the floor's, is the cut's member (Garg and
-- Waldecker 1994).
pub record IsCutOfHeads (n : ℕ) (floor : Floor) (cut : List ℕ) : Type 0 where
  pub members : length cut ≡ n
  pub heads : HaveHeads n floor
  pub own : (p : ℕ) → p < n → slice_index cut p ≡ component floor p

-- For each other process than p, the component of the floor and whether there is a head are the same.
abbrev pub IsSameBut : ℕ → Floor → Floor → Type 0
IsSameBut p old new =
    (q : ℕ) → q ≢ p → (component new q ≡ component old q) × (has_head new q ≡ has_head old q)

-- The floor at process q becomes the greater of what it was and what is known of q: where it rises, the head of q
-- precedes the snapshot that knows more, and is dropped.
pub record RisesTo (q known : ℕ) (old new : Floor) : Type 0 where
  pub maximum : component new q ≡ max (component old q) known
  pub dropped : component old q < known → has_head new q ≡ false
  pub kept : known ≤ component old q → has_head new q ≡ has_head old q

-- The floor rises at each of n processes but p to what a clock knows of that one.
abbrev pub Rises : ℕ → ℕ → List ℕ → Floor → Floor → Type 0
Rises n p clock old new = (q : ℕ) → q < n → q ≢ p → RisesTo q (slice_index clock q) old new

-- A snapshot of p becomes its head, and the floor, which was not above it, becomes the greater of what it was and the
-- snapshot's clock.
pub record RaisesFloor (n p : ℕ) (clock : List ℕ) (old new : Floor) : Type 0 where
  pub reached : 1 < n → component old p ≤ slice_index clock p
  pub head : has_head new p ≡ true
  pub own : component new p ≡ slice_index clock p
  pub rises : (q : ℕ) → q < n → q ≢ p → RisesTo q (slice_index clock q) old new
