use Rattle.std.specs.Prelude.{◌≡◌, ◌==◌, ℕ, ◌<◌, Bool, false, List, ◌∷◌, ◌++◌, length, filter, All}
use Rattle.wcp_clock.specs.Limits.{most_processes}

-- A lane carries messages, each with one item or more, and an item has an origin, the number of a process: here are the
-- items of one origin among these, in order.
abbrev pub items_from : {I : Type 0} → (I → ℕ) → ℕ → List I → List I
items_from origin p items = filter (λ item. origin item == p) items

-- An item is the next one after these if its place is their number and none of them is a last one.
pub record IsNext {I : Type 0} (place : I → ℕ) (is_last : I → Bool) (before : List I) (item : I) : Type 0 where
  pub numbered : place item ≡ length before
  pub unended : All (λ earlier. is_last earlier ≡ false) before

-- Items are in sequence if each is the next one after those before it: their places are 0, 1, 2, .., and nothing
-- follows a last one.
abbrev pub AreInSequence : {I : Type 0} → (I → ℕ) → (I → Bool) → List I → Type 0
AreInSequence {I} place is_last items =
    (before : List I) (item : I) (behind : List I) → items ≡ before ++ item ∷ behind → IsNext place is_last before item

-- The lane rule, over the items that the taker took, the items in the lane, oldest first, and the items put of each
-- number: each item in the lane is of a number below 16, and the items taken of a number, followed by those of it in
-- the lane, are the items put, which are in sequence.
pub record LaneRule
    {I : Type 0} (origin place : I → ℕ) (is_last : I → Bool)
    (taken within : List I) (put : ℕ → List I) : Type 0 where
  pub numbered : All (λ item. origin item < most_processes) within
  pub whole : (p : ℕ) → p < most_processes → items_from origin p taken ++ items_from origin p within ≡ put p
  pub in_sequence : (p : ℕ) → p < most_processes → AreInSequence place is_last (put p)
