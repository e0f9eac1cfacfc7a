use Rattle.std.specs.Prelude.{◌≡◌, ℕ, Bool, true, List, [], ◌∷◌, ◌++◌}
use Rattle.std.specs.Ordering.{nat_cmp}
use Rattle.std.specs.FinSet as set
use Rattle.wcp_model.specs.LaneRule.{IsNext, items_from}

-- An item may follow these if it is of one of the numbers, and the next one after those of its origin.
pub record MayFollow {I : Type 0} (origin place : I → ℕ) (is_last : I → Bool)
    (numbers : set.FinSet nat_cmp) (before : List I) (item : I) : Type 0 where
  pub owned : set.contains numbers (origin item) ≡ true
  pub next : IsNext place is_last (items_from origin (origin item) before) item

-- Items may follow these if the first of them may, and then the others after it.
abbrev pub AllMayFollow : {I : Type 0} → (I → ℕ) → (I → ℕ) → (I → Bool)
    → set.FinSet nat_cmp → List I → List I → Type 0
AllMayFollow origin place is_last numbers before [] = Unit {0}
AllMayFollow origin place is_last numbers before (item ∷ items) =
    MayFollow origin place is_last numbers before item
    × AllMayFollow origin place is_last numbers (before ++ item ∷ []) items
