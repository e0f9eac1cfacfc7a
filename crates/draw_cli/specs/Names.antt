use Rattle.std.specs.Prelude.{◌≡◌, ◌≢◌, ◌⊎◌, ◌<◌, ℕ, List, [], length, map, All, Contains, Option, None, Some}
use Rattle.std.specs.Borrow.{Bor}
use Rattle.std.specs.List.{join_with_byte}
use Rattle.std.specs.Str.Iter.{LacksByte}

-- Texts that are borrowed.
abbrev pub seen : List (Bor (List ℕ)) → List (List ℕ)
seen texts = map (λ text. text.now) texts

-- The texts that stand between the commas of a list.
pub record AreParts (list : List ℕ) (parts : List (List ℕ)) : Type 0 where
  pub some : 0 < length parts
  pub joined : join_with_byte 44 parts ≡ list
  pub plain : All (LacksByte 44) parts

-- There are names for n processes: those that a list has, none of them empty; or there is no list, and they are
-- numbered.
abbrev pub IsNamed : Option (List ℕ) → ℕ → Type 0
IsNamed None n = Unit {0}
IsNamed (Some list) n = (parts : List (List ℕ)) × AreParts list parts × (length parts ≡ n)
    × All (λ part. part ≢ []) parts

-- A list has another number of names than there are processes, or an empty one.
abbrev pub IsMisnamed : Option (List ℕ) → ℕ → Type 0
IsMisnamed None n = ⊥
IsMisnamed (Some list) n = (parts : List (List ℕ)) × AreParts list parts
    × ((length parts ≢ n) ⊎ Contains parts [])
