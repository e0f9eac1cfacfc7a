-- The numbers in the values at paths are numbers.
use Rattle.std.proofs.Common.{◌≡◌, List, ℕ, [], ◌∷◌, Option, Some, None, refl, subst}
use Rattle.std.specs.Prelude.{option_and_then}
use Rattle.json.specs.Json.{Json}
use Rattle.json.specs.Find.{get}
use Rattle.json.specs.Tree.{HasNumbers}
use Rattle.json.proofs.Numbered.{HasNumbers-get}
use Rattle.trace_spelling.specs.Fields.{Path, value_along, value_at, or_else}

same_value : (one part : Json) → ◌≡◌ {A = Option Json} (Some part) (Some one) → one ≡ part
same_value one part is = cc

further : (names : List (List ℕ)) (part : Json) (found : Option Json)
    → ((one : Json) → Some one ≡ found → HasNumbers one)
    → ((one : Json) → HasNumbers one → Some part ≡ value_along names one → HasNumbers part)
    → Some part ≡ option_and_then (value_along names) found → HasNumbers part
further names part None has on is = absurd (cc)
further names part (Some one) has on is = on one (has one refl) is

along : (names : List (List ℕ)) (value part : Json) → HasNumbers value → Some part ≡ value_along names value
    → HasNumbers part
along [] value part has is = subst HasNumbers (same_value value part is) has
along (name ∷ names) value part has is =
    further names part (get name value) (λ one found. HasNumbers-get name value one has found)
    (λ one numbers rest. along names one part numbers rest) is

either : (part : Json) (first second : Option Json) → ((one : Json) → Some one ≡ first → HasNumbers one)
    → (Some part ≡ second → HasNumbers part) → Some part ≡ or_else first second → HasNumbers part
either part None second has on is = on is
either part (Some one) second has on is = subst HasNumbers (same_value one part is) (has one refl)

pub at_path : (path : Path) (value part : Json) → HasNumbers value → Some part ≡ value_at path value → HasNumbers part
at_path path value part has is =
    either part (get path.whole value) (value_along path.names value)
    (λ one found. HasNumbers-get path.whole value one has found) (along path.names value part has) is
