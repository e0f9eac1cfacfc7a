use Rattle.std.proofs.Common.{List, ◌∷◌, ◌++◌, sym, ap, ◌∙◌, append_assoc}
use mathlib.Core.List.{IsPrefix}

-- what stands at the front of a list stands at the front of a longer one
pub prefix_of_longer : {A : Type 0} (front list longer : List A) (first : A) → IsPrefix front (first ∷ list)
    → IsPrefix list longer → IsPrefix front (first ∷ longer)
prefix_of_longer front list longer first (rest, whole) (more, grown) = (
  rest ++ more,
  sym (append_assoc front rest more) ∙ ap (λ items. items ++ more) whole ∙ ap (λ items. first ∷ items) grown,
)
