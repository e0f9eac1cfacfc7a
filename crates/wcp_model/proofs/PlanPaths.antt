use Rattle.wcp_model.proofs.Words.{◌≡◌, ℕ, ◌<◌, ◌≤◌, List, [], ◌∷◌, length, get_or, slice_get, Some, ◌∙◌, ap, arith}
use Rattle.wcp_model.proofs.Words.{slice_get-get_or, slice_get_within, Parent, Root, Relay, IsPath}

pub slice_get_here : (parents : List Parent) (relay : ℕ) (parent d : Parent) → relay < length parents
    → get_or parents relay d ≡ parent → slice_get parents relay ≡ Some parent
slice_get_here parents relay parent d within here = slice_get-get_or parents relay d within ∙ ap Some here

-- a path begins at a relay
pub no_deep_path : (parents : List Parent) (relays : ℕ) (path : List ℕ) → length parents ≤ relays
    → ((relay : ℕ) (rest : List ℕ) → relay < relays → IsPath parents (relay ∷ rest) → length (relay ∷ rest) ≤ 8)
    → IsPath parents path → ¬ (8 < length path)
no_deep_path parents relays [] all short is_path deep = is_path
no_deep_path parents relays (relay ∷ []) all short is_path deep =
    omega (arith, short relay [] (omega (arith, slice_get_within parents relay Root is_path)) is_path)
no_deep_path parents relays (relay ∷ above ∷ path) all short is_path deep = omega (
  arith,
  short relay (above ∷ path) (omega (arith, slice_get_within parents relay (Relay above) is_path.0)) is_path,
)
