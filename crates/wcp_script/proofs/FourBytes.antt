-- Four bytes and the number that they are.
use Rattle.wcp_script.proofs.Words.{◌≡◌, ℕ, ◌<◌, ◌≤◌, List, [], ◌∷◌, ◌++◌, length, get_or, take, refl, sym, ap, ◌∙◌}
use Rattle.wcp_script.proofs.Words.{arith}
use Rattle.std.proofs.Common.{zero, suc, drop, w32}
use Rattle.std.specs.Int.{from_le_bytes}
use Rattle.std.proofs.lemmas.Nat.{le_bytes_4}
use Rattle.std.proofs.lemmas.List.{length-take-le, take-append-drop}

-- Each item of a list fits into a byte.
abbrev AreBytes : List ℕ → Type 0
AreBytes items = (i : ℕ) → get_or items i 0 < 256

are_bytes_take : (n : ℕ) (items : List ℕ) → AreBytes items → AreBytes (take n items)
are_bytes_take zero items bytes i = omega arith
are_bytes_take (suc n) [] bytes i = omega arith
are_bytes_take (suc n) (item ∷ items) bytes zero = bytes 0
are_bytes_take (suc n) (item ∷ items) bytes (suc i) = are_bytes_take n items (λ k. bytes (suc k)) i

-- A text whose first four bytes are the same number as some others begins with those.
pub begins_with_four : (text four : List ℕ) → 4 ≤ length text → length four ≡ 4 → AreBytes text → AreBytes four
    → from_le_bytes w32 (take 4 text) ≡ from_le_bytes w32 four → text ≡ four ++ drop 4 text
begins_with_four text four long short text_bytes four_bytes same =
    let front = le_bytes_4 (take 4 text) _ (length-take-le 4 text long) (are_bytes_take 4 text text_bytes) refl in
    let back = le_bytes_4 four _ short four_bytes same in
    sym (take-append-drop 4 text) ∙ ap (λ begin. begin ++ drop 4 text) (sym front ∙ back)
