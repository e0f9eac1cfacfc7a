-- Clones of maps with texts as their keys.
use Rattle.std.proofs.Common.{◌≡◌, ◌∙◌, ℕ, List, [], ◌∷◌, Option, Some, String, Vec, Global, cond}
use Rattle.std.proofs.Common.{Bool, true, false, refl, ap, string_bytes, option_map}
use Rattle.std.specs.Prelude.{vec_len}
use Rattle.std.specs.HashMap.{HashMap, IsClone, get_by_text}
use Rattle.std.specs.List.{AllZip}
use Rattle.std.specs.Map.{lookup}
use Rattle.std.specs.Str.{bytes_eq}

abbrev IsTextClone : String Global → String Global → Type 0
IsTextClone s t = string_bytes t ≡ string_bytes s

lines_cloned : (id : List ℕ) (old new : List (String Global × ℕ))
    → AllZip (λ p q. IsTextClone p.0 q.0 × (q.1 ≡ p.1)) old new
    → lookup (λ (k : String Global). bytes_eq id (string_bytes k)) new
    ≡ lookup (λ (k : String Global). bytes_eq id (string_bytes k)) old
lines_cloned id [] [] are = refl
lines_cloned id [] (_ ∷ _) are = absurd are
lines_cloned id (_ ∷ _) [] are = absurd are
lines_cloned id (one ∷ old) (other ∷ new) are =
    ap (λ bytes. cond (bytes_eq id bytes) (Some other.1)
    (lookup (λ (k : String Global). bytes_eq id (string_bytes k)) new)) are.0.0
    ∙ ap (λ line. cond (bytes_eq id (string_bytes one.0)) (Some line)
    (lookup (λ (k : String Global). bytes_eq id (string_bytes k)) new)) are.0.1
    ∙ ap (λ rest. cond (bytes_eq id (string_bytes one.0)) (Some one.1) rest) (lines_cloned id old new are.1)

pub numbers_map_cloned : {S : Type 0} (old new : HashMap (String Global) ℕ S)
    → IsClone IsTextClone (λ m n. n ≡ m) old new → (id : List ℕ) → get_by_text new id ≡ get_by_text old id
numbers_map_cloned old new are id = lines_cloned id old.entries new.entries are

numbers_cloned : (old new : List ℕ) → AllZip (λ m n. n ≡ m) old new → new ≡ old
numbers_cloned [] [] are = refl
numbers_cloned [] (_ ∷ _) are = absurd are
numbers_cloned (_ ∷ _) [] are = absurd are
numbers_cloned (m ∷ old) (n ∷ new) are = λ i. are.0 i ∷ numbers_cloned old new are.1 i

abbrev IsClockClone : Vec ℕ Global → Vec ℕ Global → Type 0
IsClockClone v w = AllZip (λ m n. n ≡ m) v.items w.items × (vec_len w ≡ vec_len v)

abbrev clocks_of : List ℕ → List (String Global × Vec ℕ Global) → Option (List ℕ)
clocks_of id entries = option_map (λ (v : Vec ℕ Global). v.items)
    (lookup (λ (k : String Global). bytes_eq id (string_bytes k)) entries)

entries_cloned : (id : List ℕ) (old new : List (String Global × Vec ℕ Global))
    → AllZip (λ p q. IsTextClone p.0 q.0 × IsClockClone p.1 q.1) old new → clocks_of id new ≡ clocks_of id old
entries_cloned id [] [] are = refl
entries_cloned id [] (_ ∷ _) are = absurd are
entries_cloned id (_ ∷ _) [] are = absurd are
entries_cloned id (one ∷ old) (other ∷ new) are =
    ap (λ bytes. option_map (λ (v : Vec ℕ Global). v.items)
    (cond (bytes_eq id bytes) (Some other.1) (lookup (λ (k : String Global). bytes_eq id (string_bytes k)) new)))
    are.0.0 ∙ by_test (entries_cloned id old new are.1) (bytes_eq id (string_bytes one.0))
  where
    by_test : clocks_of id new ≡ clocks_of id old → (b : Bool) → option_map (λ (v : Vec ℕ Global). v.items)
        (cond b (Some other.1) (lookup (λ (k : String Global). bytes_eq id (string_bytes k)) new))
        ≡ option_map (λ (v : Vec ℕ Global). v.items)
        (cond b (Some one.1) (lookup (λ (k : String Global). bytes_eq id (string_bytes k)) old))
    by_test rest true = ap Some (numbers_cloned one.1.items other.1.items are.0.1.0)
    by_test rest false = rest

pub map_cloned : {S : Type 0} (old new : HashMap (String Global) (Vec ℕ Global) S) → IsClone IsTextClone IsClockClone old new
    → (id : List ℕ) → option_map (λ (v : Vec ℕ Global). v.items) (get_by_text new id)
    ≡ option_map (λ (v : Vec ℕ Global). v.items) (get_by_text old id)
map_cloned old new are id = entries_cloned id old.entries new.entries are
