-- A map with texts as its keys, whose entries come in another order.
use Rattle.std.proofs.Common.{◌≡◌, ◌∙◌, Bool, true, false, List, [], ◌∷◌, ℕ, None, String, Global}
use Rattle.std.proofs.Common.{refl, sym, subst, string_bytes, string_eq, ◌⊎◌, inl, inr}
use Rattle.std.proofs.lemmas.Slice.Eq.{bytes_eq-Decides}
use Rattle.std.specs.HashMap.{HashMap, IsReordered, get_by_text}
use Rattle.std.specs.Map.{lookup}
use Rattle.std.specs.Str.{bytes_eq}

-- Nothing passes, or something does.
passes : {K X : Type 0} (test : K → Bool) (entries : List (K × X))
    → (lookup test entries ≡ None) ⊎ ((key : K) × (test key ≡ true))
passes test [] = inl refl
passes {K} {X} test (entry ∷ entries) = by_test (test entry.0) refl (passes test entries)
  where
    by_test : (b : Bool) → test entry.0 ≡ b → (lookup test entries ≡ None) ⊎ ((key : K) × (test key ≡ true))
        → (lookup test (entry ∷ entries) ≡ None) ⊎ ((key : K) × (test key ≡ true))
    by_test true here rest = inr (entry.0, here)
    by_test false differs (inl none) = inl (rw differs none)
    by_test false differs (inr found) = inr found

pub reordered_text : {X S : Type 0} (old new : HashMap (String Global) X S) → IsReordered string_eq old new
    → (id : List ℕ) → get_by_text new id ≡ get_by_text old id
reordered_text old new is id =
    by_old (passes (λ key. bytes_eq id (string_bytes key)) old.entries)
    (passes (λ key. bytes_eq id (string_bytes key)) new.entries)
  where
    at_key : (key : String Global) → bytes_eq id (string_bytes key) ≡ true → get_by_text new id ≡ get_by_text old id
    at_key key same =
        subst (λ l. get_by_text new l ≡ get_by_text old l) (sym ((bytes_eq-Decides id (string_bytes key)).0 same))
        (is.2 key)

    by_old : (get_by_text old id ≡ None) ⊎ ((key : String Global) × (bytes_eq id (string_bytes key) ≡ true))
        → (get_by_text new id ≡ None) ⊎ ((key : String Global) × (bytes_eq id (string_bytes key) ≡ true))
        → get_by_text new id ≡ get_by_text old id
    by_old (inr found) _ = at_key found.0 found.1
    by_old (inl none) (inr found) = at_key found.0 found.1
    by_old (inl none) (inl also) = also ∙ sym none
