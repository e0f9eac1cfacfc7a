-- The keys of a table and the items of an array, as the code sees them.
use Rattle.std.proofs.Common.{string_bytes}
use Rattle.toml.proofs.Views.{Entry}
use Rattle.toml.specs.declared.value.Value.{Value}
use Rattle.trace_questions.proofs.Words.{◌≡◌, Bool, true, false, List, [], ◌∷◌, map, refl, ap, sym, ◌∙◌, list_any}
use Rattle.trace_questions.proofs.Words.{bytes_eq, items_view, members_view, list_of, view, has_only, seen_texts}
use Rattle.trace_questions.proofs.Words.{Text, Bor}

-- The items of an array are the data of its values.
pub listed : (values : List Value) → list_of (items_view values) ≡ map view values
listed [] = refl
listed (value ∷ values) = ap (λ others. view value ∷ others) (listed values)

-- An item passes, seen by f.
pub any-map : {A B : Type 0} (f : A → B) (p : B → Bool) (items : List A)
    → list_any p (map f items) ≡ list_any (λ x. p (f x)) items
any-map f p [] = refl
any-map f p (item ∷ items) = rw (any-map f p items) refl

-- A key is among texts that the code has by reference.
pub any_among : (key : Text) (keys : List (Bor Text)) (among : Bool)
    → among ≡ list_any (λ one. bytes_eq key one.now) keys → among ≡ list_any (bytes_eq key) (seen_texts keys)
any_among key keys among is = is ∙ sym (any-map (λ (one : Bor Text). one.now) (bytes_eq key) keys)

-- Of the entries of a table the first is a key that's none of these.
pub first_other : (keys : List (Bor Text)) (entries others : List Entry) (entry : Entry) (among all : Bool)
    → entries ≡ entry ∷ others → among ≡ list_any (λ one. bytes_eq (string_bytes entry.0) one.now) keys
    → among ≡ false → has_only (seen_texts keys) (members_view entries) ≡ all → false ≡ all
first_other keys entries others entry among all is by_test other so_far =
    rw (is, ← any_among (string_bytes entry.0) keys among by_test, other) at so_far

-- It's one of these.
pub first_among : (keys : List (Bor Text)) (entries others : List Entry) (entry : Entry) (among all : Bool)
    → entries ≡ entry ∷ others → among ≡ list_any (λ one. bytes_eq (string_bytes entry.0) one.now) keys
    → among ≡ true → has_only (seen_texts keys) (members_view entries) ≡ all
    → has_only (seen_texts keys) (members_view others) ≡ all
first_among keys entries others entry among all is by_test one so_far =
    rw (is, ← any_among (string_bytes entry.0) keys among by_test, one) at so_far
