-- What a range of numbers gives, piece by piece.
use Rattle.wcp_script.proofs.Words.{◌≡◌, ℕ, zero, suc, ◌+◌, ◌-◌, ◌*◌, ◌<◌, ◌≤◌, List, [], ◌∷◌, ◌++◌, length, ap, ◌∙◌}
use Rattle.wcp_script.proofs.Words.{append_assoc, length-append, mul-suc, arith, flat_map, range_with_len, append-nil}
use Rattle.wcp_script.proofs.Words.{Bool, true, list_all, and_parts, cases_eq, inl, inr, sym}

-- one more piece
pub flat_map-range_more : {X : Type 0} (f : ℕ → List X) (a n : ℕ)
    → flat_map f (range_with_len a (n + 1)) ≡ flat_map f (range_with_len a n) ++ f (a + n)
flat_map-range_more f a zero = append-nil (f a) ∙ ap f (omega arith)
flat_map-range_more f a (suc n) =
    grind (arith, append_assoc, flat_map-range_more f (a + 1) n)

-- from a number on
pub range_next : (p n : ℕ) → p < n → range_with_len p (n - p) ≡ p ∷ range_with_len (p + 1) (n - (p + 1))
range_next p n below = let more : n - p ≡ suc (n - (p + 1)) = omega (arith, below) in ap (range_with_len p) more

-- what is so of all of a range is so of each
pub all_from_range : (f : ℕ → Bool) (a n : ℕ) → list_all f (range_with_len a n) ≡ true → (i : ℕ) → a ≤ i → i < a + n
    → f i ≡ true
all_from_range f a zero all i low high = absurd (omega (arith, low, high))
all_from_range f a (suc n) all i low high =
    let parts = and_parts (f a) (list_all f (range_with_len (a + 1) n)) all in
    elim (cases_eq a i) [
      | inl same ↦ sym (ap f same) ∙ parts.0
      | inr apart ↦ all_from_range f (a + 1) n parts.1 i (omega (arith, low, apart)) (omega (arith, high))
    ]

-- the same behind what was there
pub pieces_more : {X : Type 0} (f : ℕ → List X) (a n i : ℕ) (old before new : List X) → a + n ≡ i → before
    ≡ old ++ flat_map f (range_with_len a n) → new ≡ before ++ f i → new ≡ old ++ flat_map f (range_with_len a (n + 1))
pieces_more f a n i old before new here was is = grind (arith, append_assoc, flat_map-range_more)

-- what is so of each piece, of nothing and of two such lists together is so of the whole
pub flat_map-range_each : {X : Type 0} (f : ℕ → List X) (P : List X → Type 0) → P [] → ((xs ys : List X) → P xs → P ys
    → P (xs ++ ys)) → (a n : ℕ) → ((i : ℕ) → a ≤ i → i < a + n → P (f i)) → P (flat_map f (range_with_len a n))
flat_map-range_each f P none both a zero each = none
flat_map-range_each f P none both a (suc n) each =
    both (f a) (flat_map f (range_with_len (a + 1) n)) (each a (omega arith) (omega arith))
    (flat_map-range_each f P none both (a + 1) n (λ i low high. each i (omega arith) (omega arith)))

-- pieces of one length
pub length-flat_map-range : {X : Type 0} (f : ℕ → List X) (size a n : ℕ)
    → ((i : ℕ) → a ≤ i → i < a + n → length (f i) ≡ size) → length (flat_map f (range_with_len a n)) ≡ size * n
length-flat_map-range f size a zero each = omega arith
length-flat_map-range f size a (suc n) each =
    let rest = length-flat_map-range f size (a + 1) n (λ i low high. each i (omega arith) (omega arith)) in
    omega (
      arith,
      length-append (f a) (flat_map f (range_with_len (a + 1) n)),
      each a (omega arith) (omega arith),
      rest,
      mul-suc size n,
    )

-- what stands before each piece is cut off at its end, and stands at its front
pub flat_map-range_shifted : {X : Type 0} (f block front : ℕ → List X) (i len : ℕ)
    → ((k : ℕ) → k < i + len → front k ++ f k ≡ block k ++ front (k + 1))
    → front i ++ flat_map f (range_with_len i len) ≡ flat_map block (range_with_len i len) ++ front (i + len)
flat_map-range_shifted f block front i zero each = append-nil (front i) ∙ ap front (omega arith)
flat_map-range_shifted f block front i (suc len) each =
    grind (
      arith,
      append_assoc,
      each i (omega arith),
      flat_map-range_shifted f block front (i + 1) len (λ k inside. each k (omega arith)),
    )
