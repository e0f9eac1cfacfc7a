-- The hosts of conditions are distinct.
use Rattle.std.proofs.lemmas.Grind.{common_steps}
use Rattle.trace_detect.proofs.Words.{◌≡◌, ◌∙◌, ◌<◌, ℕ, Bool, false, List, [], ◌∷◌, Some, None, length, map, refl, sym}
use Rattle.trace_detect.proofs.Words.{arith, length-map, slice_index_or, bytes_eq, Condition, host_of, HaveHosts}
use Rattle.trace_detect.proofs.Words.{condition_at, get_or-map, inl, inr}
use Rattle.std.proofs.lemmas.Slice.Eq.{bytes_eq-Decides}
use Rattle.std.proofs.lemmas.Bool.Decides.{leb_tells}
use Rattle.std.proofs.Common.{suc, zero, true≢false}

-- Conditions at two places have two hosts.
pub one_place : (conditions : List Condition) (p q : ℕ) (c : Condition) → HaveHosts conditions → p < length conditions
    → q < length conditions
    → host_of (slice_index_or conditions p c) ≡ host_of (slice_index_or conditions q c) → p ≡ q
one_place conditions p q c hosts p_in q_in same = elim (leb_tells p q) [
  | inl up ↦ elim (leb_tells q p) [
    | inl down ↦ omega (arith, up.1, down.1)
    | inr down ↦ absurd (apart p q p_in q_in down.1 same)
  ]
  | inr up ↦ absurd (apart q p q_in p_in up.1 (sym same))
]
  where
    many : length (map host_of conditions) ≡ length conditions
    many = length-map conditions host_of

    apart : (i j : ℕ) → i < length conditions → j < length conditions → i < j
        → host_of (slice_index_or conditions i c) ≡ host_of (slice_index_or conditions j c) → ⊥
    apart i j i_in j_in below alike = hosts.distinct i j [] below (omega (arith, many))
        (get_or-map host_of conditions i c [] i_in ∙ alike ∙ sym (get_or-map host_of conditions j c [] j_in))

of_first : (host : List ℕ) (first : Condition) (conditions : List Condition) (condition : Condition) (same : Bool)
    → bytes_eq (host_of first) host ≡ same → condition_at host (first ∷ conditions) ≡ Some condition
    → (condition_at host conditions ≡ Some condition → host_of condition ≡ host) → host_of condition ≡ host
of_first host first conditions condition same is found later = grind (arith, common_steps, bytes_eq-Decides)

-- The condition that is found is of the host.
pub found_is_of : (host : List ℕ) (conditions : List Condition) (condition : Condition)
    → condition_at host conditions ≡ Some condition → host_of condition ≡ host
found_is_of host [] condition found = absurd (cc)
found_is_of host (first ∷ conditions) condition found =
    of_first host first conditions condition (bytes_eq (host_of first) host) refl found
    (found_is_of host conditions condition)

none_later : (host : List ℕ) (first : Condition) (conditions : List Condition) (same : Bool)
    → bytes_eq (host_of first) host ≡ same → condition_at host (first ∷ conditions) ≡ None
    → (same ≡ false) × (condition_at host conditions ≡ None)
none_later host first conditions same is none = grind (arith, common_steps)

-- A host of a condition has one.
pub none_is_of : (host : List ℕ) (conditions : List Condition) (p : ℕ) (c : Condition)
    → condition_at host conditions ≡ None → p < length conditions → host_of (slice_index_or conditions p c) ≡ host → ⊥
none_is_of host [] p c none within same = absurd (omega arith)
none_is_of host (first ∷ conditions) zero c none within same =
    true≢false (sym ((bytes_eq-Decides (host_of first) host).1 same)
    ∙ (none_later host first conditions (bytes_eq (host_of first) host) refl none).0)
none_is_of host (first ∷ conditions) (suc p) c none within same =
    none_is_of host conditions p c (none_later host first conditions (bytes_eq (host_of first) host) refl none).1
    (omega arith) same
