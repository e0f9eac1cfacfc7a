-- The words of the proofs about a log.
pub use Rattle.std.proofs.Common.{◌≡◌, ◌≢◌, ◌∙◌, ◌⊎◌, inl, inr, ◌<◌, ◌≤◌, ℕ, zero, suc, ◌+◌, ◌-◌, ◌^◌, Bool, true, false, cond}
pub use Rattle.std.proofs.Common.{List, [], ◌∷◌, ◌++◌, length, map, drop, get_or, refl, sym, ap, ap₂, subst, arith}
pub use Rattle.std.proofs.Common.{append_assoc, append-nil, flat_map, slice_index, Ok, Some, None, rules}
pub use Rattle.std.specs.Prelude.{max, nat_lt, nat_le, nat_eq, ◌==◌, ◌&&◌, ◌||◌, not}
pub use Rattle.std.proofs.lemmas.Bool.Decides.{nat_tests}
pub use Rattle.std.proofs.lemmas.Bool.{le-leb, lt-ltb, lt-leb, eq-eqb}
pub use Rattle.std.specs.List.{prefix_len, list_any}
pub use Rattle.std.specs.Str.{bytes_eq}
use Rattle.std.proofs.lemmas.Slice.Eq.{bytes_eq-Decides}

pub bytes_same : (a b : List ℕ) → a ≡ b → bytes_eq a b ≡ true
bytes_same a b is = (bytes_eq-Decides a b).1 is

pub bytes_differ : (a b : List ℕ) → a ≢ b → bytes_eq a b ≡ false
bytes_differ a b differ = by (bytes_eq a b) refl
  where
    by : (t : Bool) → bytes_eq a b ≡ t → bytes_eq a b ≡ false
    by true same = absurd (differ ((bytes_eq-Decides a b).0 same))
    by false other = other

pub same_bytes : (a b : List ℕ) → bytes_eq a b ≡ true → a ≡ b
same_bytes a b is = (bytes_eq-Decides a b).0 is

pub both_true : (a b : Bool) → (a && b) ≡ true → (a ≡ true) × (b ≡ true)
both_true true b is = (refl, is)
both_true false b is = cc
