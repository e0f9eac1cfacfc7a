-- What was said and is taken.
use Rattle.trace_rewrite.proofs.Words.{◌≡◌, ◌≢◌, ◌∙◌, ◌+◌, ◌<◌, ◌≤◌, ◌⊎◌, inl, inr, ℕ, List, [], ◌∷◌, ◌++◌, Option}
use Rattle.trace_rewrite.proofs.Words.{length, take, drop, refl, sym, ap, subst, arith, drop-drop}
use Rattle.trace_rewrite.proofs.Words.{min, take-append_seam, Consumes, IsAtEnd, Keeps, prepend_known}
use Rattle.std.proofs.KnownBytes.{prepend_known-read}
use Rattle.std.proofs.lemmas.List.{length-take-le}
use Rattle.std.proofs.Common.{take-append-drop}

parted : (count : ℕ) (bytes : List ℕ) → bytes ≡ take count bytes ++ drop count bytes
parted count bytes = sym (take-append-drop count bytes)

-- The front of what waits is given, and the rest waits.
pub given : (taken count : ℕ) (said waits head tail : List ℕ) → waits ≡ drop taken said → head ≡ take count waits
    → count ≤ length waits → drop taken said ≡ take count (head ++ tail) ++ drop (taken + count) said
given taken count said waits head tail is front within =
    let long : length head ≡ count = ap length front ∙ length-take-le count waits within in
    let seam : take count (head ++ tail) ≡ head =
    ap (λ n. take n (head ++ tail)) (sym long) ∙ take-append_seam head tail in
    sym is ∙ parted count waits ∙ ap (λ l. l ++ drop count waits) (sym front ∙ sym seam)
    ∙ ap (λ l. take count (head ++ tail) ++ l) (ap (drop count) is ∙ drop-drop count taken said)

all_given : (old new buf : List ℕ) (count : ℕ) → old ≡ take count buf ++ new → count ≡ min (length old) (length buf)
    → count ≡ 0 → 0 < length buf → old ≡ []
all_given [] new buf count parts is none room = refl
all_given (byte ∷ bytes) new buf count parts is none room = absurd (omega arith)

none_waits : (old new buf : List ℕ) (count : ℕ) → old ≡ take count buf ++ new → count ≡ 0 → old ≡ [] → new ≡ []
none_waits old new buf count parts none empty = sym (rw none at parts) ∙ empty

-- What waits is given, and none only where all was said.
pub gives : (before rest rest' : Option (List ℕ)) (old new buf : List ℕ) (count : ℕ) → (old ≢ []) ⊎ IsAtEnd rest
    → Keeps before (prepend_known old rest) → rest' ≡ rest → old ≡ take count buf ++ new
    → count ≡ min (length old) (length buf)
    → Consumes before (prepend_known new rest') (take count buf)
    × (count ≡ 0 → 0 < length buf → IsAtEnd (prepend_known new rest'))
gives before rest rest' old new buf count more kept same parts is =
    let read = prepend_known-read before rest old new (take count buf) ((count ≡ 0) × (0 < length buf)) kept parts
    (λ (none : (count ≡ 0) × (0 < length buf)).
    let empty = all_given old new buf count parts is none.0 none.1 in
    (none_waits old new buf count parts none.0 empty, ended more empty)) in
    subst (λ (r : Option (List ℕ)). Consumes before (prepend_known new r) (take count buf)
    × (count ≡ 0 → 0 < length buf → IsAtEnd (prepend_known new r))) (sym same)
    (read.0, λ none room. read.1 (none, room))
  where
    ended : (old ≢ []) ⊎ IsAtEnd rest → old ≡ [] → IsAtEnd rest
    ended (inl some) empty = absurd (some empty)
    ended (inr over) empty = over
