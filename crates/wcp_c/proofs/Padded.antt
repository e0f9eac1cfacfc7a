use Rattle.std.proofs.Common.{◌≡◌, ℕ, List, ◌++◌, length, drop, replicate, All, refl, subst, sym}
use Rattle.std.proofs.Math.Seq.{drop-append_seam}
use Rattle.std.proofs.lemmas.List.Elements.{All-replicate}

-- what stands behind a clock that was padded is 0
pub zeros_behind : (clock : List ℕ) (n k : ℕ) → length clock ≡ n
    → All (λ count. count ≡ 0) (drop n (clock ++ replicate k 0))
zeros_behind clock n k full =
    subst (λ (i : ℕ). All (λ count. count ≡ 0) (drop i (clock ++ replicate k 0))) full
    (subst (λ (rest : List ℕ). All (λ count. count ≡ 0) rest) (sym (drop-append_seam clock (replicate k 0)))
    (All-replicate (λ count. count ≡ 0) k 0 refl))
