use Rattle.std.proofs.Common.{◌≡◌, ℕ, suc, zero, ◌<◌, ◌≤◌, List, [], ◌∷◌, length, take, drop, replicate, max, get_or}
use Rattle.std.proofs.Common.{slice_index, refl, ap, arith}
use Rattle.std.proofs.lemmas.List.{length-take-le}
use Rattle.wcp_clock.specs.Merge.{merged}

-- the merge of two lists of one length is as long
pub length-merged : (xs ys : List ℕ) → length xs ≡ length ys → length (merged xs ys) ≡ length xs
length-merged [] ys same = refl
length-merged (x ∷ xs) [] same = absurd (omega arith)
length-merged (x ∷ xs) (y ∷ ys) same = ap suc (length-merged xs ys (omega arith))

-- each component of a merge is the greater of two
pub slice_index-merged : (xs ys : List ℕ) (i : ℕ) → length xs ≡ length ys →
    slice_index (merged xs ys) i ≡ max (slice_index xs i) (slice_index ys i)
slice_index-merged [] [] i same = refl
slice_index-merged [] (y ∷ ys) i same = absurd (omega arith)
slice_index-merged (x ∷ xs) [] i same = absurd (omega arith)
slice_index-merged (x ∷ xs) (y ∷ ys) zero same = refl
slice_index-merged (x ∷ xs) (y ∷ ys) (suc i) same = slice_index-merged xs ys i (omega arith)

-- the front of a merge is the merge of the fronts
pub take-merged : (n : ℕ) (xs ys : List ℕ) → length xs ≡ length ys
    → take n (merged xs ys) ≡ merged (take n xs) (take n ys)
take-merged zero xs ys same = refl
take-merged (suc n) [] ys same = refl
take-merged (suc n) (x ∷ xs) [] same = absurd (omega arith)
take-merged (suc n) (x ∷ xs) (y ∷ ys) same = ap (λ rest. max x y ∷ rest) (take-merged n xs ys (omega arith))

-- the rest of a merge is the merge of the rests
pub drop-merged : (n : ℕ) (xs ys : List ℕ) → length xs ≡ length ys
    → drop n (merged xs ys) ≡ merged (drop n xs) (drop n ys)
drop-merged zero xs ys same = refl
drop-merged (suc n) [] [] same = refl
drop-merged (suc n) [] (y ∷ ys) same = absurd (omega arith)
drop-merged (suc n) (x ∷ xs) [] same = absurd (omega arith)
drop-merged (suc n) (x ∷ xs) (y ∷ ys) same = drop-merged n xs ys (omega arith)

-- zeros merged with zeros are zeros
pub merged-zeros : (n : ℕ) → merged (replicate n 0) (replicate n 0) ≡ replicate n 0
merged-zeros zero = refl
merged-zeros (suc n) = ap (λ rest. 0 ∷ rest) (merged-zeros n)

-- a list with the greater component in each place is the merge
pub merged_by_places : (zs xs ys : List ℕ) → length zs ≡ length xs → length xs ≡ length ys
    → ((k : ℕ) → k < length xs → get_or zs k 0 ≡ max (get_or xs k 0) (get_or ys k 0)) → zs ≡ merged xs ys
merged_by_places [] [] ys long same places = refl
merged_by_places [] (x ∷ xs) ys long same places = absurd (omega arith)
merged_by_places (z ∷ zs) [] ys long same places = absurd (omega arith)
merged_by_places (z ∷ zs) (x ∷ xs) [] long same places = absurd (omega arith)
merged_by_places (z ∷ zs) (x ∷ xs) (y ∷ ys) long same places =
    let here : z ≡ max x y = places 0 (omega arith) in
    let rest : zs ≡ merged xs ys =
    merged_by_places zs xs ys (omega arith) (omega arith) (λ k inside. places (suc k) (omega arith)) in
    cc

-- zeros behind two lists are zeros behind their merge
pub drop-merged_zeros : (n m : ℕ) (xs ys : List ℕ) → length xs ≡ length ys → drop n xs ≡ replicate m 0
    → drop n ys ≡ replicate m 0 → drop n (merged xs ys) ≡ replicate m 0
drop-merged_zeros n m xs ys same behind_x behind_y = rw (drop-merged n xs ys same, behind_x, behind_y) (merged-zeros m)

-- fronts of one length have one count
pub same_front : (n m : ℕ) (xs ys : List ℕ) → n ≤ length xs → m ≤ length ys → length (take n xs) ≡ length (take m ys)
    → m ≡ n
same_front n m xs ys inside_x inside_y same = omega (arith, length-take-le n xs inside_x, length-take-le m ys inside_y)
