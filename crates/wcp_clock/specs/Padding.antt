use Rattle.std.specs.Prelude.{◌≡◌, ℕ, ◌-◌, ◌<◌, ◌≤◌, List, ◌++◌, length, take, drop, replicate, slice_index_or}
use Rattle.std.specs.Prelude.{slice_index}
use Rattle.std.proofs.Common.{sym, ◌∙◌, ap, arith, ⊎_elim, get_or}
use Rattle.std.proofs.lemmas.Bool.{cases_lt}
use Rattle.std.proofs.lemmas.List.{length-take-le, take-append-drop, get_or-take, get_or-drop, get_or_past}
use Rattle.std.proofs.lemmas.List.{get_or-replicate}

-- what stands behind the first n cells is filler, so the first n cells give the whole back
pub padded_prefix : {X : Type 0} (filler : X) (n size : ℕ) (cells : List X) → n ≤ size → length cells ≡ size →
    drop n cells ≡ replicate (size - n) filler →
    take n cells ++ replicate (size - length (take n cells)) filler ≡ cells
padded_prefix filler n size cells within full rest =
    let front : length (take n cells) ≡ n = length-take-le n cells (omega arith) in
    rw (front, ← rest) (take-append-drop n cells)

-- a cell is that of the front, and 0 behind it
pub padded_cell : (n size : ℕ) (cells : List ℕ) (p : ℕ) → p < size → n ≤ size → length cells ≡ size →
    drop n cells ≡ replicate (size - n) 0 → slice_index_or cells p 0 ≡ slice_index (take n cells) p
padded_cell n size cells p inside within full zeros =
    ⊎_elim (λ (below : p < n). sym (get_or-take n cells p 0 below))
    (λ (above : n ≤ p).
    let here : get_or cells p 0 ≡ get_or (drop n cells) (p - n) 0 =
    sym (get_or-drop n cells (p - n) 0 ∙ ap (λ i. get_or cells i 0) (omega arith)) in
    here ∙ ap (λ rest. get_or rest (p - n) 0) zeros ∙ get_or-replicate (size - n) (p - n) 0 0 (omega arith)
    ∙ sym (get_or_past (take n cells) p 0 (omega (arith, length-take-le n cells (omega arith)))))
    (cases_lt p n)
