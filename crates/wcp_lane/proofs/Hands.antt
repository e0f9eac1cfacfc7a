-- What an end knows after a step.
use Rattle.wcp_lane.proofs.Words.{◌≡◌, ℕ, ◌<◌, true, List, [], ◌∷◌, ◌++◌, length, sym, ap, ◌∙◌, arith, length-append}
use Rattle.wcp_lane.proofs.Words.{append-nil, most_processes, items_from, Hand, flat_map, Numbers, putter, taker}
use Rattle.wcp_lane.proofs.Words.{joined, with_put, with_taken, IsRest, IsBalanced, put_by, unowned_by, AreCounts}
use Rattle.std.specs.FinSet as sets
use Rattle.wcp_lane.proofs.Lists.{items-push}

module _ {M I : Type 0} (items : M → List I) (origin : I → ℕ) where
  -- what a putter knows with a message more, and its counts
  pub put_more : (v w : Hand M) (numbers : Numbers) (m : M) (counts : List ℕ) → v ≡ putter numbers (put_by v)
      → w ≡ with_put m v → AreCounts origin counts (flat_map items (put_by v) ++ items m)
      → (w ≡ putter numbers (put_by w)) × AreCounts origin counts (flat_map items (put_by w))
  put_more v w numbers m counts is puts_it counted =
      (rw (puts_it, is), rw (puts_it, is, items-push items (put_by v) m) counted)

  -- what a taker knows with a message more, and its counts
  pub take_more : (v w : Hand M) (members : Numbers) (m : M) (counts : List ℕ) → v ≡ taker (unowned_by v) v.taken
      → IsRest members (unowned_by v) → w ≡ with_taken m v
      → AreCounts origin counts (flat_map items v.taken ++ items m) → (w ≡ taker (unowned_by w) w.taken)
      × IsRest members (unowned_by w) × AreCounts origin counts (flat_map items w.taken)
  take_more v w members m counts is rest takes_it counted =
      (rw (takes_it, is), rw takes_it rest, rw (takes_it, items-push items v.taken m) counted)

-- as many taken as put, then nothing is left in between
pub same_lists : {X : Type 0} (put taken left : List X) → put ≡ taken ++ left → length taken ≡ length put → taken ≡ put
same_lists put taken [] e as_many = sym (append-nil taken) ∙ sym e
same_lists put taken (x ∷ left) e as_many = absurd (omega (arith, ap length e, length-append taken (x ∷ left)))

-- where as many were taken as were put, they are the same
pub matched : {M I : Type 0} (items : M → List I) (origin : I → ℕ) (v u w : Hand M) (numbers : Numbers) (within : List
    M) → v.takes ≡ true → u ≡ putter numbers (put_by u) → w ≡ joined v u → IsBalanced items origin w within
    → (p : ℕ) → p < most_processes → sets.contains numbers p ≡ true
    → length (items_from origin p (flat_map items v.taken)) ≡ length (items_from origin p (flat_map items (put_by u)))
    → items_from origin p (flat_map items v.taken) ≡ items_from origin p (flat_map items (put_by u))
matched items origin v u w numbers within may is both balanced p below member as_many =
    same_lists _ _ (items_from origin p (flat_map items within))
    ((rw (both, is, member) at (balanced (rw both may) p below)) 0 [] (omega arith)) as_many
