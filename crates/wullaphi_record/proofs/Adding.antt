-- A record with one event more is in order.
use Rattle.std.proofs.Common.{◌≡◌, ◌⊎◌, inl, inr, ◌<◌, ◌≤◌, ℕ, zero, suc, ◌-◌, List, [], ◌∷◌, ◌++◌, length, map, drop}
use Rattle.std.proofs.Common.{refl, sym, ap, subst, slice_index, arith}
use Rattle.std.proofs.lemmas.List.{get_or_append_left, get_or_push, length-append}
use Rattle.wullaphi_record.specs.Recorded.{Recorded, AreInOrder, NoneFalls, last_clock, nothing, recorded_at}

-- What follows the last event follows each one.
follows_all : (xs : List Recorded) (clock : List ℕ) → AreInOrder xs → NoneFalls (last_clock xs) clock
    → (i : ℕ) → i < length xs → NoneFalls (recorded_at xs i).clock clock
follows_all xs clock in_order follows i within p =
    let last = in_order i (length xs - 1) (omega arith) (omega arith) p in
    let now = follows p in
    omega (arith, last, now)

pub below_or_at : (k n : ℕ) → k ≤ n → (k < n) ⊎ (k ≡ n)
below_or_at zero zero le = inr refl
below_or_at zero (suc n) le = inl (omega arith)
below_or_at (suc k) zero le = absurd (omega arith)
below_or_at (suc k) (suc n) le = up (below_or_at k n (omega arith))
  where
    up : (k < n) ⊎ (k ≡ n) → (suc k < suc n) ⊎ (suc k ≡ suc n)
    up (inl below) = inl (omega arith)
    up (inr at) = inr (ap suc at)

module _ (xs : List Recorded) (one : Recorded) (in_order : AreInOrder xs) (follows : NoneFalls (last_clock xs) one.clock)
  where
    abbrev pushed : List Recorded
    pushed = xs ++ one ∷ []

    before : (i : ℕ) → i < length xs → recorded_at pushed i ≡ recorded_at xs i
    before i within = get_or_append_left xs (one ∷ []) nothing i within

    behind : (i : ℕ) → i ≡ length xs → recorded_at pushed i ≡ one
    behind i is = get_or_push xs one nothing i (sym is)

    rises : (i j : ℕ) → (i < length xs) ⊎ (i ≡ length xs) → (j < length xs) ⊎ (j ≡ length xs) → i ≤ j
        → NoneFalls (recorded_at pushed i).clock (recorded_at pushed j).clock
    rises i j (inl first) (inl second) le p = rw (before i first, before j second) (in_order i j le second p)
    rises i j (inl first) (inr second) le p =
        rw (before i first, behind j second) (follows_all xs one.clock in_order follows i first p)
    rises i j (inr first) (inl second) le p = absurd (omega arith)
    rises i j (inr first) (inr second) le p = rw (behind i first, behind j second) (omega arith)

    split : (k : ℕ) → k < length pushed → (k < length xs) ⊎ (k ≡ length xs)
    split k within = below_or_at k (length xs) (omega (arith, length-append xs (one ∷ []), within))

    pub in_order_push : AreInOrder (xs ++ one ∷ [])
    in_order_push = λ i j le within p. rises i j (split i (omega (arith, le, within))) (split j within) le p

pub in_order_drop : (xs : List Recorded) → AreInOrder xs → AreInOrder (drop 1 xs)
in_order_drop [] in_order = λ i j le within p. absurd (omega arith)
in_order_drop (x ∷ xs) in_order = λ i j le within p. in_order (suc i) (suc j) (omega arith) (omega arith) p

pub last_drop : (xs : List Recorded) (clock : List ℕ) → NoneFalls (last_clock xs) clock
    → NoneFalls (last_clock (drop 1 xs)) clock
last_drop [] clock follows = λ p. omega arith
last_drop (x ∷ []) clock follows = λ p. omega arith
last_drop (x ∷ (y ∷ xs)) clock follows = λ p.
    let last : suc (suc (length xs)) - 1 ≡ suc (suc (length xs) - 1) = omega arith in
    subst (λ n. slice_index (recorded_at (x ∷ (y ∷ xs)) n).clock p ≤ slice_index clock p) last (follows p)

pub map_rest : {X Y : Type 0} (f : X → Y) (xs : List X) → map f (drop 1 xs) ≡ drop 1 (map f xs)
map_rest f [] = refl
map_rest f (x ∷ xs) = refl
