-- The entries of a list.
use Rattle.wcp_relay.proofs.Words.{◌≡◌, ◌≢◌, ℕ, ◌<◌, List, [], ◌∷◌, ◌++◌, length, map, get_or, All, Option, Some, ap}
use Rattle.wcp_relay.proofs.Words.{◌∙◌, subst, arith, common_steps, gets, slice_get, slice_set, option_map}
use Rattle.wcp_relay.proofs.Words.{get_or_from_slice_get, slice_get-map, slice_get_within}

module _ {X : Type 0} where
  -- what was written is there
  pub set_here : (xs : List X) (k : ℕ) (x : X) → k < length xs → slice_get (slice_set xs k x) k ≡ Some x
  set_here xs k x within = grind (arith, common_steps, gets)

  -- and the other entries stay
  pub set_elsewhere : (xs : List X) (k i : ℕ) (x : X) → i ≢ k → slice_get (slice_set xs k x) i ≡ slice_get xs i
  set_elsewhere xs k i x apart = grind (arith, common_steps, gets)

  -- the last entry, and those before it
  pub last_entry : (xs : List X) (x : X) → slice_get (xs ++ x ∷ []) (length xs) ≡ Some x
  last_entry xs x = grind (arith, common_steps, gets)

  pub earlier_entry : (xs ys : List X) (i : ℕ) → i < length xs → slice_get (xs ++ ys) i ≡ slice_get xs i
  earlier_entry xs ys i within = grind (arith, common_steps, gets)

-- an entry of a mapped list
pub mapped_at : {X Y : Type 0} (f : X → Y) (xs : List X) (k : ℕ) (x : X) → slice_get xs k ≡ Some x
    → slice_get (map f xs) k ≡ Some (f x)
mapped_at f xs k x at = slice_get-map f xs k ∙ ap (option_map f) at

-- what holds of all holds of the one at a place
pub All-at : {X : Type 0} (P : X → Type 0) (xs : List X) (k : ℕ) (x : X) → All P xs → slice_get xs k ≡ Some x → P x
All-at P xs k x all at = subst P (get_or_from_slice_get xs k x x at) (all k x (slice_get_within xs k x at))

-- what an entry was, where its value is taken out
pub taken_out : {X : Type 0} (xs : List (Option X)) (k : ℕ) (x : X) → slice_get xs k ≡ Some (Some x)
    → (entry : Option X) → entry ≡ get_or xs k entry → (found : X) → entry ≡ Some found → x ≡ found
taken_out xs k x at entry is found some =
    let same : get_or xs k entry ≡ Some x = get_or_from_slice_get xs k (Some x) entry at in
    cc
