-- Runs, and the items of one process in a list.
use Rattle.wcp_relay.proofs.Words.{◌≡◌, ◌≢◌, ℕ, Bool, true, false, List, [], ◌∷◌, ◌++◌, cond, ap, arith, ◌==◌}
use Rattle.wcp_relay.proofs.Words.{nat_tests, filter-append, Item, AreInSequence, items_of}
use Rattle.wcp_lane.proofs.Lists.{not_empty}

module _ {I : Type 0} (place : I → ℕ) (is_last : I → Bool) where
  -- no item is a run
  pub AreInSequence-none : AreInSequence place is_last []
  AreInSequence-none before item behind e = absurd (not_empty before item behind e)

pub items_of-append : (p : ℕ) (xs ys : List Item) → items_of p (xs ++ ys) ≡ items_of p xs ++ items_of p ys
items_of-append p xs ys = filter-append (λ (m : Item). m.from == p) xs ys

pub items_of-own : (p : ℕ) (item : Item) → item.from ≡ p → items_of p (item ∷ []) ≡ item ∷ []
items_of-own p item own = let is : (item.from == p) ≡ true = grind (arith, nat_tests) in
    ap (λ b. cond b (item ∷ []) []) is

pub items_of-other : (p : ℕ) (item : Item) → item.from ≢ p → items_of p (item ∷ []) ≡ []
items_of-other p item other = let is : (item.from == p) ≡ false = grind (arith, nat_tests) in
    ap (λ b. cond b (item ∷ []) []) is
