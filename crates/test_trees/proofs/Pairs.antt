-- What a putter of process 0 puts.
use Rattle.std.proofs.Common.{◌≡◌, ℕ, ◌+◌, false, [], ◌∷◌, ◌++◌, length, length-append, refl, sym, ap, ◌∙◌, subst}
use Rattle.std.proofs.Common.{arith}
use Rattle.std.specs.Prelude.{All}
use Rattle.std.specs.FinSet as set
use Rattle.std.proofs.lemmas.List.Elements.{All-push}
use Rattle.wcp_clock.specs.declared.note.Item.{Item}
use Rattle.wcp_clock.specs.Notes.{place_of, is_last}
use Rattle.wcp_model.specs.LaneRule.{IsNext}
use Rattle.wcp_lane.specs.Ends.{LaneName, PutEnd, new_putter}
use Rattle.wcp_clock.proofs.Marks.{contains_with}
use Rattle.wcp_relay.specs.Feeding.{items_of}
use Rattle.wcp_relay.specs.declared.bundle.Bundle.{Bundle}
use Rattle.wcp_relay.proofs.Accepting.{ItemMayFollow}
use Rattle.wcp_relay.proofs.Lists.{items_of-append, items_of-own}
use Rattle.test_trees.specs.BundleLanes.{HasPut}

-- a new putter has put nothing
pub new_HasPut : (lane : LaneName Bundle) → HasPut 0 (new_putter lane (set.insert set.empty 0))
new_HasPut lane =
    record { member = contains_with set.empty 0 0; count = refl; unended = λ k d below. absurd (omega arith) }

-- the next item of process 0 may follow
pub next_may : (n : ℕ) (end : PutEnd Bundle Item) (item : Item) → HasPut n end → item.from ≡ 0 → place_of item.note ≡ n
    → ItemMayFollow end.members end.put item
next_may n end item has from place =
    record {
      owned = ap (set.contains end.members) from ∙ has.member;
      next = subst (λ p. IsNext (λ (i : Item). place_of i.note) (λ (i : Item). is_last i.note)
          (items_of p end.put) item) (sym from)
          (record { numbered = place ∙ sym has.count; unended = has.unended });
    }

-- one more snapshot was put
pub more_put : (n : ℕ) (end : PutEnd Bundle Item) (item : Item) → HasPut n end → item.from ≡ 0
    → is_last item.note ≡ false → HasPut (n + 1) (record end { put = end.put ++ item ∷ [] })
more_put n end item has from snap =
    let all : items_of 0 (end.put ++ item ∷ []) ≡ items_of 0 end.put ++ item ∷ [] =
    items_of-append 0 end.put (item ∷ []) ∙ ap (λ xs. items_of 0 end.put ++ xs) (items_of-own 0 item from) in
    record {
      member = has.member;
      count = omega (arith, ap length all, length-append (items_of 0 end.put) (item ∷ []), has.count);
      unended = subst (All (λ (i : Item). is_last i.note ≡ false)) (sym all)
          (All-push (λ (i : Item). is_last i.note ≡ false) (items_of 0 end.put) item has.unended snap);
    }
