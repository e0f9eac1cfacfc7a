use Rattle.std.specs.Prelude.{◌≡◌, ℕ, true, false, length, All}
use Rattle.std.specs.FinSet as set
use Rattle.wcp_clock.specs.declared.note.Item.{Item}
use Rattle.wcp_model.specs.LaneRule.{items_from}
use Rattle.wcp_clock.specs.Notes.{is_last}
use Rattle.wcp_lane.specs.Ends.{PutEnd}

-- A putter of process p has put n items of it, all of them snapshots.
pub record HasPut (p n : ℕ) (end : PutEnd Item Item) : Type 0 where
  pub member : set.contains end.members p ≡ true
  pub count : length (items_from (λ (item : Item). item.from) p end.put) ≡ n
  pub unended : All (λ (item : Item). is_last item.note ≡ false) (items_from (λ (item : Item). item.from) p end.put)
