use Rattle.std.specs.Prelude.{◌≡◌, ℕ, true, false, length, All}
use Rattle.std.specs.FinSet as set
use Rattle.wcp_clock.specs.declared.note.Item.{Item}
use Rattle.wcp_clock.specs.Notes.{is_last}
use Rattle.wcp_lane.specs.Ends.{PutEnd}
use Rattle.wcp_relay.specs.Feeding.{items_of}
use Rattle.wcp_relay.specs.declared.bundle.Bundle.{Bundle}

-- A putter of process 0 has put n items of it, all of them snapshots.
pub record HasPut (n : ℕ) (end : PutEnd Bundle Item) : Type 0 where
  pub member : set.contains end.members 0 ≡ true
  pub count : length (items_of 0 end.put) ≡ n
  pub unended : All (λ (item : Item). is_last item.note ≡ false) (items_of 0 end.put)
