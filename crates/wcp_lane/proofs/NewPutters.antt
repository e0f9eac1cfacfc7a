-- The putters of a new lane.
use Rattle.wcp_lane.proofs.Words.{◌≡◌, ℕ, refl, arith, LaneName, PutEnd, new_putter}
use Rattle.wcp_clock.specs.declared.note.Item.{Item}
use Rattle.wcp_lane.specs.Snapshots.{HasPut}
use Rattle.wcp_clock.proofs.Marks.{alone, alone_has}

-- a new putter of one number has put nothing
pub new_HasPut : (end : PutEnd Item Item) (lane : LaneName Item) (p : ℕ) → end ≡ new_putter lane (alone p)
    → HasPut p 0 end
new_HasPut end lane p is =
    rw is (record { member = alone_has p; count = refl; unended = λ k d below. absurd (omega arith) })
