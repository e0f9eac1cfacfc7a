use Rattle.wcp_queue.proofs.Words.{◌≡◌, ℕ, ◌<◌, ◌≤◌, true, List, slice_index, Floor, component, has_head, RaisesFloor}
use Rattle.wcp_queue.specs.Floor.{Rises}

-- what raises a floor raises it also from before its tests were counted
pub RaisesFloor-counted : (n p : ℕ) (clock : List ℕ) (floor : Floor) (tests : ℕ) (new : Floor)
    → (1 < n → component floor p ≤ slice_index clock p) → has_head new p ≡ true → component new p ≡ slice_index clock p
    → Rises n p clock (record floor { tests = tests }) new → RaisesFloor n p clock floor new
RaisesFloor-counted n p clock floor tests new reached head own rises = record {
  reached = reached;
  head = head;
  own = own;
  rises = λ q q_within other.
      let risen = rises q q_within other in
      record { maximum = risen.maximum; dropped = risen.dropped; kept = risen.kept };
}
