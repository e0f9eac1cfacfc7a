use Rattle.std.specs.Prelude.{◌≡◌, ℕ, ◌+◌, ◌<◌, ◌≤◌, ◌⊎◌, Bool, true, false, List, length, slice_index}
use Rattle.std.specs.List.{slice_index_or}
use Rattle.wcp_clock.specs.Limits.{most_processes}
use Rattle.wcp_model.specs.declared.workload.Task.{Task}
use Rattle.wcp_order.specs.Stuck.{AreSendAndReceive}
use Rattle.draw_layout.specs.Events.{IsEventAt}

-- The task at a place is of this half.
abbrev pub IsOfHalf : List Bool → Bool → ℕ → Type 0
IsOfHalf halves half place = slice_index_or halves place false ≡ half

-- Whatever goes before an event of the first half is of it too: earlier events of its process, and the send of what it
-- receives.
pub record IsClosed (order : List Task) (halves : List Bool) : Type 0 where
  pub own : (p i j : ℕ) → IsEventAt order p i → IsEventAt order p j → j < i → IsOfHalf halves true i →
      IsOfHalf halves true j
  pub message : (sent received : ℕ) → AreSendAndReceive order sent received → IsOfHalf halves true received →
      IsOfHalf halves true sent

-- Some events of an order stand in columns: column 0 says that one stands in none yet. An event that stands in a column
-- stands right of all earlier events of its process, and a receive right of its send (Lamport 1978: time runs on).
pub record StandInColumns (order : List Task) (columns : List ℕ) : Type 0 where
  pub tasks : length columns ≡ length order
  pub only : (i : ℕ) → 0 < slice_index columns i → (p : ℕ) × IsEventAt order p i
  pub own : (p i j : ℕ) → IsEventAt order p i → IsEventAt order p j → j < i → 0 < slice_index columns i →
      (0 < slice_index columns j) × (slice_index columns j < slice_index columns i)
  pub message : (sent received : ℕ) → AreSendAndReceive order sent received → 0 < slice_index columns received →
      (0 < slice_index columns sent) × (slice_index columns sent < slice_index columns received)

-- The event of process p at place i stands in the column behind the floor, behind an earlier event of its process, or
-- behind the send of its message.
pub data StandsNext (order : List Task) (columns : List ℕ) (floor p i : ℕ) : Type 0 where
  Floor : slice_index columns i ≡ floor + 1 → StandsNext order columns floor p i
  Own : (j : ℕ) → IsEventAt order p j → j < i → slice_index columns i ≡ slice_index columns j + 1 →
      StandsNext order columns floor p i
  Send : (sent : ℕ) → AreSendAndReceive order sent i → slice_index columns i ≡ slice_index columns sent + 1 →
      StandsNext order columns floor p i

-- No event of a half stands in a column yet, and what goes before one is of this half or stands in one.
pub record MayStand (order : List Task) (halves : List Bool) (half : Bool) (columns : List ℕ) : Type 0 where
  pub none : (i : ℕ) → IsOfHalf halves half i → slice_index columns i ≡ 0
  pub own : (p i j : ℕ) → IsEventAt order p i → IsEventAt order p j → j < i → IsOfHalf halves half i →
      IsOfHalf halves half j ⊎ (0 < slice_index columns j)
  pub message : (sent received : ℕ) → AreSendAndReceive order sent received → IsOfHalf halves half received →
      IsOfHalf halves half sent ⊎ (0 < slice_index columns sent)

-- Of the events of a half, those before a place stand in columns right of the floor, and no other one does. All other
-- columns are as at the start, and the last one of each process is this.
pub record IsLaid (order : List Task) (halves : List Bool) (half : Bool) (floor : ℕ) (start : List ℕ) (place : ℕ)
    (columns last : List ℕ) : Type 0 where
  pub stand : StandInColumns order columns
  pub laid : (p i : ℕ) → IsEventAt order p i → IsOfHalf halves half i → i < place → floor < slice_index columns i
  pub next : (p i : ℕ) → IsEventAt order p i → IsOfHalf halves half i → i < place →
      StandsNext order columns floor p i
  pub unlaid : (i : ℕ) → IsOfHalf halves half i → place ≤ i → slice_index columns i ≡ 0
  pub kept : (i : ℕ) → (IsOfHalf halves half i → ⊥) → slice_index columns i ≡ slice_index start i
  pub processes : length last ≡ most_processes
  pub greatest : (p i : ℕ) → IsEventAt order p i → slice_index columns i ≤ slice_index last p
  pub reached : (p : ℕ) → (slice_index last p ≡ 0)
      ⊎ ((i : ℕ) × IsEventAt order p i × (slice_index last p ≡ slice_index columns i))
  pub few_columns : (i : ℕ) → slice_index columns i ≤ floor + place

-- Each event of an order stands in a column: along a process columns rise, each message goes right, the events of the
-- first half stand left of the line, and all others right of it; and each stands as far left as that allows.
pub record AreColumns (order : List Task) (halves : List Bool) (columns : List ℕ) (line : ℕ) : Type 0 where
  pub tasks : length columns ≡ length order
  pub only : (i : ℕ) → 0 < slice_index columns i → (p : ℕ) × IsEventAt order p i
  pub own : (p i j : ℕ) → IsEventAt order p i → IsEventAt order p j → j < i →
      slice_index columns j < slice_index columns i
  pub message : (sent received : ℕ) → AreSendAndReceive order sent received →
      slice_index columns sent < slice_index columns received
  pub before : (p i : ℕ) → IsEventAt order p i → IsOfHalf halves true i →
      (0 < slice_index columns i) × (slice_index columns i < line)
  pub behind : (p i : ℕ) → IsEventAt order p i → IsOfHalf halves false i → line < slice_index columns i
  pub next_before : (p i : ℕ) → IsEventAt order p i → IsOfHalf halves true i → StandsNext order columns 0 p i
  pub next_behind : (p i : ℕ) → IsEventAt order p i → IsOfHalf halves false i → StandsNext order columns line p i
  pub some_line : 0 < line
  pub few_lines : line ≤ length order + 1
  pub few_columns : (i : ℕ) → slice_index columns i ≤ line + length order
