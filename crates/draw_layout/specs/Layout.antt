use Rattle.std.specs.Prelude.{◌≡◌, ℕ, ◌+◌, ◌<◌, ◌≤◌, List, length, slice_index, Option}
use Rattle.wcp_model.specs.declared.workload.Task.{Task}
use Rattle.wcp_model.specs.Cut.{Intervals}
use Rattle.wcp_model.specs.WorkloadComputation.{computation_of}
use Rattle.wcp_order.specs.Stuck.{AreSendAndReceive}
use Rattle.draw_layout.specs.declared.layout.Layout.{Layout}
use Rattle.draw_layout.specs.Columns.{StandsNext}
use Rattle.draw_layout.specs.Events.{AreIntervals, IsEventAt}
use Rattle.draw_layout.specs.Halves.{HasMember, IsBefore}
use Rattle.draw_layout.specs.Messages.{AreSends}
use Rattle.draw_layout.specs.Rows.{AreEventColumns, AreTrueRows}

-- The event of process p at place i of the order stands before the cut.
abbrev pub StandsBefore : ℕ → List Task → Option Intervals → Layout → ℕ → ℕ → Type 0
StandsBefore n order cut layout p i =
    IsBefore (computation_of n order) cut p (slice_index layout.intervals.items i)

-- A layout of a fit order of n processes about a cut: each communication event stands in one column, and nothing else
-- does. Along a process columns rise, and each message goes right. All before the cut stands left of the line, and all
-- behind it right; and each event stands as far left as that allows, so that its column is 1 and the greatest of those
-- that it stands right of. So, of a process with a member, the events of the intervals below it stand left, and all
-- others right.
pub record IsLayout (n : ℕ) (order : List Task) (cut : Option Intervals) (layout : Layout) : Type 0 where
  pub intervals : AreIntervals n order layout.intervals.items
  pub sent : AreSends order layout.sent.items
  pub events : AreEventColumns n order layout.columns.items layout.events.items
  pub truths : AreTrueRows n order layout.truths.items
  pub tasks : length layout.columns.items ≡ length order
  pub only : (i : ℕ) → 0 < slice_index layout.columns.items i → (p : ℕ) × IsEventAt order p i
  pub own : (p i j : ℕ) → IsEventAt order p i → IsEventAt order p j → j < i →
      slice_index layout.columns.items j < slice_index layout.columns.items i
  pub message : (sent received : ℕ) → AreSendAndReceive order sent received →
      slice_index layout.columns.items sent < slice_index layout.columns.items received
  pub first : (p i : ℕ) → IsEventAt order p i → 0 < slice_index layout.columns.items i
  pub before : (p i : ℕ) → IsEventAt order p i → StandsBefore n order cut layout p i →
      slice_index layout.columns.items i < layout.line
  pub behind : (p i : ℕ) → IsEventAt order p i → (StandsBefore n order cut layout p i → ⊥) →
      layout.line < slice_index layout.columns.items i
  pub next_before : (p i : ℕ) → IsEventAt order p i → StandsBefore n order cut layout p i →
      StandsNext order layout.columns.items 0 p i
  pub next_behind : (p i : ℕ) → IsEventAt order p i → (StandsBefore n order cut layout p i → ⊥) →
      StandsNext order layout.columns.items layout.line p i
  pub below_member : (p i m : ℕ) → HasMember cut p m → IsEventAt order p i →
      slice_index layout.intervals.items i < m →
      (slice_index layout.columns.items i < layout.line) × StandsNext order layout.columns.items 0 p i
  pub from_member : (p i m : ℕ) → HasMember cut p m → IsEventAt order p i →
      m ≤ slice_index layout.intervals.items i →
      (layout.line < slice_index layout.columns.items i) × StandsNext order layout.columns.items layout.line p i
  pub some_line : 0 < layout.line
  pub few_lines : layout.line ≤ length order + 1
  pub few_columns : (i : ℕ) → slice_index layout.columns.items i ≤ layout.line + length order
