use Rattle.std.specs.Prelude.{◌≡◌, ℕ, ◌-◌, ◌<◌, ◌≤◌, ◌⊎◌, ◌↔◌, Bool, true, false, List, [], length, slice_get}
use Rattle.std.specs.Prelude.{slice_index, take, count_by, Contains, Some}
use Rattle.std.specs.List.{slice_index_or}
use Rattle.std.specs.List.Sorted.{IsStrictlyIncreasing}
use Rattle.wcp_model.specs.declared.workload.Action.{Action}
use Rattle.wcp_model.specs.declared.workload.Action.TheVariants as action
use Rattle.wcp_model.specs.declared.workload.Task.{Task}
use Rattle.wcp_model.specs.Computation.{Computation, IsTrueState, communications, interval_at}
use Rattle.wcp_model.specs.WorkloadComputation.{computation_of}
use Rattle.draw_layout.specs.Events.{IsEventAt, is_event_of}

-- The row of a process.
abbrev pub row_at : List (List ℕ) → ℕ → List ℕ
row_at rows p = slice_index_or rows p []

-- The action observes that the condition holds.
abbrev pub finds_true : Action → Bool
finds_true (action.Observe holds) = holds
finds_true (action.Send to) = false
finds_true (action.Recv from) = false

-- The numbers rise, and are at most this one.
pub record RiseUpTo (number : ℕ) (row : List ℕ) : Type 0 where
  pub rising : IsStrictlyIncreasing row
  pub below : (k : ℕ) → Contains row k → k ≤ number

-- The last number is this one.
abbrev pub EndsWith : ℕ → List ℕ → Type 0
EndsWith number row = (0 < length row) × (slice_index row (length row - 1) ≡ number)

-- One row has a number more than another, or none more where it has it already.
pub record HasOneMore (number : ℕ) (old new : List ℕ) : Type 0 where
  pub rising : IsStrictlyIncreasing new
  pub each : (k : ℕ) → Contains new k ↔ (Contains old k ⊎ (k ≡ number))

-- The row of process p has the columns of its events before a place of the order.
pub record AreColumnsBefore (order : List Task) (columns : List ℕ) (place p : ℕ) (row : List ℕ) : Type 0 where
  pub events : length row ≡ count_by (is_event_of p) (take place order)
  pub each : (i : ℕ) → IsEventAt order p i → i < place →
      slice_index row (count_by (is_event_of p) (take i order)) ≡ slice_index columns i

-- Before a place of the order, process p is observed true in its interval k.
pub record IsTrueBefore (order : List Task) (place p k : ℕ) : Type 0 where
  pub at : ℕ
  pub before : at < place
  pub observed : slice_get order at ≡ Some (record { p = p; action = action.Observe true })
  pub within : count_by (is_event_of p) (take at order) ≡ k

-- The row of process p has the intervals in which it is observed true before a place of the order.
pub record AreTruthsBefore (order : List Task) (place p : ℕ) (row : List ℕ) : Type 0 where
  pub rising : IsStrictlyIncreasing row
  pub each : (k : ℕ) → Contains row k ↔ IsTrueBefore order place p k

-- For each of n processes the columns of its communication events: of event k the one of that number.
pub record AreEventColumns (n : ℕ) (order : List Task) (columns : List ℕ) (rows : List (List ℕ)) : Type 0 where
  pub processes : length rows ≡ n
  pub events : (p : ℕ) → p < n → length (row_at rows p) ≡ communications (computation_of n order) p
  pub each : (p i : ℕ) → p < n → IsEventAt order p i →
      slice_index (row_at rows p) (interval_at (computation_of n order) p i) ≡ slice_index columns i

-- The true states of a process, by rising interval.
pub record AreTrueStates (c : Computation) (p : ℕ) (intervals : List ℕ) : Type 0 where
  pub rising : IsStrictlyIncreasing intervals
  pub each : (k : ℕ) → Contains intervals k ↔ IsTrueState c (record { process = p; interval = k })

-- For each of n processes its true states.
pub record AreTrueRows (n : ℕ) (order : List Task) (rows : List (List ℕ)) : Type 0 where
  pub processes : length rows ≡ n
  pub each : (p : ℕ) → p < n → AreTrueStates (computation_of n order) p (row_at rows p)
