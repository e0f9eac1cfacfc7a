use Rattle.std.specs.Prelude.{◌≡◌, ℕ, ◌+◌, ◌<◌, ◌≤◌, ◌⊎◌, ◌↔◌, true, Bool, List, length, Option, None, Some, All}
use Rattle.std.specs.Prelude.{slice_index_or}
use Rattle.wcp_clock.specs.Limits.{most_processes}
use Rattle.wcp_clock.specs.ProcessNumbers.{NumberSet}
use Rattle.wcp_model.specs.declared.workload.Task.{Task}
use Rattle.wcp_model.specs.declared.state.State.{State}
use Rattle.wcp_model.specs.Computation.{Computation, interval_at}
use Rattle.wcp_model.specs.Cut.{Intervals, IsSatisfyingCut}
use Rattle.wcp_model.specs.Order.{HappenedBefore}
use Rattle.wcp_model.specs.WorkloadComputation.{computation_of, IsFitOrder, IsWithin}
use Rattle.wcp_order.specs.Stuck.{AreSendAndReceive}
use Rattle.draw_layout.specs.Columns.{IsOfHalf}
use Rattle.draw_layout.specs.Events.{AreIntervals, IsEventAt}
use Rattle.draw_layout.specs.Messages.{AreSends}

-- A state is a member of a cut if it is the one that the cut names of its process.
abbrev pub IsMember : Intervals → State → Type 0
IsMember cut s = slice_index_or cut s.process None ≡ Some s.interval

-- A state is in the past of a cut if it happened before some member (Mattern 1989).
pub record IsPast (c : Computation) (cut : Intervals) (s : State) : Type 0 where
  pub later : State
  pub member : IsMember cut later
  pub before : HappenedBefore c s later

-- Communication event k of process p, which ends its state k, stands before the cut if that state is in the past of
-- the cut. Where there is no cut each does.
abbrev pub IsBefore : Computation → Option Intervals → ℕ → ℕ → Type 0
IsBefore c None p k = Unit {0}
IsBefore c (Some cut) p k = IsPast c cut (record { process = p; interval = k })

-- Process p has the member m in the cut.
abbrev pub HasMember : Option Intervals → ℕ → ℕ → Type 0
HasMember None p m = ⊥
HasMember (Some cut) p m = IsMember cut (record { process = p; interval = m })

-- The law of members: of a process that has a member in a satisfying cut, the events that stand before the cut are
-- those of the intervals below the member.
abbrev pub MemberLaw : Type 0
MemberLaw =
    (n : ℕ) (watched : NumberSet) (c : Computation) (cut : Intervals) → IsSatisfyingCut n watched c cut →
    (p k m : ℕ) → HasMember (Some cut) p m → IsBefore c (Some cut) p k ↔ (k < m)

-- The cut, if there is one, is a satisfying cut of the computation of this order of n processes, some of which are
-- watched.
abbrev pub MaySplit : ℕ → List Task → Option Intervals → Type 0
MaySplit n order None = Unit {0}
MaySplit n order (Some cut) = (watched : NumberSet) × IsSatisfyingCut n watched (computation_of n order) cut

-- For each communication event of an order of n processes whether it stands before the cut.
pub record AreHalves (n : ℕ) (order : List Task) (cut : Option Intervals) (halves : List Bool) : Type 0 where
  pub tasks : length halves ≡ length order
  pub each : (p place : ℕ) → IsEventAt order p place → IsOfHalf halves true place ↔
      IsBefore (computation_of n order) cut p (interval_at (computation_of n order) p place)

-- The cut has a member of process p, behind interval k.
abbrev pub HasLaterMember : Intervals → ℕ → ℕ → Type 0
HasLaterMember cut p k = (m : ℕ) × HasMember (Some cut) p m × (k < m)

-- A fit order of n processes with the interval of each task, the send of each receive, and a satisfying cut.
pub record IsCutOrder (n : ℕ) (order : List Task) (intervals sent : List ℕ) (cut : Intervals) : Type 0 where
  pub few : n ≤ most_processes
  pub within : All (IsWithin n) order
  pub fit : IsFitOrder order order
  pub numbered : AreIntervals n order intervals
  pub sends : AreSends order sent
  pub satisfying : MaySplit n order (Some cut)

-- The state that process p is in at a place of an order of n processes.
abbrev pub state_there : ℕ → List Task → ℕ → ℕ → State
state_there n order p place = record { process = p; interval = interval_at (computation_of n order) p place }

-- A state is a member of the cut or in its past.
abbrev pub IsUpTo : Computation → Intervals → State → Type 0
IsUpTo c cut s = IsMember cut s ⊎ IsPast c cut s

-- Only events before the cut are marked: from a place on each such event is, and so is the send of each message whose
-- receive stands there and begins a state up to the cut. `later` says of each process whether its state at the place is
-- in the past of the cut.
pub record AreMarked (n : ℕ) (order : List Task) (cut : Intervals) (place : ℕ) (halves later : List Bool) : Type 0
  where
    pub tasks : length halves ≡ length order
    pub processes : length later ≡ most_processes
    pub states : (p : ℕ) → p < n →
        IsOfHalf later true p ↔ IsPast (computation_of n order) cut (state_there n order p place)
    pub only : (p i : ℕ) → IsEventAt order p i → IsOfHalf halves true i →
        IsPast (computation_of n order) cut (state_there n order p i)
    pub events : (p i : ℕ) → IsEventAt order p i → place ≤ i →
        IsPast (computation_of n order) cut (state_there n order p i) → IsOfHalf halves true i
    pub messages : (sent received : ℕ) (message : AreSendAndReceive order sent received) → place ≤ received →
        IsUpTo (computation_of n order) cut (state_there n order message.to (received + 1)) → IsOfHalf halves true sent
