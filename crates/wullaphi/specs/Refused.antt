-- Why a watch tells nothing.
use Rattle.std.specs.Prelude.{◌≡◌, ℕ, ◌<◌, ◌≤◌, true, Option, None, Some, length, slice_get, vec_len, IsTrue}
use Rattle.std.specs.Prelude.{MatchOption}
use Rattle.std.specs.FinSet as set
use Rattle.wcp_clock.specs.Limits.{most_processes}
use Rattle.wcp_model.specs.PlanFault.{IsFirstFault, ServesRelay}
use Rattle.wcp_model.specs.Tree.{is_leaf}
use Rattle.wcp_model.specs.declared.plan.Parent.TheVariants.{Relay}
use Rattle.wcp_model.specs.declared.plan.PlanFault.{PlanFault}
use Rattle.wcp_model.specs.declared.plan.PlanFault.TheVariants as plan_fault
use Rattle.wcp_model.specs.declared.plan.Plan.{Plan}
use Rattle.wcp_model.specs.declared.outcome.Report.{Report}
use Rattle.wcp_watch.specs.declared.running.StartFault.{StartFault}
use Rattle.wcp_watch.specs.declared.running.StartFault.TheVariants as start
use Rattle.wullaphi.specs.declared.refused_plan.RefusedPlan.{RefusedPlan}
use Rattle.wullaphi.specs.declared.watch_fault.WatchFault.{WatchFault}
use Rattle.wullaphi.specs.declared.watch_fault.WatchFault.TheVariants as fault

-- A plan has this fault at a relay or at a process. The faults of its numbers and of its paths are at neither.
abbrev pub HasFaultAt : Plan → PlanFault → ℕ → Type 0
HasFaultAt plan plan_fault.Procs place = ⊥
HasFaultAt plan plan_fault.Cap place = ⊥
HasFaultAt plan plan_fault.Hold place = ⊥
HasFaultAt plan plan_fault.Parent relay =
    (above : ℕ) × (slice_get plan.parents.items relay ≡ Some (Relay above)) × (relay ≤ above)
HasFaultAt plan plan_fault.Depth place = ⊥
HasFaultAt plan plan_fault.Mixed relay = IsTrue (is_leaf plan relay) × ServesRelay plan relay
HasFaultAt plan plan_fault.Childless relay =
    (relay < length plan.parents.items) × ¬ IsTrue (is_leaf plan relay) × ¬ ServesRelay plan relay
HasFaultAt plan plan_fault.Unattached p = MatchOption (slice_get plan.attach.items p) ⊥
    (λ entry. MatchOption entry (Unit {0}) (λ relay. length plan.parents.items ≤ relay))
HasFaultAt plan plan_fault.Watched p = (plan.n ≤ p) × (set.contains plan.watched p ≡ true)

-- The first place, of the first 16, at which a plan has this fault, if it has it at one.
abbrev pub IsPlaceOf : Plan → PlanFault → Option ℕ → Type 0
IsPlaceOf plan given (Some place) =
    (place < most_processes) × HasFaultAt plan given place
    × ((before : ℕ) → before < place → ¬ HasFaultAt plan given before)
IsPlaceOf plan given None = (place : ℕ) → place < most_processes → ¬ HasFaultAt plan given place

-- This is the refusal of that plan: its first fault, its numbers, and where the fault stands.
pub record IsRefusalOf (plan : Plan) (refused : RefusedPlan) : Type 0 where
  pub first : IsFirstFault plan refused.fault
  pub n : refused.n ≡ plan.n
  pub cap : refused.cap ≡ plan.cap
  pub hold : refused.hold ≡ plan.hold
  pub relays : refused.relays ≡ vec_len plan.parents
  pub attached : refused.attached ≡ vec_len plan.attach
  pub place : IsPlaceOf plan refused.fault refused.place

-- What a run whose parts didn't run is refused for.
abbrev pub of_start : StartFault → WatchFault
of_start start.Memory = fault.Memory
of_start start.Spawn = fault.Spawn

-- It isn't a fault of the plan, of the number of processes, or of the questions.
abbrev pub IsOfRun : WatchFault → Type 0
IsOfRun (fault.Plan refused) = ⊥
IsOfRun fault.Count = ⊥
IsOfRun fault.NoQuestion = ⊥
IsOfRun (fault.Question question) = ⊥
IsOfRun fault.BookInUse = Unit {0}
IsOfRun fault.Memory = Unit {0}
IsOfRun fault.Spawn = Unit {0}
IsOfRun (fault.Lost process report) = Unit {0}
IsOfRun (fault.Settle refused) = Unit {0}

-- A watch isn't opened for a fault of its plan, or for want of memory.
abbrev pub IsOfOpening : WatchFault → Type 0
IsOfOpening (fault.Plan refused) = Unit {0}
IsOfOpening fault.Count = ⊥
IsOfOpening fault.NoQuestion = ⊥
IsOfOpening (fault.Question question) = ⊥
IsOfOpening fault.BookInUse = ⊥
IsOfOpening fault.Memory = Unit {0}
IsOfOpening fault.Spawn = ⊥
IsOfOpening (fault.Lost process report) = ⊥
IsOfOpening (fault.Settle refused) = ⊥

-- Where it says that a process was lost, this holds of it and of the report.
abbrev pub IfLost : WatchFault → (ℕ → Report → Type 0) → Type 0
IfLost (fault.Plan refused) Holds = Unit {0}
IfLost fault.Count Holds = Unit {0}
IfLost fault.NoQuestion Holds = Unit {0}
IfLost (fault.Question question) Holds = Unit {0}
IfLost fault.BookInUse Holds = Unit {0}
IfLost fault.Memory Holds = Unit {0}
IfLost fault.Spawn Holds = Unit {0}
IfLost (fault.Lost process report) Holds = Holds process report
IfLost (fault.Settle refused) Holds = Unit {0}
