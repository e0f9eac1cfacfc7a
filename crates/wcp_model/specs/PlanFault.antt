use Rattle.std.specs.Prelude.{◌≡◌, ◌≢◌, ℕ, ◌<◌, ◌≤◌, ◌⊎◌, true, false, List, [], ◌∷◌, ◌++◌, length, slice_get, Some}
use Rattle.std.specs.Prelude.{Any, Contains, MatchOption, IsTrue}
use Rattle.std.specs.FinSet as set
use Rattle.wcp_clock.specs.Limits.{most_processes, most_cap, most_hold, most_relays, most_path}
use Rattle.wcp_model.specs.FirstReason.{IsFirstReason}
use Rattle.wcp_model.specs.declared.plan.Parent.{Parent}
use Rattle.wcp_model.specs.declared.plan.Parent.TheVariants.{Root, Relay}
use Rattle.wcp_model.specs.declared.plan.Plan.{Plan}
use Rattle.wcp_model.specs.declared.plan.PlanFault.{PlanFault}
use Rattle.wcp_model.specs.declared.plan.PlanFault.TheVariants as fault
use Rattle.wcp_model.specs.Tree.{is_leaf}

abbrev pub IsOutside : ℕ → ℕ → ℕ → Type 0
IsOutside least most x = (x < least) ⊎ (most < x)

-- There aren't 1 to 15 relays, or the parent of one is neither the root nor a lower relay. Without this fault the
-- parents make a tree under the root.
abbrev pub HasWrongParent : List Parent → Type 0
HasWrongParent parents =
    IsOutside 1 most_relays (length parents)
    ⊎ ((relay above : ℕ) × (slice_get parents relay ≡ Some (Relay above)) × (relay ≤ above))

-- A path of the tree: relays, each with the next as its parent, and the last under the root.
abbrev pub IsPath : List Parent → List ℕ → Type 0
IsPath parents [] = ⊥
IsPath parents (relay ∷ []) = slice_get parents relay ≡ Some Root
IsPath parents (relay ∷ above ∷ path) = (slice_get parents relay ≡ Some (Relay above)) × IsPath parents (above ∷ path)

-- A relay serves the relays whose parent it is.
abbrev pub ServesRelay : Plan → ℕ → Type 0
ServesRelay plan relay = Contains plan.parents.items (Relay relay)

-- What each fault means; without any, leaves of the tree serve the processes, each of which has one leaf, all other
-- relays serve relays, and some of the processes are watched, and nobody else.
abbrev pub HasFault : Plan → PlanFault → Type 0
HasFault plan fault.Procs = IsOutside 1 most_processes plan.n
HasFault plan fault.Cap = IsOutside 1 most_cap plan.cap
HasFault plan fault.Hold = IsOutside 1 most_hold plan.hold
HasFault plan fault.Parent = HasWrongParent plan.parents.items
HasFault plan fault.Depth = (path : List ℕ) × IsPath plan.parents.items path × (most_path < length path)
HasFault plan fault.Mixed =
    (relay : ℕ) × (relay < length plan.parents.items) × IsTrue (is_leaf plan relay) × ServesRelay plan relay
HasFault plan fault.Childless =
    (relay : ℕ) × (relay < length plan.parents.items) × ¬ IsTrue (is_leaf plan relay) × ¬ ServesRelay plan relay
HasFault plan fault.Unattached =
    (length plan.attach.items ≢ plan.n)
    ⊎ Any (λ entry. MatchOption entry (Unit {0}) (λ relay. length plan.parents.items ≤ relay)) plan.attach.items
HasFault plan fault.Watched =
    ((p : ℕ) → set.contains plan.watched p ≡ false)
    ⊎ ((p : ℕ) × (set.contains plan.watched p ≡ true) × (plan.n ≤ p))

-- The faults that are looked for in a tree, and all faults, in the order in which they count.
abbrev pub tree_faults : List PlanFault
tree_faults = fault.Depth ∷ fault.Mixed ∷ fault.Childless ∷ fault.Unattached ∷ []

abbrev pub plan_faults : List PlanFault
plan_faults = fault.Procs ∷ fault.Cap ∷ fault.Hold ∷ fault.Parent ∷ tree_faults ++ fault.Watched ∷ []

-- The first fault of a plan: the plan has it, and none before it.
abbrev pub IsFirstFault : Plan → PlanFault → Type 0
IsFirstFault plan = IsFirstReason (HasFault plan) plan_faults

-- A checked plan has no fault.
abbrev pub IsCheckedPlan : Plan → Type 0
IsCheckedPlan plan = (fault : PlanFault) → ¬ HasFault plan fault
