-- When a lane can be made.
use Rattle.std.specs.Prelude.{◌≡◌, ℕ, ◌<◌, ◌≤◌, true, List, [], ◌∷◌, length, AllPairs}
use Rattle.std.specs.FinSet as set
use Rattle.wcp_lane.specs.declared.fault.LaneFault.{LaneFault}
use Rattle.wcp_lane.specs.declared.fault.LaneFault.TheVariants.{Cap, MemberSets, NoMemory}
use Rattle.wcp_clock.specs.Limits.{most_lane}
use Rattle.wcp_model.specs.FirstReason.{IsFirstReason}
use Rattle.wcp_lane.specs.Passes.{Numbers}

abbrev pub IsCapacity : ℕ → Type 0
IsCapacity cap = (0 < cap) × (cap ≤ most_lane)

-- The two sets share no number.
abbrev pub ShareNone : Numbers → Numbers → Type 0
ShareNone a b = (p : ℕ) → set.contains a p ≡ true → set.contains b p ≡ true → ⊥

-- No number is in two of these sets.
abbrev pub AreApart : List Numbers → Type 0
AreApart member_sets = AllPairs ShareNone member_sets

-- The member sets of a lane are one or more, no two of which share a number.
abbrev pub AreMemberSets : List Numbers → Type 0
AreMemberSets member_sets = (0 < length member_sets) × AreApart member_sets

-- What each fault says; memory may run out for any lane.
abbrev pub HasLaneFault : ℕ → List Numbers → LaneFault → Type 0
HasLaneFault cap member_sets Cap = ¬ IsCapacity cap
HasLaneFault cap member_sets MemberSets = ¬ AreMemberSets member_sets
HasLaneFault cap member_sets NoMemory = Unit {0}

-- The first fault of a lane, in the order in which they count.
abbrev pub IsFirstLaneFault : ℕ → List Numbers → LaneFault → Type 0
IsFirstLaneFault cap member_sets = IsFirstReason (HasLaneFault cap member_sets) (Cap ∷ MemberSets ∷ NoMemory ∷ [])
