use Rattle.std.specs.Prelude.{◌==◌, ℕ, Bool, false, nat_lt, Option, Some, None, length, slice_get, take}
use Rattle.std.specs.List.{list_any}
use Rattle.std.specs.Option.{option_flatten}
use Rattle.wcp_model.specs.declared.plan.Parent.{Parent}
use Rattle.wcp_model.specs.declared.plan.Plan.{Plan}

-- The tree of a plan: which relay serves a process, whether a relay serves processes, and what a relay passes its
-- items to.
abbrev pub is_relay : Plan → ℕ → Bool
is_relay plan relay = nat_lt relay (length plan.parents.items)

abbrev pub leaf_of : Plan → ℕ → Option ℕ
leaf_of plan p = option_flatten (slice_get plan.attach.items p)

abbrev pub parent_of : Plan → ℕ → Option Parent
parent_of plan relay = slice_get plan.parents.items relay

abbrev pub is_number : ℕ → Option ℕ → Bool
is_number relay (Some other) = other == relay
is_number relay None = false

abbrev pub is_attached : Plan → ℕ → ℕ → Bool
is_attached plan relay p = is_number relay (leaf_of plan p)

-- A leaf serves one of the n processes, at least.
abbrev pub is_leaf : Plan → ℕ → Bool
is_leaf plan relay = list_any (is_number relay) (take plan.n plan.attach.items)
