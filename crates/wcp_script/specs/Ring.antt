-- The workload of a ring: round after round, a message goes once around all processes.
use Rattle.std.specs.Prelude.{◌==◌, ◌&&◌, ℕ, ◌+◌, ◌-◌, ◌*◌, Bool, true, false, List, [], ◌∷◌, ◌++◌, if◌then◌else◌}
use Rattle.std.specs.List.{flat_map, range_with_len}
use Rattle.wcp_model.specs.declared.plan.Plan.{Plan}
use Rattle.wcp_model.specs.declared.workload.Action.TheVariants.{Observe, Send, Recv}
use Rattle.wcp_model.specs.declared.workload.Task.{Task}
use Rattle.wcp_model.specs.PlainPlan.{IsPlainPlan}
use Rattle.wcp_script.specs.Capacities.{plain_cap, plain_hold}

-- A ring has at most 1,000 rounds.
abbrev pub most_rounds : ℕ
most_rounds = 1000

-- The processes before and after process p in a ring of n.
abbrev pub before : ℕ → ℕ → ℕ
before n p = if p == 0 then n - 1 else p - 1

abbrev pub after : ℕ → ℕ → ℕ
after n p = if p + 1 == n then 0 else p + 1

-- Process p finds its condition true, and then false.
abbrev pub finds_both : ℕ → List Task
finds_both p = record { p = p; action = Observe true } ∷ record { p = p; action = Observe false } ∷ []

-- What process p receives in its turn of a round: the message of the process before it, but nothing in the very first
-- turn.
abbrev pub received : ℕ → ℕ → ℕ → List Task
received n round p = if round == 0 && p == 0 then [] else record { p = p; action = Recv (before n p) } ∷ []

-- What process p sends in its turn of a round: a message to the process after it, but nothing in the very last turn.
abbrev pub sent : ℕ → ℕ → ℕ → ℕ → List Task
sent n rounds round p =
    if round + 1 == rounds && p + 1 == n then [] else record { p = p; action = Send (after n p) } ∷ []

-- The turn of process p in a round.
abbrev pub ring_turn : ℕ → ℕ → ℕ → ℕ → List Task
ring_turn n rounds round p = received n round p ++ finds_both p ++ sent n rounds round p

-- A round: the turn of each process.
abbrev pub ring_round : ℕ → ℕ → ℕ → List Task
ring_round n rounds round = flat_map (ring_turn n rounds round) (range_with_len 0 n)

-- With the fault, each process but the first finds its condition true, and then false, before any message.
abbrev pub ring_fault : ℕ → Bool → List Task
ring_fault n true = flat_map finds_both (range_with_len 1 (n - 1))
ring_fault n false = []

-- The tasks of a ring of n processes.
unfoldable pub ring_tasks : ℕ → ℕ → Bool → List Task
ring_tasks n rounds fault = ring_fault n fault ++ flat_map (ring_round n rounds) (range_with_len 0 rounds)

-- How many tasks they are.
abbrev pub ring_length : ℕ → ℕ → Bool → ℕ
ring_length n rounds true = 4 * n * rounds - 2 + 2 * (n - 1)
ring_length n rounds false = 4 * n * rounds - 2

-- The plan of a ring: one relay, under the root, serves every process, and the capacities are the plain ones.
abbrev pub IsRingPlan : ℕ → Plan → Type 0
IsRingPlan n = IsPlainPlan n plain_cap plain_hold
