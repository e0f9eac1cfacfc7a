use Rattle.std.specs.Prelude.{◌≡◌, ◌==◌, ℕ, ◌≤◌, Bool, true, false, List, take, count_by, slice_get, Some}
use Rattle.wcp_model.specs.declared.state.State.{State}
use Rattle.wcp_model.specs.declared.step.Step.{Step}
use Rattle.wcp_model.specs.declared.step.Step.TheVariants.{Observe, Send, Recv}

-- A computation is the list of the observe, send, receive, close and drop steps that were accepted, in order (Lamport
-- 1978: events).
abbrev pub Computation : Type 0
Computation = List Step

-- The communication events of a process are its sends and its receives (Garg and Waldecker 1994).
abbrev pub is_communication_of : ℕ → Step → Bool
is_communication_of p (Send from to) = from == p
is_communication_of p (Recv to message) = to == p
is_communication_of p _ = false

abbrev pub is_send : Step → Bool
is_send (Send from to) = true
is_send _ = false

-- How many communication events of a process a computation has.
abbrev pub communications : Computation → ℕ → ℕ
communications c p = count_by (is_communication_of p) c

-- The interval that process p is in at a place of the computation: the number of its communication events before it.
abbrev pub interval_at : Computation → ℕ → ℕ → ℕ
interval_at c p place = communications (take place c) p

-- The number of the message that is sent at a place: the number of sends before it.
abbrev pub message_at : Computation → ℕ → ℕ
message_at c place = count_by is_send (take place c)

-- A local state is a process in one of its intervals; the states of a process are its intervals from 0 to the number
-- of its communication events (Garg and Waldecker 1994).
abbrev pub IsState : Computation → State → Type 0
IsState c s = s.interval ≤ communications c s.process

-- A state is true if some observation in it found the condition true (Garg and Waldecker 1994).
pub record IsTrueState (c : Computation) (s : State) : Type 0 where
  pub place : ℕ
  pub observed : slice_get c place ≡ Some (Observe s.process true)
  pub within : interval_at c s.process place ≡ s.interval
