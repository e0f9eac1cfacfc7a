use Rattle.std.specs.Prelude.{◌≡◌, ◌==◌, ℕ, ◌<◌, ◌≤◌, Bool, true, false, slice_get, Some}
use Rattle.std.specs.FinSet as set
use Rattle.wcp_clock.specs.ProcessNumbers.{NumberSet}
use Rattle.wcp_model.specs.declared.flag.Flag.{Flag}
use Rattle.wcp_model.specs.declared.flag.Flag.TheVariants as reset_at
use Rattle.wcp_model.specs.declared.state.State.{State}
use Rattle.wcp_model.specs.declared.step.Step.{Step}
use Rattle.wcp_model.specs.declared.step.Step.TheVariants.{Send}
use Rattle.wcp_model.specs.Computation.{Computation, IsTrueState, is_communication_of, interval_at}

abbrev pub is_send_of : ℕ → Step → Bool
is_send_of p (Send from to) = from == p
is_send_of p _ = false

-- What resets the flag of process p: each of its communication events, or its sends alone (Garg and Waldecker 1994).
abbrev pub resets : Flag → ℕ → Step → Bool
resets reset_at.Event p step = is_communication_of p step
resets reset_at.Send p step = is_send_of p step

-- The flag of process p was reset between two of its intervals: one of its communication events from the first of them
-- on, and before the second, resets it.
pub record WasReset (flag : Flag) (c : Computation) (p first second : ℕ) : Type 0 where
  pub place : ℕ
  pub step : Step
  pub at : slice_get c place ≡ Some step
  pub resetting : resets flag p step ≡ true
  pub from : first ≤ interval_at c p place
  pub before : interval_at c p place < second

-- The flag of a process is up in a state if the process is watched, this state or an earlier one is true, and since
-- then the flag was not reset.
pub record IsFlagUp (watched : NumberSet) (flag : Flag) (c : Computation) (s : State) : Type 0 where
  pub watched_process : set.contains watched s.process ≡ true
  pub since : ℕ
  pub order : since ≤ s.interval
  pub true_state : IsTrueState c (record { process = s.process; interval = since })
  pub still_up : WasReset flag c s.process since s.interval → ⊥
