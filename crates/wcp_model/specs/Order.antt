use Rattle.std.specs.Prelude.{◌≡◌, ℕ, ◌+◌, ◌<◌, slice_get, Some}
use Rattle.wcp_model.specs.declared.step.Step.TheVariants.{Send, Recv}
use Rattle.wcp_model.specs.declared.state.State.{State}
use Rattle.wcp_model.specs.Computation.{Computation, IsState, interval_at, message_at}

-- The state that ends with a send precedes the one that begins with the receive of its message (Lamport 1978).
pub record IsMessage (c : Computation) (s t : State) : Type 0 where
  pub sent : ℕ
  pub received : ℕ
  pub to : ℕ
  pub later : sent < received
  pub send : slice_get c sent ≡ Some (Send s.process to)
  pub receive : slice_get c received ≡ Some (Recv t.process (message_at c sent))
  pub from_state : interval_at c s.process sent ≡ s.interval
  pub to_state : interval_at c t.process received + 1 ≡ t.interval

-- Direct precedence: to the next state of the same process, or by a message.
pub data DirectlyPrecedes (c : Computation) (s t : State) : Type 0 where
  Next : s.process ≡ t.process → s.interval + 1 ≡ t.interval → IsState c t → DirectlyPrecedes c s t
  Message : IsMessage c s t → DirectlyPrecedes c s t

-- Happened-before: a chain of one or more direct precedences (Lamport 1978).
pub data HappenedBefore (c : Computation) (s : State) : State → Type 0 where
  Direct : {t : State} → DirectlyPrecedes c s t → HappenedBefore c s t
  Chain : {t u : State} → HappenedBefore c s t → DirectlyPrecedes c t u → HappenedBefore c s u
