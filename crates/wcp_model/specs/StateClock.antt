use Rattle.std.specs.Prelude.{◌≡◌, ◌≢◌, ℕ, ◌<◌, ◌↔◌, List, length, slice_index}
use Rattle.wcp_model.specs.declared.state.State.{State}
use Rattle.wcp_model.specs.Computation.{Computation}
use Rattle.wcp_model.specs.Order.{HappenedBefore}

-- This many states of process q happened before a state: they are its first ones.
abbrev pub CountsBefore : Computation → State → ℕ → ℕ → Type 0
CountsBefore c s q count = (l : ℕ) → HappenedBefore c (record { process = q; interval = l }) s ↔ (l < count)

-- The clock of a state: its own interval, and for each other process how many of its states happened before (Fidge
-- 1988; Mattern 1989).
pub record IsStateClock (n : ℕ) (c : Computation) (s : State) (clock : List ℕ) : Type 0 where
  pub components : length clock ≡ n
  pub own : slice_index clock s.process ≡ s.interval
  pub others : (q : ℕ) → q < n → q ≢ s.process → CountsBefore c s q (slice_index clock q)
