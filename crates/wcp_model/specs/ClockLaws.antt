use Rattle.std.specs.Prelude.{◌≢◌, ℕ, ◌<◌, ◌↔◌, List, slice_index}
use Rattle.wcp_model.specs.declared.state.State.{State}
use Rattle.wcp_model.specs.Computation.{Computation, IsState}
use Rattle.wcp_model.specs.Order.{HappenedBefore}
use Rattle.wcp_model.specs.StateClock.{IsStateClock}

-- The clock law: of states of two processes, one happened before the other exactly if its own component is less there.
abbrev pub ClockLaw : Type 0
ClockLaw = (n : ℕ) (c : Computation) (s t : State) (a b : List ℕ) → s.process < n → s.process ≢ t.process →
    IsStateClock n c s a → IsStateClock n c t b →
    HappenedBefore c s t ↔ (slice_index a s.process < slice_index b s.process)

-- Each state has a clock.
abbrev pub StatesHaveClocks : Type 0
StatesHaveClocks =
    (n : ℕ) (c : Computation) (s : State) → s.process < n → IsState c s → (clock : List ℕ) × IsStateClock n c s clock
