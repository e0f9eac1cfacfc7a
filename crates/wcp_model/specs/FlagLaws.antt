use Rattle.std.specs.Prelude.{◌≡◌, ℕ, true}
use Rattle.std.specs.FinSet as set
use Rattle.wcp_clock.specs.ProcessNumbers.{NumberSet}
use Rattle.wcp_model.specs.declared.flag.Flag.{Flag}
use Rattle.wcp_model.specs.declared.flag.Flag.TheVariants as reset_at
use Rattle.wcp_model.specs.declared.state.State.{State}
use Rattle.wcp_model.specs.Computation.{Computation, IsTrueState}
use Rattle.wcp_model.specs.Cut.{Intervals, member, IsLeastCut}
use Rattle.wcp_model.specs.Emission.{IsEmittedState}
use Rattle.wcp_model.specs.Watched.{IsWatched}

-- The event-flag law: where each communication event resets the flag, each true state of a watched process is emitted.
abbrev pub EventFlagLaw : Type 0
EventFlagLaw = (watched : NumberSet) (c : Computation) (s : State) → set.contains watched s.process ≡ true →
    IsTrueState c s → IsEmittedState watched reset_at.Event c s

-- The send-flag law: each member of a least cut is emitted, also where sends alone reset the flag (Garg and Waldecker
-- 1994).
abbrev pub SendFlagLaw : Type 0
SendFlagLaw =
    (n : ℕ) (watched : NumberSet) (flag : Flag) (c : Computation) (cut : Intervals) → IsLeastCut n watched c cut →
    (p : ℕ) → IsWatched n watched p → IsEmittedState watched flag c (member cut p)
