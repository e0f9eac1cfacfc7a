use Rattle.std.specs.Prelude.{◌≡◌, ◌==◌, ℕ, ◌+◌, ◌<◌, ◌↔◌, Bool, true, false, List, [], ◌∷◌, ◌++◌, length, slice_index}
use Rattle.std.specs.Prelude.{◌||◌, slice_index_or, Contains, if◌then◌else◌}
use Rattle.std.specs.FinSet as set
use Rattle.std.specs.List.Sorted.{IsStrictlyIncreasing}
use Rattle.std.specs.List.{list_any}
use Rattle.wcp_clock.specs.ProcessNumbers.{NumberSet}
use Rattle.wcp_clock.specs.declared.note.Note.{Note}
use Rattle.wcp_clock.specs.declared.note.Note.TheVariants as note
use Rattle.wcp_model.specs.declared.flag.Flag.{Flag}
use Rattle.wcp_model.specs.declared.step.Step.{Step}
use Rattle.wcp_model.specs.declared.step.Step.TheVariants as step
use Rattle.wcp_model.specs.declared.state.State.{State}
use Rattle.wcp_model.specs.Computation.{Computation, IsTrueState}
use Rattle.wcp_model.specs.Flag.{WasReset}
use Rattle.wcp_model.specs.StateClock.{IsStateClock}

abbrev pub is_close_of : ℕ → Step → Bool
is_close_of p (step.Close q) = q == p
is_close_of p _ = false

-- A process is closed once it has a close step.
abbrev pub is_closed : Computation → ℕ → Bool
is_closed c p = list_any (is_close_of p) c

abbrev pub is_drop_of : ℕ → Step → Bool
is_drop_of p (step.Dropped q) = q == p
is_drop_of p _ = false

-- A process is dropped once it has a drop step: it is lost, as one that stops without a word (Cristian 1991: a crash).
abbrev pub is_dropped : Computation → ℕ → Bool
is_dropped c p = list_any (is_drop_of p) c

-- A process has ended once it is closed or dropped.
abbrev pub has_ended : Computation → ℕ → Bool
has_ended c p = is_closed c p || is_dropped c p

-- Snapshots with these clocks, numbered from a first number on.
abbrev pub snapshots_from : ℕ → List (List ℕ) → List Note
snapshots_from number [] = []
snapshots_from number (clock ∷ clocks) = note.Snap number clock ∷ snapshots_from (number + 1) clocks

-- A state is emitted if its process is watched, it is true, and since each earlier true state of its process the flag
-- was reset (Garg and Waldecker 1994: the first true state since the flag's reset).
pub record IsEmittedState (watched : NumberSet) (flag : Flag) (c : Computation) (s : State) : Type 0 where
  pub watched_process : set.contains watched s.process ≡ true
  pub true_state : IsTrueState c s
  pub first : (k : ℕ) → k < s.interval → IsTrueState c (record { process = s.process; interval = k }) →
      WasReset flag c s.process k s.interval

-- The states of a process that are emitted, by rising interval.
pub record AreEmittedStates (watched : NumberSet) (flag : Flag) (c : Computation) (p : ℕ) (intervals : List ℕ)
    : Type 0 where
  pub rising : IsStrictlyIncreasing intervals
  pub each : (k : ℕ) → Contains intervals k ↔ IsEmittedState watched flag c (record { process = p; interval = k })

-- What a process emits: a snapshot of each of these states, by rising interval, with the state's clock, and once it is
-- closed a mark that counts them (Garg and Waldecker 1994: the messages to the checker process).
pub record AreEmissions (n : ℕ) (watched : NumberSet) (flag : Flag) (c : Computation) (p : ℕ) (notes : List Note)
    : Type 0 where
  pub intervals : List ℕ
  pub states : AreEmittedStates watched flag c p intervals
  pub clocks : List (List ℕ)
  pub same_length : length clocks ≡ length intervals
  pub each : (i : ℕ) → i < length intervals →
      IsStateClock n c (record { process = p; interval = slice_index intervals i }) (slice_index_or clocks i [])
  pub notes_are : notes ≡ snapshots_from 0 clocks ++ (if is_closed c p then note.Close (length clocks) ∷ [] else [])
