-- What is answered where it is asked whether the conditions of hosts must have held at once.
use Rattle.std.specs.Prelude.{◌≡◌, ℕ, ◌+◌, List, [], ◌∷◌, Result, Ok, Err, option_map, string_bytes}
use Rattle.trace_log.specs.Log.{Logged}
use Rattle.trace_moment.specs.Moment.{IsEarliest}
use Rattle.trace_moment.specs.Standing.{HasNoMoment}
use Rattle.trace_definitely.specs.Logs.{LogRun}
use Rattle.trace_runs.specs.Runs.{AreKnown, AreLeastIn, HasNoRuns, NoneAreKnown}
use Rattle.trace_condition.specs.declared.condition.Condition.{Condition}
use Rattle.trace_condition.specs.Conditions.{host_of}
use Rattle.trace_detect.specs.declared.answer.TraceAnswer.{TraceAnswer}
use Rattle.trace_detect.specs.declared.fault.DetectFault.{DetectFault}
use Rattle.trace_detect.specs.declared.fault.DetectFault.TheVariants as fault
use Rattle.trace_detect.specs.Detection.{AllLog, HasSilentHost}
use Rattle.trace_detect.specs.Told.{Told, ToldRun, definite, members_from, none_told, possible, told_by}
use Rattle.trace_detect.specs.Watching.{taken_of, watches}

-- A run of a host, as it is told.
abbrev pub run_of : List ℕ → LogRun → ToldRun
run_of host run = record {
  host = host;
  line = run.begin.line;
  over = option_map (λ over. over.line) run.over;
  text = run.begin.event.text;
}

-- A run for each condition, whose host stands at the place p and on.
abbrev pub runs_from : ℕ → List Condition → (ℕ → LogRun) → List ToldRun
runs_from p [] runs = []
runs_from p (condition ∷ conditions) runs =
    run_of (host_of condition) (runs p) ∷ runs_from (p + 1) conditions runs

-- It is told that the conditions must have held at once, or that they could have.
abbrev pub definite_told : List Condition → (ℕ → LogRun) → Told
definite_told conditions runs = definite (runs_from 0 conditions runs)

abbrev pub possible_told : List Condition → (ℕ → Logged) → Told
possible_told conditions moment = possible (members_from 0 conditions moment)

-- No runs that overlap are known of these events.
abbrev pub KnowsNoRuns : List Condition → List Logged → Type 0
KnowsNoRuns conditions logged = NoneAreKnown (watches conditions) (taken_of conditions logged)

-- Runs are known of these events, whatever follows, and they are told.
pub record TellsRuns (conditions : List Condition) (logged : List Logged) (told : Told) : Type 0 where
  pub runs : ℕ → LogRun
  pub known : AreKnown (watches conditions) (taken_of conditions logged) runs
  pub tells : told ≡ definite_told conditions runs

-- The least runs of all events that overlap are told; or, where none do, the earliest moment; or that there is none, with
-- how often each condition held: then each host logs something.
pub data IsLastDecision (conditions : List Condition) (logged : List Logged) (told : Told) : Type 0 where
  Definite : (runs : ℕ → LogRun) → AreLeastIn (watches conditions) (taken_of conditions logged) runs
      → told ≡ definite_told conditions runs → IsLastDecision conditions logged told
  Possible : HasNoRuns (watches conditions) (taken_of conditions logged) → (moment : ℕ → Logged)
      → IsEarliest (watches conditions) (taken_of conditions logged) moment
      → told ≡ possible_told conditions moment → IsLastDecision conditions logged told
  NoMoment : HasNoRuns (watches conditions) (taken_of conditions logged)
      → HasNoMoment (watches conditions) (taken_of conditions logged) → AllLog logged conditions
      → told ≡ none_told conditions logged → IsLastDecision conditions logged told

-- What is answered at the end of the log.
abbrev pub DecidesLast : List Condition → List Logged → Result TraceAnswer DetectFault → Type 0
DecidesLast conditions logged (Ok answer) = IsLastDecision conditions logged (told_by answer)
DecidesLast conditions logged (Err (fault.NoHost host)) = HasSilentHost conditions logged (string_bytes host)
DecidesLast conditions logged (Err fault.Memory) = Unit {0}
DecidesLast conditions logged (Err _) = ⊥
