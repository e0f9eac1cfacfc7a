-- What a numbered line says after the lines so far.
use Rattle.trace_log.proofs.Words.{◌≡◌, ℕ, List, None, Result, Ok, Err, refl, Event, Has, Memory, LineFault}
use Rattle.trace_log.specs.declared.fault.LogFaultKind.{LogFaultKind}
use Rattle.trace_log.specs.declared.turn.Kept.{Kept}
use Rattle.trace_log.specs.declared.turn.Turned.{Turned}
use Rattle.trace_log.specs.declared.turn.LogLayout.TheVariants.{Lines, Numbered}
use Rattle.trace_log.specs.Log.{turn_of}
use Rattle.trace_log.specs.Numbered.{numbered_in}
use Rattle.trace_log.specs.Turns.{IsTurnOf}

-- The event of a line with a number.
pub numbered_event : (earlier : List Event) (at number : ℕ) (line json : List ℕ) (result : Result Turned LineFault)
    (kept : Kept) → numbered_in line ≡ Ok (record { number = number; says = Ok json })
    → IsTurnOf Lines None earlier number json result kept → IsTurnOf Numbered None earlier at line result kept
numbered_event earlier at number line json (Ok turned) kept said is = (rw said is.0, is.1)
numbered_event earlier at number line json (Err (Has kind)) kept said is = rw said is
numbered_event earlier at number line json (Err Memory) kept said is = tt

-- The fault of a line with a number.
pub numbered_fault : (earlier : List Event) (at number : ℕ) (line : List ℕ) (kind : LogFaultKind)
    → numbered_in line ≡ Ok (record { number = number; says = Err kind })
    → turn_of Numbered None earlier at line ≡ Err kind
numbered_fault earlier at number line kind said = rw said refl

-- A line that isn't numbered.
pub not_numbered : (earlier : List Event) (at : ℕ) (line : List ℕ) (kind : LogFaultKind)
    → numbered_in line ≡ Err kind → turn_of Numbered None earlier at line ≡ Err kind
not_numbered earlier at line kind said = rw said refl
