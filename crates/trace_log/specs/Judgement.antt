-- How a line is judged: question after question, and the first one that finds a fault decides.
use Rattle.std.specs.Prelude.{◌≡◌, ℕ, Bool, Result, Ok, Err, if◌then◌else◌}
use Rattle.trace_log.specs.declared.fault.LogFaultKind.{LogFaultKind}
use Rattle.trace_log.specs.declared.fault.LineFault.{LineFault}
use Rattle.trace_log.specs.declared.fault.LogFault.{LogFault}
use Rattle.trace_log.specs.declared.fault.LineFault.TheVariants.{Has, Memory}

-- The next question is asked where the one before it found no fault.
infixl 10 ◌>>=◌
abbrev pub ◌>>=◌ : {A B E : Type 0} → Result A E → (A → Result B E) → Result B E
(Ok found) >>= next = next found
(Err fault) >>= next = Err fault

-- A question, and the fault where its answer is no.
abbrev pub ask : Bool → LogFaultKind → Result (Unit {0}) LogFaultKind
ask holds what = if holds then Ok tt else Err what

-- A function failed with the fault that was found, unless memory ran out.
abbrev pub Fails : {Y : Type 0} → LineFault → Result Y LogFaultKind → Type 0
Fails Memory judged = Unit {0}
Fails (Has what) judged = judged ≡ Err what

-- What a function returned, seen by view, is what was judged, or the fault that was found, unless memory ran out.
abbrev pub Gives : {X Y : Type 0} → (X → Y) → Result X LineFault → Result Y LogFaultKind → Type 0
Gives view (Ok found) judged = judged ≡ Ok (view found)
Gives view (Err fault) judged = Fails fault judged

-- A fault of a line, by the line's number. No contract speaks of its words.
abbrev pub fault_in : ℕ → LogFaultKind → LogFault
fault_in line what = record { line = line; kind = what; detail = tt }

-- What was judged, with the line's number at a fault.
abbrev pub at_line : {A : Type 0} → ℕ → Result A LogFaultKind → Result A LogFault
at_line line (Ok found) = Ok found
at_line line (Err what) = Err (fault_in line what)
