-- How a line is judged: question after question, and the first one that finds a fault decides.
use Rattle.std.specs.Prelude.{ℕ, Bool, List, Result, Ok, Err, if◌then◌else◌}
use Rattle.std.specs.Option.{ok_or}
use Rattle.wcp_script.specs.declared.fault.FaultKind.{FaultKind}
use Rattle.wcp_script.specs.declared.fault.FaultKind.TheVariants as kind
use Rattle.wcp_script.specs.declared.fault.ScriptFault.{ScriptFault}
use Rattle.wcp_script.specs.Lines.{number_spelled}

-- The next question is asked where the one before it found no fault.
infixl 10 ◌>>=◌
abbrev pub ◌>>=◌ : {A B E : Type 0} → Result A E → (A → Result B E) → Result B E
(Ok found) >>= next = next found
(Err fault) >>= next = Err fault

-- A question, and the fault where its answer is no.
abbrev pub ask : Bool → FaultKind → Result (Unit {0}) FaultKind
ask holds what = if holds then Ok tt else Err what

-- A word in the place of a number.
abbrev pub number_in : List ℕ → Result ℕ FaultKind
number_in word = ok_or (number_spelled word) kind.Number

-- A fault of a line, with the line's number.
abbrev pub at_line : {A : Type 0} → ℕ → Result A FaultKind → Result A ScriptFault
at_line line (Ok found) = Ok found
at_line line (Err what) = Err (record { line = line; kind = what })
