-- What a log that is being read keeps of the lines so far, and what reading one line more answers.
use Rattle.std.specs.Prelude.{◌≡◌, ℕ, ◌-◌, Bool, false, List, Option, Result, Ok, Err, option_map, is_some, nat_le}
use Rattle.std.specs.Option.{option_map_or}
use Rattle.trace_log.specs.declared.fault.LineFault.{LineFault}
use Rattle.trace_log.specs.declared.fault.LineFault.TheVariants.{Has, Memory}
use Rattle.trace_log.specs.declared.fault.LogReadFault.{LogReadFault}
use Rattle.trace_log.specs.declared.fault.LogReadFault.TheVariants as fault
use Rattle.trace_log.specs.declared.turn.Form.{Form}
use Rattle.trace_log.specs.declared.log.Log.{Log}
use Rattle.trace_log.specs.Judgement.{fault_in}
use Rattle.trace_log.specs.Log.{Logged, Turn, SoFar, after, next_turn, most_lines}
use Rattle.trace_log.specs.Turns.{seen_halves, seen_ended, with_half}
use Rattle.trace_log.specs.Hosts.{KeepsLast}

-- A log of this form has read these lines.
pub record HasRead (form : Form) (so_far : SoFar) (log : Log) : Type 0 where
  pub form_is : log.form ≡ form
  pub lines : log.lines ≡ so_far.lines
  pub waits : seen_halves log.kept log.half ≡ so_far.half
  pub keeps : KeepsLast log.kept.hosts (with_half so_far.events so_far.half)

-- The event that the last line ended, if it ended one.
abbrev pub last_event : Log → Option Logged
last_event log = option_map (seen_ended log.kept) log.ended

-- How many lines more a log can have.
abbrev pub lines_left : Log → ℕ
lines_left log = most_lines - log.lines

-- The last line that is read was read.
abbrev pub is_over : Log → Bool
is_over log = option_map_or (λ last. nat_le last log.lines) log.form.last false

-- What one line more said was read: the event, if it ended one.
pub record IsTurn (form : Form) (so_far : SoFar) (line : List ℕ) (logged : Option Logged) (log : Log) : Type 0 where
  pub turn : Turn
  pub said : next_turn form so_far line ≡ Ok turn
  pub event : logged ≡ turn.event
  pub read : HasRead form (after so_far turn) log

-- What reading one line more answers: what it says, or its fault, unless memory ran out. After either of these the log
-- is as before.
abbrev pub ReadsLine : Form → SoFar → List ℕ → Result Bool LogReadFault → Log → Type 0
ReadsLine form so_far line (Ok ended) log =
    IsTurn form so_far line (last_event log) log × (ended ≡ is_some (last_event log))
ReadsLine form so_far line (Err (fault.Log what)) log =
    (next_turn form so_far line ≡ Err what) × HasRead form so_far log
ReadsLine form so_far line (Err fault.Memory) log = HasRead form so_far log

-- The fault of a line, with the line's number.
abbrev pub fault_at : ℕ → LineFault → LogReadFault
fault_at line (Has kind) = fault.Log (fault_in line kind)
fault_at line Memory = fault.Memory
