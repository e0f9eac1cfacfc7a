-- What one line more says, as the code has it.
use Rattle.std.specs.Prelude.{◌≡◌, ℕ, List, [], ◌∷◌, ◌++◌, Option, Some, None, Result, Ok, Err, option_map}
use Rattle.std.specs.Prelude.{string_bytes}
use Rattle.trace_log.specs.declared.event.Logged.{Logged as OwnLogged}
use Rattle.trace_log.specs.declared.fault.LineFault.{LineFault}
use Rattle.trace_log.specs.declared.fault.LogFaultKind.{LogFaultKind}
use Rattle.trace_log.specs.declared.turn.Form.{Form}
use Rattle.trace_log.specs.declared.turn.LogLayout.{LogLayout}
use Rattle.trace_log.specs.declared.turn.Half.{Half as OwnHalf}
use Rattle.trace_log.specs.declared.turn.Half.TheVariants as half
use Rattle.trace_log.specs.declared.turn.Ended.{Ended}
use Rattle.trace_log.specs.declared.turn.Turned.{Turned}
use Rattle.trace_log.specs.declared.turn.Kept.{Kept}
use Rattle.trace_log.specs.declared.numbered.LineSays.{LineSays}
use Rattle.trace_log.specs.declared.numbered.LineSays.TheVariants as says
use Rattle.trace_log.specs.declared.numbered.NumberedLine.{NumberedLine}
use Rattle.trace_log.specs.Judgement.{Fails}
use Rattle.trace_log.specs.Numbered.{Numbered}
use Rattle.trace_log.specs.Event.{Event}
use Rattle.trace_log.specs.Log.{Half, stamped, texted, Logged, said_at, turn_of, with_event, whole}
use Rattle.trace_log.specs.Hosts.{KeepsLast}
use Rattle.trace_log.specs.Kept.{stamp_at, event_at}
use Rattle.trace_log.specs.Views.{seen_event}

-- A line of a log, by its number.
abbrev pub seen_says : LineSays → Result (List ℕ) LogFaultKind
seen_says (says.Event text) = Ok text.now
seen_says (says.Fault kind words) = Err kind

abbrev pub seen_numbered : NumberedLine → Numbered
seen_numbered one = record { number = one.number; says = seen_says one.says }

-- The first half of an event.
abbrev pub seen_half : Kept → OwnHalf → Half
seen_half kept (half.Stamped host) = stamped (stamp_at kept.hosts host)
seen_half kept (half.Texted line) = texted line (string_bytes kept.text)

abbrev pub seen_halves : Kept → Option OwnHalf → Option Half
seen_halves kept waits = option_map (seen_half kept) waits

-- The event that a line ended.
abbrev pub seen_ended : Kept → Ended → Logged
seen_ended kept ended =
    record { line = ended.line; event = event_at kept.hosts (string_bytes kept.text) ended.host }

-- An event with the line of its text.
abbrev pub seen_logged : OwnLogged → Logged
seen_logged logged = record { line = logged.line; event = seen_event logged.event }

-- The events so far, with the one whose clock was read and whose text is still to come.
abbrev pub with_half : List Event → Option Half → List Event
with_half events (Some (stamped stamp)) = events ++ whole stamp [] ∷ []
with_half events (Some (texted line text)) = events
with_half events None = events

-- A line that is read says this, and the clocks are kept.
abbrev pub IsTurnOf : LogLayout → Option Half → List Event → ℕ → List ℕ → Result Turned LineFault → Kept → Type 0
IsTurnOf layout waits earlier at line (Ok turned) kept =
    (turn_of layout waits earlier at line ≡ Ok
    (record { half = seen_halves kept turned.half; event = option_map (seen_ended kept) turned.ended }))
    × KeepsLast kept.hosts
    (with_half (with_event earlier (option_map (seen_ended kept) turned.ended)) (seen_halves kept turned.half))
IsTurnOf layout waits earlier at line (Err fault) kept = Fails fault (turn_of layout waits earlier at line)

-- The line of this number says this, if it is read, and the clocks are kept.
abbrev pub IsTurnAt : Form → Option Half → List Event → ℕ → List ℕ → Result Turned LineFault → Kept → Type 0
IsTurnAt form waits earlier at line (Ok turned) kept =
    (said_at form waits earlier at line ≡ Ok
    (record { half = seen_halves kept turned.half; event = option_map (seen_ended kept) turned.ended }))
    × KeepsLast kept.hosts
    (with_half (with_event earlier (option_map (seen_ended kept) turned.ended)) (seen_halves kept turned.half))
IsTurnAt form waits earlier at line (Err fault) kept = Fails fault (said_at form waits earlier at line)
