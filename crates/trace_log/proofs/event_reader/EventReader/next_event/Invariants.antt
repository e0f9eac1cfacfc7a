use Rattle.trace_log.proofs.EventWords.{ℕ, List, Option, Form, Logged, left, lines_left, HasReadEvents}
use Rattle.trace_log.proofs.event_reader.EventReader.next_event.Given as goal

abbrev pub invariant-loop-self : goal.invariant-loop-self
invariant-loop-self g l =
    let remaining = g.I.Read.remaining in
    (form : Form) (known : Option (List ℕ)) (logged : List Logged)
    → HasReadEvents form known (left l.fn.self.lines (remaining l.fn.input)) logged l.fn.self.log →
    HasReadEvents form known (left l.self.lines (remaining l.input)) logged l.self.log

-- How many lines more there can be.
abbrev pub decreases-loop-self : goal.decreases-loop-self
decreases-loop-self g l = lines_left l.self.log
