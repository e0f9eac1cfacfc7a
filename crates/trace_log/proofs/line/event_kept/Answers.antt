use Rattle.std.specs.Prelude.{IfSome}
use Rattle.trace_log.proofs.Words.{◌≡◌, subst, Ok, List, Event, KeepsLast, string_bytes}
use Rattle.trace_log.specs.Event.{text_in}
use Rattle.trace_log.specs.Kept.{KeepsEvent}
use Rattle.trace_log.specs.Log.{event_after}
use Rattle.trace_log.proofs.PlainEvents.{text_same}
use Rattle.trace_log.proofs.line.event_kept.Goals as goal

pub returns-in-Some-clause-event : goal.returns-in-Some-clause-event
returns-in-Some-clause-event c earlier kept =
    let line = c.args.line.now in
    let given = subst (λ o. IfSome o (λ number. (before : List Event) → text_in line ≡ Ok line →
    KeepsLast c.args.hosts.now before → KeepsEvent before (event_after before line) (Ok number) c.plain_kept.new.hosts
    (string_bytes c.plain_kept.new.said))) c.in-Some.is c.in_ok-number.ensures.some in
    given earlier (text_same line c.in_ok-text.text.now c.in_ok-text.ensures) kept
