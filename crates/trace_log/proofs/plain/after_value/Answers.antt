use Rattle.json.specs.Json.{string}
use Rattle.trace_log.proofs.PlainEvents.{quoted_value}
use Rattle.trace_log.proofs.plain.after_value.Goals as goal

pub returns-in-Some : goal.returns-in-Some
returns-in-Some c = (
  string c.in-Some.field-0-0.now,
  quoted_value c.in-Some.field-0-0.now c.args.text.now c.in-Some.rest.now c.in-Some.ensures,
)
