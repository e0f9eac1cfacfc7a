use Rattle.std.proofs.Common.{subst}
use Rattle.std.specs.Str.{IsUtf8}
use Rattle.json.specs.Value.{value_view}
use Rattle.trace_rewrite.proofs.EventsRead.{event_read}
use Rattle.trace_rewrite.proofs.lines.push_event.Goals as goal

pub returns-clause-says : goal.returns-clause-says
returns-clause-says c short =
    event_read c.args.number c.args.host.now c.args.text.now (value_view c.args.clock.now) c.ranges.number.fits
    c.requires (subst IsUtf8 c.in_ok-json.ensures.json c.in_ok-json.ensures.utf8) short
