use Rattle.std.proofs.Common.{refl}
use Rattle.trace_spelling.proofs.spelling.Spelling.by_fields.Goals as goal

pub returns : goal.returns
returns c = record {
  fields = record { host = c.in_ok-new.field-0; clock = c.in_ok-new-2.field-0; event = c.in_ok-new-3.field-0 };
  found = refl;
  host_at = c.in_ok-new.ensures;
  clock_at = c.in_ok-new-2.ensures;
  event_at = c.in_ok-new-3.ensures;
  lined = refl;
  skipping = refl;
}
