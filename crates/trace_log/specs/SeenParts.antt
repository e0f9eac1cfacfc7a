-- What was found of an event, as the code has it.
use Rattle.std.specs.Prelude.{option_map}
use Rattle.trace_log.specs.declared.parts.Parts.{Parts as OwnParts}
use Rattle.trace_log.specs.PlainEvents.{Parts}

abbrev pub seen_parts : OwnParts → Parts
seen_parts parts = record {
  host = option_map (λ text. text.now) parts.host;
  text = option_map (λ text. text.now) parts.text;
  place = option_map (λ text. text.now) parts.place;
}
