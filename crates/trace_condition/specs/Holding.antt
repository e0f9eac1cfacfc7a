-- When a condition holds at the events of a host, by their texts.
use Rattle.std.specs.Prelude.{ℕ, Bool, true, false, not, List, fold, is_some, if◌then◌else◌}
use Rattle.regex.specs.Patterns.{Re, find_str}
use Rattle.trace_condition.specs.declared.rule.Rule.{Rule}
use Rattle.trace_condition.specs.declared.rule.Rule.TheVariants.{While, FromUntil, At}

-- A pattern has a match in a text.
abbrev pub matches : Re → List ℕ → Bool
matches pattern text = is_some (find_str pattern text 0)

-- Whether a condition holds at an event with this text, by whether it held at the host's event before.
abbrev pub holds_next : Rule Re → Bool → List ℕ → Bool
holds_next (While pattern) held text = matches pattern text
holds_next (FromUntil from until) held text = if held then not (matches until text) else matches from text
holds_next (At pattern) held text = matches pattern text

-- Whether it holds at the last of a host's events; before the first it doesn't.
abbrev pub holds_at_last : Rule Re → List (List ℕ) → Bool
holds_at_last rule texts = fold (holds_next rule) false texts

-- Whether what holds at an event lasts until the host's next event.
abbrev pub lasts : {E : Type 0} → Rule E → Bool
lasts (At expression) = false
lasts rule = true
