-- The names in a clock.
use Rattle.std.specs.Prelude.{ℕ, List, map}
use Rattle.trace_log.specs.Clock.{Member}

abbrev pub names_in : List Member → List (List ℕ)
names_in clock = map (λ (one : Member). one.name) clock
