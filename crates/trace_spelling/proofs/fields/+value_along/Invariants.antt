use Rattle.std.proofs.Common.{length}
use Rattle.trace_spelling.proofs.fields.+value_along.Given as goal

abbrev pub decreases-value_along : goal.decreases-value_along
decreases-value_along l = length l.names.now
