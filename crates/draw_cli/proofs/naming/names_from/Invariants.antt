use Rattle.std.proofs.Common.{◌≡◌, length}
use Rattle.draw_cli.proofs.naming.names_from.Given as goal

abbrev pub invariant-loop-text : goal.invariant-loop-text
invariant-loop-text l = length l.names.items ≡ l.text-index
