use Rattle.std.proofs.Common.{◌≡◌, length}
use Rattle.draw_cli.proofs.naming.numbered.Given as goal

abbrev pub invariant-loop-p : goal.invariant-loop-p
invariant-loop-p l = length l.names.items ≡ l.p-counter
