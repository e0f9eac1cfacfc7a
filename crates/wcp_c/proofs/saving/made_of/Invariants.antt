use Rattle.std.proofs.Common.{◌≡◌, map, take}
use Rattle.std.specs.Prelude.{All}
use Rattle.wcp_queue.specs.Checker.{IsSoundChecker}
use Rattle.wcp_queue.specs.Parts.{state_of}
use Rattle.wcp_c.proofs.saving.made_of.Given as goal

abbrev pub invariant-loop-own : goal.invariant-loop-own
invariant-loop-own l = record {
  value : l.checkers.items ≡ map state_of (take l.own-index l.parts);
  sound : All (λ own. IsSoundChecker (state_of own)) (take l.own-index l.parts);
}
