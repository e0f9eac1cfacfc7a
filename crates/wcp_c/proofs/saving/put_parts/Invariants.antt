use Rattle.std.proofs.Common.{◌≡◌, map, take}
use Rattle.std.specs.Prelude.{All}
use Rattle.wcp_queue.specs.Checker.{IsSoundChecker}
use Rattle.wcp_queue.specs.Parts.{state_of}
use Rattle.wcp_c.proofs.saving.put_parts.Given as goal

abbrev pub invariant-loop-question : goal.invariant-loop-question
invariant-loop-question l = record {
  value : map state_of l.parts.items ≡ take l.question l.panel;
  sound : All IsSoundChecker (take l.question l.panel);
}
