use Rattle.std.proofs.Common.{◌≡◌, ◌++◌, take}
use Rattle.std.specs.List.{flat_map}
use Rattle.std.specs.Prelude.{All}
use Rattle.wcp_saved.specs.Spelling.{counted, IsClock}
use Rattle.wcp_saved.proofs.writing.put_queue.Given as goal

abbrev pub invariant-loop-clock : goal.invariant-loop-clock
invariant-loop-clock l = record {
  words : l.words.items ≡ l.initial.words.items ++ flat_map counted (take l.clock-index l.clocks);
  range : All IsClock (take l.clock-index l.clocks);
}
