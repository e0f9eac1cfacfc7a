use Rattle.std.proofs.Common.{◌≡◌, ◌++◌, ◌<◌, ◌^◌, take}
use Rattle.std.specs.Prelude.{All}
use Rattle.wcp_saved.proofs.writing.put_intervals.Given as goal

abbrev pub invariant-loop-p : goal.invariant-loop-p
invariant-loop-p l = record {
  words : l.words.items ≡ l.initial.words.items ++ take l.p l.intervals;
  range : All (λ number. number < 2 ^ 32) (take l.p l.intervals);
}
