use Rattle.std.proofs.Common.{◌≡◌, ◌++◌, ◌<◌, ◌^◌, take}
use Rattle.std.specs.Prelude.{All}
use Rattle.wcp_saved.proofs.writing.put_numbers.Given as goal

abbrev pub invariant-loop-number : goal.invariant-loop-number
invariant-loop-number l = record {
  words : l.words.items ≡ l.initial.words.items ++ take l.number-index l.numbers;
  range : All (λ number. number < 2 ^ 32) (take l.number-index l.numbers);
}
