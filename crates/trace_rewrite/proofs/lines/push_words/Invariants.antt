use Rattle.std.proofs.Common.{◌≡◌, ◌++◌, take}
use Rattle.trace_rewrite.specs.Lines.{in_one_line}
use Rattle.trace_rewrite.proofs.lines.push_words.Given as goal

abbrev pub invariant-loop-byte : goal.invariant-loop-byte
invariant-loop-byte l = l.out.items ≡ l.fn.out.items ++ in_one_line (take l.byte-index l.words)
