use Rattle.std.proofs.Common.{◌≡◌, ◌++◌, take}
use Rattle.wcp_saved.specs.Spelling.{flags}
use Rattle.wcp_saved.proofs.writing.put_flags.Given as goal

abbrev pub invariant-loop-mark : goal.invariant-loop-mark
invariant-loop-mark l = l.words.items ≡ l.initial.words.items ++ flags (take l.mark-index l.marks)
