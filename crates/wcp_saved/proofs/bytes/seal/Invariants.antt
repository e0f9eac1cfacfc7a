use Rattle.std.proofs.Common.{◌≡◌, take}
use Rattle.wcp_saved.specs.Spelling.{bytes_of}
use Rattle.wcp_saved.proofs.bytes.seal.Given as goal

abbrev pub invariant-loop-word : goal.invariant-loop-word
invariant-loop-word l = l.bytes.items ≡ bytes_of (take l.word-index l.words)
