use Rattle.std.proofs.Common.{◌≡◌, ◌<◌, drop}
use Rattle.wcp_saved.specs.Spelling.{sums_of, checksum}
use Rattle.wcp_saved.proofs.bytes.checksum.Given as goal

abbrev pub invariant-loop-byte : goal.invariant-loop-byte
invariant-loop-byte l = record {
  low : l.low < 65521;
  high : l.high < 65521;
  sums : sums_of l.low l.high (drop l.byte-index l.bytes) ≡ checksum l.bytes;
}
