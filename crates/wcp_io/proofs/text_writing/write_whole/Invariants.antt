use Rattle.std.proofs.Common.{◌≤◌, length, take}
use Rattle.std.specs.Io.KnownBytes.{Appends}
use Rattle.wcp_io.proofs.text_writing.write_whole.Given as goal

abbrev pub invariant-loop : goal.invariant-loop
invariant-loop g l = record {
  written : Appends (g.W.Write.contents l.fn.output) (g.W.Write.contents l.output) (take l.written l.text);
  within : l.written ≤ length l.text;
}
