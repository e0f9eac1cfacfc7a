use Rattle.std.proofs.Common.{◌≡◌, ◌≤◌, length, vec_len}
use Rattle.std.specs.Io.KnownBytes.{Consumes}
use Rattle.wcp_io.specs.Input.{most_bytes}
use Rattle.wcp_io.proofs.text_reading.read_text.Given as goal

abbrev pub invariant-loop : goal.invariant-loop
invariant-loop g l = record {
  consumed : Consumes (g.R.Read.remaining l.fn.input) (g.R.Read.remaining l.input) l.text.items;
  within : vec_len l.text ≤ most_bytes;
  block : length l.block ≡ 65536;
}
