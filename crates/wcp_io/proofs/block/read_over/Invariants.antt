use Rattle.wcp_io.proofs.Words.{◌≡◌, vec_len, Keeps}
use Rattle.wcp_io.proofs.block.read_over.Given as goal

abbrev pub invariant-loop : goal.invariant-loop
invariant-loop g l = record {
  kept : Keeps (g.I.Read.remaining l.fn.input) (g.I.Read.remaining l.input);
  len : vec_len l.bytes ≡ vec_len l.fn.bytes;
}
