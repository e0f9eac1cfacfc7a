use Rattle.std.proofs.Common.{arith}
use Rattle.wcp_c.proofs.Values.{value_there}
use Rattle.wcp_c.proofs.handle.WcpChecker.take_out.Goals as goal

pub into_parts-requires : goal.into_parts-requires
into_parts-requires c = value_there _ (grind arith)
