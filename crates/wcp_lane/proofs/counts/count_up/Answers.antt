use Rattle.std.proofs.Common.{arith}
use Rattle.wcp_lane.proofs.Counting.{counted_next}
use Rattle.wcp_lane.proofs.counts.count_up.Goals as goal

pub returns : goal.returns
returns g c = λ items before numbers is old may. counted_next g.M.Origin.origin g.M.Origin.place g.M.Origin.last numbers
    _ before items _ _ (omega arith) c.requires is old may
