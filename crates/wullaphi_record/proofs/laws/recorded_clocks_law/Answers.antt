use Rattle.wullaphi_record.proofs.Following.{clocks_law}
use Rattle.wullaphi_record.proofs.laws.recorded_clocks_law.Goals as goal

pub returns : goal.returns
returns c = clocks_law
