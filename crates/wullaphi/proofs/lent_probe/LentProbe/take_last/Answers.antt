use Rattle.wcp_probe.specs.Seal.{open_seal_of}
use Rattle.wullaphi.proofs.TakenStamps.{takes_none, takes_some}
use Rattle.wullaphi.proofs.lent_probe.LentProbe.take_last.Goals as goal

pub returns-in-Some-clause-some : goal.returns-in-Some-clause-some
returns-in-Some-clause-some g c =
    takes_some c.take_new.result (open_seal_of c.in-Some.stamp) _ _ c.take_new.ensures.taken

pub returns-in-Some-clause-refused : goal.returns-in-Some-clause-refused
returns-in-Some-clause-refused g c =
    takes_none c.take_new.result (open_seal_of c.in-Some.stamp) _ _ c.take_new.ensures.first c.take_new.ensures.refused
