use Rattle.wcp_probe.specs.Seal.{open_seal_of}
use Rattle.wullaphi.proofs.TakenStamps.{takes_none, takes_some}
use Rattle.wullaphi.proofs.lent_probe.LentProbe.take_of_run.Goals as goal

pub returns-in-Some-clause-taken : goal.returns-in-Some-clause-taken
returns-in-Some-clause-taken g c =
    takes_some c.take_new.result (open_seal_of c.args.sent.now.message) _ _ c.take_new.ensures.taken

pub returns-in-Some-clause-refused : goal.returns-in-Some-clause-refused
returns-in-Some-clause-refused g c =
    takes_none c.take_new.result (open_seal_of c.args.sent.now.message) _ _ c.take_new.ensures.first
    c.take_new.ensures.refused
