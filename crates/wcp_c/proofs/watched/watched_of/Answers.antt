use Rattle.wcp_c.proofs.Members.{some_named}
use Rattle.wcp_c.proofs.watched.watched_of.Goals as goal

pub returns-clause-some : goal.returns-clause-some
returns-clause-some c =
    some_named c.args.processes c.args.numbers.now c.set_of.result c.requires.processes c.set_of.ensures
