use Rattle.wullaphi.proofs.lent_probe.LentProbe.lose.Goals as goal

pub returns-clause-some_log : goal.returns-clause-some_log
returns-clause-some_log g c = rw (← c.self.view_is) c.self.invariant.some_log
