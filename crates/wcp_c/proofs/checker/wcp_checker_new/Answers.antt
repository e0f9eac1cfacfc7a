use Rattle.wcp_c.proofs.checker.wcp_checker_new.Goals as goal

pub returns-in-Ok-clause-made : goal.returns-in-Ok-clause-made
returns-in-Ok-clause-made c = λ is_done. rw c.of.ensures (c.all.result, c.all.ensures, c.in-Ok.ensures)
