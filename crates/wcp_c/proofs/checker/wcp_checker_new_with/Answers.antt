use Rattle.wcp_c.proofs.checker.wcp_checker_new_with.Goals as goal

pub returns-in-Ok-clause-made : goal.returns-in-Ok-clause-made
returns-in-Ok-clause-made c =
    λ is_done. rw c.of.ensures (c.watched_of.result, c.watched_of.ensures.set, c.in-Ok.ensures)
