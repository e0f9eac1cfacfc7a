use Rattle.wcp_c.proofs.shelf.Shelf.drop_spent.Goals as goal

pub returns-clause-right : goal.returns-clause-right
returns-clause-right c = rw (← c.self.view_is) c.drop_spent.ensures.right

pub returns-clause-kept : goal.returns-clause-kept
returns-clause-kept c = rw (← c.self.view_is) c.drop_spent.ensures.kept
