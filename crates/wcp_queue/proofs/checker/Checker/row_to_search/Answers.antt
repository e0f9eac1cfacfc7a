use Rattle.wcp_queue.proofs.Words.{sym, checker_state}
use Rattle.wcp_queue.proofs.WatchedRows.{row_of_all}
use Rattle.wcp_queue.proofs.checker.Checker.row_to_search.Goals as goal

pub returns-then-watches_all-clause-row : goal.returns-then-watches_all-clause-row
returns-then-watches_all-clause-row c =
    let checker = checker_state c.self.inside in
    let all = rw (← c.self.view_is) at (c.watches_all.ensures.0 c.if-watches_all.true) in
    let within = rw (← c.self.view_is) at c.requires in
    rw (← c.self.view_is)
    (sym (row_of_all checker.count checker.watched checker.members c.self.invariant.members all c.args.p within))
