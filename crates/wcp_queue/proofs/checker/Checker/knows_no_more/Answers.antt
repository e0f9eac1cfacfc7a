use Rattle.wcp_queue.proofs.Words.{◌≡◌, sym, ◌∙◌, checker_state}
use Rattle.std.proofs.Common.{eqb-true}
use Rattle.wcp_queue.proofs.WatchedRows.{known_of_all}
use Rattle.wcp_queue.proofs.checker.Checker.knows_no_more.Goals as goal

pub returns-then-watches_all-clause-known : goal.returns-then-watches_all-clause-known
returns-then-watches_all-clause-known c = λ same.
    let checker = checker_state c.self.inside in
    let all = rw (← c.self.view_is) at (c.watches_all.ensures.0 c.if-watches_all.true) in
    let is : c.len.result ≡ c.self.inside.processes = eqb-true _ _ same in
    rw (← c.self.view_is)
    (known_of_all checker.count checker.watched checker.members c.self.invariant.members all c.args.clock.now
    (sym c.len.ensures.value ∙ is))
