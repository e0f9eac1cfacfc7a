use Rattle.std.proofs.Common.{subst}
use Rattle.std.specs.Prelude.{All}
use Rattle.wcp_queue.specs.Checker.{CheckerState}
use Rattle.wcp_queue.specs.Panel.{HaveTakenAlike}
use Rattle.wcp_c.proofs.AskedPanels.{all_may_take, some_question}
use Rattle.wcp_c.proofs.several.Several.take.Goals as goal

pub take-requires : goal.take-requires
take-requires c =
    let panel = c.self.inside.panel in
    all_may_take panel c.args.item.now
    (subst (λ (one : CheckerState). All (HaveTakenAlike one) panel) c.first-first.ensures.value
    c.first-first.ensures.alike)
    (rw (← c.self.view_is) at c.requires)

pub returns-clause-processes : goal.returns-clause-processes
returns-clause-processes c = rw (← c.self.view_is)
    (c.take.ensures.each.each 0 (some_question c.self.inside.panel c.args.item.now
    (rw (← c.self.view_is) at c.requires))).processes
