use Rattle.wcp_queue.proofs.Words.{◌≡◌, arith, common_steps}
use Rattle.wcp_queue.specs.Panel.{question_at}
use Rattle.wcp_queue.proofs.panel.Panel.report.Goals as goal

pub returns-clause-exact : goal.returns-clause-exact
returns-clause-exact c =
    let same : c.index.result.now ≡ question_at c.args.self.now c.args.question = grind (arith, common_steps) in
    rw (← same) c.report.ensures.exact
