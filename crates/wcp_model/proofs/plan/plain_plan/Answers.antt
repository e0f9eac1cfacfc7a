use Rattle.std.proofs.Common.{rules}
use Rattle.wcp_model.proofs.PlainPlans.{plain_is_checked}
use Rattle.wcp_model.proofs.plan.plain_plan.Goals as goal

pub returns-clause-checked : goal.returns-clause-checked
returns-clause-checked c = plain_is_checked c.args.n c.args.cap c.args.hold c.new.result (search rules)
