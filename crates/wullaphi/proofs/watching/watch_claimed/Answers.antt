use Rattle.wcp_model.proofs.CheckedPlans.{few_processes, some_process}
use Rattle.wullaphi.proofs.watching.watch_claimed.Goals as goal

pub claim-requires-clause-some : goal.claim-requires-clause-some
claim-requires-clause-some g c = some_process c.args.plan.now c.requires.checked

pub claim-requires-clause-within : goal.claim-requires-clause-within
claim-requires-clause-within g c = few_processes c.args.plan.now c.requires.checked
