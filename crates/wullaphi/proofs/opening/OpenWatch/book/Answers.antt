use Rattle.wcp_model.proofs.CheckedPlans.{few_processes, some_process}
use Rattle.wullaphi.proofs.opening.OpenWatch.book.Goals as goal

pub new-requires-clause-some : goal.new-requires-clause-some
new-requires-clause-some c =
    rw c.self.invariant.count (some_process c.self.inside.plan.value c.self.invariant.is_open.checked)

pub new-requires-clause-within : goal.new-requires-clause-within
new-requires-clause-within c =
    rw c.self.invariant.count (few_processes c.self.inside.plan.value c.self.invariant.is_open.checked)
