use Rattle.trace_condition.specs.Sayings.{seen_words}
use Rattle.trace_condition.proofs.Conditions.{have_hosts_if_read}
use Rattle.trace_condition.proofs.condition.read_conditions.Goals as goal

pub returns-clause-hosts : goal.returns-clause-hosts
returns-clause-hosts c =
    have_hosts_if_read (seen_words c.args.words.now) _ c.in_ok-sayings.ensures c.read_each.result
    (rw c.deref.ensures.value at c.read_each.ensures)
