use Rattle.trace_moment.specs.Moment.{HaveDistinctHosts}
use Rattle.trace_moment.specs.Search.{watched_by}
use Rattle.trace_moment.proofs.Words.{sym, subst}
use Rattle.trace_moment.proofs.Behind.{are_those_behind}
use Rattle.trace_moment.proofs.KeptQueues.{watched_same}
use Rattle.trace_moment.proofs.search.Search.go_on.Goals as goal

pub returns-clause-next : goal.returns-clause-next
returns-clause-next c taken moment has =
    are_those_behind (watched_by c.args.self.now) moment taken
    (subst HaveDistinctHosts (sym (watched_same c.args.self.now.queues.items has.queues has.are)) has.distinct)
