use Rattle.trace_log.specs.Turns.{seen_logged}
use Rattle.trace_asking.proofs.Seekers.{hosts_take}
use Rattle.trace_asking.proofs.seeker.Seeker.take.Goals as goal

pub returns-in-Hosts : goal.returns-in-Hosts
returns-in-Hosts c question before seeking follows =
    hosts_take question before (seen_logged c.args.logged.now) c.in-Hosts.recording c.take.new.self c.take.result
    (rw c.in-Hosts.is at seeking) (λ conditions why is. c.take.ensures conditions why before is follows)
