use Rattle.trace_asking.proofs.Seekers.{hosts_tell, runs_tell, two_know, two_tell}
use Rattle.trace_asking.proofs.seeker.Seeker.found.Goals as goal

pub found-requires-in-AnyTwo : goal.found-requires-in-AnyTwo
found-requires-in-AnyTwo c = two_know c.in-AnyTwo.pair (rw c.in-AnyTwo.is at c.requires)

pub returns-in-Hosts : goal.returns-in-Hosts
returns-in-Hosts c question logged knows =
    hosts_tell question logged c.in-Hosts.recording c.found.result (rw c.in-Hosts.is at knows) c.found.ensures.tells
    c.found.ensures.why

pub returns-in-AnyTwo : goal.returns-in-AnyTwo
returns-in-AnyTwo c question logged knows =
    two_tell question logged c.in-AnyTwo.pair c.found-in-AnyTwo.result c.plain.result (rw c.in-AnyTwo.is at knows)
    c.found-in-AnyTwo.ensures c.plain.ensures.alone c.plain.ensures.why

pub returns-in-Definitely : goal.returns-in-Definitely
returns-in-Definitely c question logged knows =
    runs_tell question logged c.in-Definitely.watcher c.found-in-Definitely.result c.plain-in-Definitely.result
    (rw c.in-Definitely.is at knows) c.found-in-Definitely.ensures c.plain-in-Definitely.ensures.alone
    c.plain-in-Definitely.ensures.why
