use Rattle.trace_asking.proofs.Seekers.{hosts_last, runs_last, two_last}
use Rattle.trace_asking.proofs.seeker.Seeker.last.Goals as goal

pub returns-in-Hosts : goal.returns-in-Hosts
returns-in-Hosts c question logged seeking =
    hosts_last question logged c.in-Hosts.recording c.last.result (rw c.in-Hosts.is at seeking) c.last.ensures.answer
    c.last.ensures.why

pub returns-in-AnyTwo : goal.returns-in-AnyTwo
returns-in-AnyTwo c question logged seeking =
    two_last question logged c.in-AnyTwo.pair c.last-in-AnyTwo.result c.plain.result (rw c.in-AnyTwo.is at seeking)
    (c.last-in-AnyTwo.ensures logged) c.plain.ensures.alone c.plain.ensures.why

pub returns-in-Definitely : goal.returns-in-Definitely
returns-in-Definitely c question logged seeking =
    runs_last question logged c.in-Definitely.watcher c.last-in-Definitely.result c.plain-in-Definitely.result
    (rw c.in-Definitely.is at seeking) c.last-in-Definitely.ensures c.plain-in-Definitely.ensures.alone
    c.plain-in-Definitely.ensures.why
