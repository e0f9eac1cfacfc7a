use Rattle.trace_log.proofs.Words.{◌∙◌, sym}
use Rattle.trace_log.proofs.HostNumbers.{number_is, no_clock}
use Rattle.trace_log.proofs.hosts.Hosts.last_clock.Goals as goal

pub returns-in-Some-clause-clock : goal.returns-in-Some-clause-clock
returns-in-Some-clause-clock c =
    c.clock.ensures.clock ∙ sym (number_is c.args.name.now c.args.self.now c.in-Some.number
    (sym c.number.ensures ∙ c.in-Some.is)).clock

pub returns-in-None-clause-clock : goal.returns-in-None-clause-clock
returns-in-None-clause-clock c = no_clock c.args.name.now c.args.self.now (sym c.number.ensures ∙ c.in-None.is)
