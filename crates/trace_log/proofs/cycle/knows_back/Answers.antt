use Rattle.trace_log.proofs.Words.{◌∙◌, ap, sym}
use Rattle.trace_log.specs.Order.{know_each_other}
use Rattle.trace_log.proofs.Cycles.{back_by_number, none_knows_back}
use Rattle.trace_log.proofs.HostNumbers.{no_clock}
use Rattle.trace_log.proofs.cycle.knows_back.Goals as goal

pub returns-in-Some : goal.returns-in-Some
returns-in-Some c =
    c.knows_back.ensures ∙ back_by_number c.args.hosts.now c.args.host.now c.args.name.now c.args.own c.args.number
    c.in-Some.other (sym c.number_at.ensures ∙ c.in-Some.is)

pub returns-in-None : goal.returns-in-None
returns-in-None c =
    none_knows_back c.args.host.now c.args.name.now c.args.own c.args.number
    ∙ ap (λ clock. know_each_other c.args.host.now c.args.own (record {
      name = c.args.name.now;
      number = c.args.number;
    }) clock) (no_clock c.args.name.now c.args.hosts.now (sym c.number_at.ensures ∙ c.in-None.is))
