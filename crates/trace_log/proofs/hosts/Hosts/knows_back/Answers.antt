use Rattle.trace_log.proofs.Words.{◌≡◌, ◌∙◌, [], ap, sym, arith, length}
use Rattle.std.proofs.lemmas.List.{get_or_past}
use Rattle.trace_log.specs.Hosts.{Host, host_at}
use Rattle.trace_log.specs.Order.{know_each_other}
use Rattle.trace_log.proofs.Cycles.{none_knows_back}
use Rattle.trace_log.proofs.hosts.Hosts.knows_back.Goals as goal

pub returns-in-None : goal.returns-in-None
returns-in-None c =
    let at : host_at c.args.self.now c.args.other ≡ record { name = []; clock = [] } =
    get_or_past c.args.self.now c.args.other _
    (omega (arith, ap length c.deref.ensures.value, ap length c.self.view_is, c.in-None.ensures.lookup)) in
    none_knows_back c.args.host.now [] c.args.own c.args.number
    ∙ ap (λ (h : Host). know_each_other c.args.host.now c.args.own (record {
      name = h.name;
      number = c.args.number;
    }) h.clock) (sym at)
