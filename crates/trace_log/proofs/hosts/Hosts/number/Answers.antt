use Rattle.trace_log.proofs.Words.{ap, ◌∙◌}
use Rattle.trace_log.specs.Hosts.{number_among}
use Rattle.trace_log.proofs.hosts.Hosts.number.Goals as goal

pub returns : goal.returns
returns c = c.copied.ensures ∙ c.get.ensures.value ∙ c.self.invariant.0 c.args.name.now
    ∙ ap (λ hosts. number_among c.args.name.now hosts) c.self.view_is
