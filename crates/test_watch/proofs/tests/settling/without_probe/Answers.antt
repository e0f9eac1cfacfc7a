use Rattle.std.proofs.Common.{sym, subst}
use Rattle.wcp_watch.specs.Settling.{ComeFromWatch}
use Rattle.test_watch.proofs.EndsOfWatch.{without_probe}
use Rattle.test_watch.proofs.tests.settling.without_probe.Goals as goal

pub returns : goal.returns
returns c =
    subst (λ probes. ComeFromWatch probes c.args.ends.relays.items c.args.ends.checker) (sym c.remove.ensures.items)
    (without_probe c.args.ends.probes.items c.args.ends.relays.items c.in_ok-at.at c.args.ends.checker c.requires)
