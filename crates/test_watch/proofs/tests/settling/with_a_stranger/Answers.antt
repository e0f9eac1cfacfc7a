use Rattle.std.proofs.Common.{sym, subst}
use Rattle.wcp_watch.specs.Settling.{ComeFromWatch}
use Rattle.test_watch.proofs.EndsOfWatch.{with_stranger}
use Rattle.test_watch.proofs.tests.settling.with_a_stranger.Goals as goal

pub returns : goal.returns
returns c =
    subst (λ probes. ComeFromWatch probes c.args.ends.relays.items c.args.ends.checker) (sym c.in_ok-push.ensures.items)
    (with_stranger c.args.ends.probes.items c.args.ends.relays.items c.args.stranger c.args.ends.checker c.requires.come
    c.requires.other)
