use Rattle.wcp_watch.proofs.WatchEnds.{come_from_watch}
use Rattle.test_watch.proofs.EndsOfWatch.{own_probes, own_relays}
use Rattle.test_watch.proofs.tests.settling.run_watch.Goals as goal

pub close_all-requires : goal.close_all-requires
close_all-requires g c = own_probes _ _ c.open-watch.ensures.wired

pub run_all-requires : goal.run_all-requires
run_all-requires g c = own_relays _ _ c.open-watch.ensures.wired

pub returns : goal.returns
returns g c =
    come_from_watch c.open-watch.ensures.wired c.two_hops-plan.ensures
    (rw c.expect-probes.ensures at c.close_all.ensures) (rw c.expect-relays.ensures at c.run_all.ensures)
    c.check_loop-checker.ensures
