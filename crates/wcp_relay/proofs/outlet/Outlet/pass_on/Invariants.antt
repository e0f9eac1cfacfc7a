use Rattle.wcp_relay.proofs.Words.{◌≡◌, None, handed, IsSound, IsSameOutlet, HasPutBundles, length}
use Rattle.wcp_relay.proofs.outlet.Outlet.pass_on.Given as goal

abbrev pub invariant-loop-bundle : goal.invariant-loop-bundle
invariant-loop-bundle g l =
    record {
      same : IsSameOutlet l.initial.self l.self;
      sound : IsSound l.self;
      handed : handed l.self ≡ handed l.initial.self;
      bundles : HasPutBundles l.initial.self.hold.items l.self.hold.items l.initial.self l.self;
      uncut : l.self.cut ≡ None;
    }

abbrev pub decreases-loop-bundle : goal.decreases-loop-bundle
decreases-loop-bundle g l = length l.self.hold.items
