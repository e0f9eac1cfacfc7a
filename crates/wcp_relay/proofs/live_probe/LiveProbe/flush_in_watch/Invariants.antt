use Rattle.wcp_relay.proofs.Words.{◌≡◌, List, Call, LiveFor}
use Rattle.wcp_relay.proofs.live_probe.LiveProbe.flush_in_watch.Given as goal

abbrev pub invariant-loop : goal.invariant-loop
invariant-loop g l =
    record {
      goes_on : (goal.iterator-loop g).can_next l.iterator';
      ends : (goal.iterator-loop g).is_finite l.iterator';
      core : l.self.core ≡ l.initial.self.core;
      ring : l.self.link.ring ≡ l.initial.self.link.ring;
      stands : (log : List Call) → LiveFor l.initial.self log → LiveFor l.self log;
    }
