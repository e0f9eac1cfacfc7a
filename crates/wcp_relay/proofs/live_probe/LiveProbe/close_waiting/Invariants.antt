use Rattle.wcp_relay.proofs.Words.{◌≡◌, None, List, Call, LiveFor}
use Rattle.wcp_relay.specs.LiveProbe.{emitted_by}
use Rattle.wcp_relay.proofs.live_probe.LiveProbe.close_waiting.Given as goal

abbrev pub invariant-loop : goal.invariant-loop
invariant-loop g l =
    record {
      goes_on : (goal.iterator-loop g).can_next l.iterator';
      ends : (goal.iterator-loop g).is_finite l.iterator';
      core : l.probe.core ≡ (record l.fn.self.core { pending = None });
      ring : l.probe.link.ring ≡ l.fn.self.link.ring;
      whole : emitted_by l.probe ≡ emitted_by l.fn.self;
      stands : (log : List Call) → LiveFor l.fn.self log → LiveFor l.probe log;
    }
