use Rattle.std.proofs.Common.{◌≡◌, ◌++◌, map, All, vec_items}
use Rattle.std.specs.Vec.Iter.{into_iter_items}
use Rattle.wullaphi.specs.Opened.{HasOpened, IsRelayOf}
use Rattle.wullaphi.proofs.opening.name_relays.Given as goal

abbrev pub invariant-loop-relay : goal.invariant-loop-relay
invariant-loop-relay g l = record {
  whole : l.yielded ++ into_iter_items l.relay-iterator ≡ vec_items l.fn.relays;
  rest : All (λ relay. HasOpened (IsRelayOf relay) g.W.Opening.opened) (into_iter_items l.relay-iterator);
  named : l.named.items ≡ map (λ relay. relay.number) l.yielded;
}
