use Rattle.std.proofs.Common.{◌≡◌, ◌++◌, All, vec_items}
use Rattle.std.specs.Vec.Iter.{into_iter_items}
use Rattle.wullaphi.specs.Opened.{HasOpened, IsProbeOf}
use Rattle.wullaphi.proofs.opening.name_probes.Given as goal

abbrev pub invariant-loop-probe : goal.invariant-loop-probe
invariant-loop-probe g l = record {
  whole : l.yielded ++ into_iter_items l.probe-iterator ≡ vec_items l.fn.probes;
  rest : All (λ probe. HasOpened (IsProbeOf probe) g.W.Opening.opened) (into_iter_items l.probe-iterator);
  named : l.named.items ≡ l.yielded;
}
