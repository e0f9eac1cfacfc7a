use Rattle.wcp_relay.proofs.Words.{◌+◌, ◌-◌, ◌<◌, take, get_or, sym, ◌∙◌, subst, arith, length-take-le, length-set}
use Rattle.wcp_relay.proofs.Words.{take_more_set, drop-set-lt, IsBundle, filler, most_bundle}
use Rattle.wcp_relay.proofs.Bundling.{prefix_and_last, may_join, joined, drop_more}
use Rattle.wcp_relay.proofs.bundle.Bundle.add.Goals as goal

pub invariant_of-self : goal.invariant_of-self
invariant_of-self c =
    let n = c.self.inside.count in
    let items = c.self.inside.items in
    let item = c.args.item in
    let end = get_or items (n - 1) c.index-self-self.result in
    let old = c.self.invariant in
    let long = length-take-le n items (omega (arith, old.1, old.2)) in
    let below : n < most_bundle = omega (arith, old.1, c.if-self-eq-MAX_BUNDLE.false) in
    let some : 0 < n = omega (arith, old.0.some, long) in
    let is = prefix_and_last n items c.index-self-self.result some (omega (arith, old.1, old.2)) in
    let may = may_join (take n items) (take (n - 1) items) end item is (omega (arith, long, below))
    (c.continues.ensures.0 c.if-not-continues.false) in (
      subst IsBundle (sym (take_more_set items n item (omega (arith, old.2, below))))
          (joined (take n items) item old.0 may),
      omega (arith, below),
      length-set items n item ∙ old.2,
      drop-set-lt (n + 1) items n item (omega arith) ∙ drop_more n most_bundle filler items old.3,
    )
