use Rattle.wcp_relay.proofs.Words.{◌≡◌, None, take, get_or, ◌-◌, ◌<◌, sym, ap, ◌∙◌, subst, arith, Option, IfSome}
use Rattle.wcp_relay.proofs.Words.{last_or, length-take-le, is_last, Item}
use Rattle.wcp_relay.proofs.Bundling.{last_or-push, prefix_and_last}
use Rattle.wcp_relay.proofs.bundle.BundleOrigin.last.Goals as goal

pub returns : goal.returns
returns c =
    let n = c.self.inside.count in
    let items = c.self.inside.items in
    let end = get_or items (n - 1) c.index-self-self.result in
    let some : 0 < n = omega (
      arith,
      c.self.invariant.0.some,
      c.self.invariant.1,
      c.self.invariant.2,
      length-take-le n items (omega (arith, c.self.invariant.1, c.self.invariant.2)),
    ) in
    let is = sym c.self.view_is
    ∙ prefix_and_last n items c.index-self-self.result some (omega (arith, c.self.invariant.1, c.self.invariant.2)) in
    subst (λ (o : Option Item). IfSome o (λ (x : Item). c.last.result ≡ is_last x.note))
    (sym (ap (last_or None) is ∙ last_or-push None (take (n - 1) items) end)) c.last.ensures
