use Rattle.wcp_relay.proofs.Words.{List, sym, subst, Item, PutEnd, Bundle, ItemsMayFollow}
use Rattle.wcp_relay.proofs.patience.put.Goals as goal

pub try_put-requires : goal.try_put-requires
try_put-requires g c =
    subst (λ (v : PutEnd Bundle Item × List Item). ItemsMayFollow v.0.members v.0.put v.1)
    (λ i. (sym c.loop.invariant.0 i, sym c.loop.invariant.1 i)) c.requires

pub put-requires : goal.put-requires
put-requires g c =
    subst (λ (v : PutEnd Bundle Item × List Item). ItemsMayFollow v.0.members v.0.put v.1)
    (λ i. (sym c.loop.invariant.0 i, sym c.loop.invariant.1 i)) c.requires
