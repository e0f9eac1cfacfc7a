use Rattle.wcp_relay.proofs.Words.{◌≡◌, ◌++◌, subst, Item, TakeEnd, Bundle, AreTakenNext}
use Rattle.wcp_relay.proofs.LeafWork.{if_some}
use Rattle.wcp_relay.proofs.patience.take.Goals as goal

pub returns-in-Some-clause-ok : goal.returns-in-Some-clause-ok
returns-in-Some-clause-ok g c =
    subst (λ (e : TakeEnd Bundle Item). AreTakenNext e c.in-Some.bundle
    × (c.try_take.new.taker ≡ record e { taken = e.taken ++ c.in-Some.bundle }))
    c.loop.invariant (if_some _ _ _ c.in-Some.is c.in_ok-bundle.ensures.some)

pub returns-in-Ok-clause-ok : goal.returns-in-Ok-clause-ok
returns-in-Ok-clause-ok g c =
    subst (λ (e : TakeEnd Bundle Item). AreTakenNext e c.in-Ok.bundle
    × (c.take.new.self ≡ record e { taken = e.taken ++ c.in-Ok.bundle }))
    c.loop.invariant c.in-Ok.ensures.ok
