use Rattle.wcp_world.proofs.Words.{◌≡◌, ◌+◌, ◌++◌, length, replicate, ap, ap₂, ◌∙◌, empty_hold}
use Rattle.wcp_world.proofs.Places.{fresh_stands}
use Rattle.wcp_world.proofs.transport.Transport.new.Goals as goal

pub returns : goal.returns
returns c =
    let plan = c.args.plan.now in
    let relays : c.len-relays.result ≡ length plan.parents.items = c.len-relays.ensures ∙ plan.parents.ok.0 in
    let links = c.in_ok-add_places.ensures
    ∙ ap (λ l. l ++ replicate plan.n (empty_hold (plan.cap + 1))) c.new-places.ensures.items in
    let holds = c.in_ok-add_places-2.ensures ∙ ap₂ (λ l k. l ++ replicate k (empty_hold plan.hold)) links relays in
    let inboxes = c.in_ok-add_places-3.ensures
    ∙ ap₂ (λ l k. l ++ replicate (k + 1) (empty_hold plan.cap)) holds relays in
    fresh_stands plan _ c.requires c.in_ok-copy.ensures inboxes
