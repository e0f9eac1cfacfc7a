use Rattle.wcp_relay.proofs.Words.{drop, sym, ap, ◌∙◌, Held}
use Rattle.wcp_relay.proofs.Bundling.{drop_one}
use Rattle.wcp_relay.proofs.outlet.let_go.Goals as goal

pub loop-preserved : goal.loop-preserved
loop-preserved c =
    let held = c.args.hold.now in
    c.pop.ensures.rest
    ∙ ap (λ (h : Held). let rest : Held = record h { items = drop 1 h.items } in rest) c.loop.invariant
    ∙ ap (λ items. let rest : Held = record held { items = items } in rest) (sym (drop_one c.loop.counter held.items))
