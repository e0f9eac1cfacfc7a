use Rattle.wcp_relay.proofs.Words.{sym, ◌∙◌, subst, with_items_is, Leaf, items_of, AreFromRings, gap_met}
use Rattle.std.specs.Vec.{with_items}
use Rattle.wcp_relay.proofs.Ending.{leaf_ended, leaf_from_rings, all_put}
use Rattle.wcp_relay.proofs.source.Source.run.Goals as goal

pub returns-in-Leaf-clause-ended : goal.returns-in-Leaf-clause-ended
returns-in-Leaf-clause-ended g c =
    let items = with_items_is c.in-Leaf.feeds c.run_leaf.new.feeds (c.run_leaf.auto.feeds ∙ c.deref_mut.ensures.len) in
    leaf_ended c.run_leaf.result (Leaf (with_items c.in-Leaf.feeds c.run_leaf.new.feeds) c.run_leaf.new.sleeper)
    c.run_leaf.new.feeds c.run_leaf.new.outlet (sym items)
    c.run_leaf.ensures.work c.run_leaf.ensures.ended c.run_leaf.ensures.gap

pub returns-in-Ok-clause-whole : goal.returns-in-Ok-clause-whole
returns-in-Ok-clause-whole g c =
    all_put (λ p. items_of p c.run_inner.new.taker.taken) c.run_inner.new.outlet c.in-Ok.ensures.work.faithful
    c.in-Ok.ensures.empty

pub returns-in-Leaf-clause-rings : goal.returns-in-Leaf-clause-rings
returns-in-Leaf-clause-rings g c =
    let items = with_items_is c.in-Leaf.feeds c.run_leaf.new.feeds (c.run_leaf.auto.feeds ∙ c.deref_mut.ensures.len) in
    subst (AreFromRings (gap_met c.run_leaf.result)) (sym items)
    (leaf_from_rings c.run_leaf.result c.run_leaf.new.feeds c.run_leaf.new.outlet c.run_leaf.ensures.work
    c.run_leaf.ensures.rings)
