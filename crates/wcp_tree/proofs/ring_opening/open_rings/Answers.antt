use Rattle.wcp_tree.proofs.Words.{fresh_core, ◌≡◌, ◌+◌, ◌++◌, ◌∷◌, [], List, Option, Some, sym, ap, subst, ◌∙◌, PutSide}
use Rattle.wcp_tree.proofs.Words.{TakeSide, LiveSide, AreRings, capacity, few_processes}
use Rattle.wcp_tree.proofs.OpeningRings.{one_ring_more}
use Rattle.wcp_tree.proofs.ring_opening.open_rings.Goals as goal

pub ring-requires-clause-some : goal.ring-requires-clause-some
ring-requires-clause-some c = (capacity c.args.plan.now c.requires).0

pub ring-requires-clause-within : goal.ring-requires-clause-within
ring-requires-clause-within c = (capacity c.args.plan.now c.requires).1

pub new-requires-clause-processes : goal.new-requires-clause-processes
new-requires-clause-processes c = rw c.probe_setup.ensures (few_processes c.args.plan.now c.requires)

pub loop-p-preserved : goal.loop-p-preserved
loop-p-preserved c =
    let link : c.new.result.link ≡ c.in_ok-putter.putter =
    ap (λ (s : LiveSide). s.link) c.new.ensures.fresh ∙ c.in_ok-putter-2.ensures in
    let more =
    one_ring_more c.args.plan.now c.args.watch c.loop-p.p c.loop-p.probes.items c.loop-p.takers.items c.new.result
    c.in_ok-taker.taker c.loop-p.invariant
    (ap (λ (s : LiveSide). s.core) c.new.ensures.fresh
    ∙ ap (fresh_core c.args.watch) c.probe_setup.ensures)
    (ap (λ (s : PutSide). s.put) link ∙ c.in_ok-putter.ensures.putter.0)
    (ap (λ (s : PutSide). s.free) link ∙ c.in_ok-putter.ensures.putter.1)
    (ap (λ (s : TakeSide). s.ring) c.in_ok-taker.ensures
    ∙ (sym c.in_ok-putter.ensures.one_ring ∙ sym (ap (λ (s : PutSide). s.ring) link)))
    (ap (λ (s : TakeSide). s.taken) c.in_ok-taker.ensures ∙ c.in_ok-putter.ensures.taker.0) in
    subst
    (λ (takers : List (Option TakeSide)). AreRings c.args.plan.now c.args.watch
    (c.loop-p.p + 1) c.push.new.self.items takers)
    (sym c.in_ok-push-2.ensures.items)
    (subst
    (λ (probes : List LiveSide). AreRings c.args.plan.now c.args.watch (c.loop-p.p + 1) probes
    (c.loop-p.takers.items ++ Some c.in_ok-taker.taker ∷ []))
    (sym c.in_ok-push.ensures.items)
    more)
