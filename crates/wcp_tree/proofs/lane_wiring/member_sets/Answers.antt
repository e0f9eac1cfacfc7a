use Rattle.wcp_tree.proofs.Words.{◌+◌, length, sym, ap, subst, ◌∙◌, arith, length_push, AreMemberSetsOf, few_relays}
use Rattle.wcp_tree.proofs.MemberSets.{one_member_set_more}
use Rattle.wcp_tree.proofs.lane_wiring.member_sets.Goals as goal

pub overflow_cast-relay : goal.overflow_cast-relay
overflow_cast-relay c = omega (arith, few_relays c.args.plan.now c.requires)

pub loop-relay-preserved : goal.loop-relay-preserved
loop-relay-preserved c =
    let more = one_member_set_more c.args.plan.now c.args.owner c.loop-relay.member_sets.items c.loop-relay.relay
    c.member_set.result
    c.loop-relay.invariant.count c.loop-relay.invariant.each c.member_set.ensures in
    record {
      count = ap length c.in_ok-push.ensures.items
          ∙ length_push c.loop-relay.member_sets.items c.member_set.result
          ∙ ap (λ k. k + 1) c.loop-relay.invariant.count;
      each = subst (AreMemberSetsOf c.args.plan.now c.args.owner) (sym c.in_ok-push.ensures.items) more;
    }
