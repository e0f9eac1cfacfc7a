use Rattle.wcp_model.proofs.Words.{sym, ◌∙◌, arith, false≢true, iff_false, below_more}
use Rattle.wcp_model.proofs.plan.Plan.has_mixed_relay.Goals as goal
use Rattle.wcp_model.proofs.plan.Plan.has_mixed_relay.Goals.{else-is_leaf-via-then-is_leaf+else-serves_relay}
use Rattle.wcp_model.proofs.plan.Plan.has_mixed_relay.Goals.{else-is_leaf-via-else-is_leaf}

pub loop-relay-preserved : goal.loop-relay-preserved
loop-relay-preserved c = below_more _ _ c.loop-relay.invariant (λ process relay.
    elim c.else-is_leaf.branch [
      | else-is_leaf-via-then-is_leaf+else-serves_relay w ↦ iff_false w.serves_relay.ensures w.if-serves_relay.false
          relay
      | else-is_leaf-via-else-is_leaf w ↦ false≢true (sym w.if-is_leaf.false ∙ c.is_leaf.ensures ∙ process)
    ])

pub returns : goal.returns
returns c = (λ e. absurd (false≢true e), λ has. absurd (c.loop-relay.invariant has.0 (omega arith) has.2 has.3))
