use Rattle.wcp_model.proofs.Words.{sym, ◌∙◌, arith, false≢true, below_more}
use Rattle.wcp_model.proofs.plan.Plan.has_childless_relay.Goals as goal

pub loop-relay-preserved : goal.loop-relay-preserved
loop-relay-preserved c = below_more _ _ c.loop-relay.invariant (λ process relay.
    elim c.else-not-is_leaf.branch [
      | goal.else-not-is_leaf-via-then-not-is_leaf+else-not-serves_relay w ↦ relay
          (w.serves_relay.ensures.0 w.if-not-serves_relay.false)
      | goal.else-not-is_leaf-via-else-not-is_leaf w ↦ process (sym c.is_leaf.ensures ∙ w.if-not-is_leaf.false)
    ])

pub returns : goal.returns
returns c = (λ e. absurd (false≢true e), λ has. absurd (c.loop-relay.invariant has.0 (omega arith) has.2 has.3))
