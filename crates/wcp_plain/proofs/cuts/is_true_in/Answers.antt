use Rattle.wcp_plain.proofs.Words.{◌+◌, ◌<◌, true, length, below_more, sym, ◌∙◌, ap, arith, false≢true}
use Rattle.wcp_plain.proofs.Words.{slice_get-get_or, slice_get_within, same_Some, Observe, interval_at-event}
use Rattle.wcp_plain.proofs.Words.{interval_at-other}
use Rattle.wcp_plain.proofs.cuts.is_true_in.Goals as goal

pub loop-step-preserved : goal.loop-step-preserved
loop-step-preserved c =
    let was = c.loop-step.invariant in
    let here = slice_get-get_or _ _ _ c.loop-step-test.true in
    record {
      current =
          elim c.if-is_communication_of.branch [
            | goal.then-is_communication_of w ↦ w.current-is ∙ ap (λ k. k + 1) was.current
                ∙ sym (interval_at-event c.args.steps.now c.args.process c.loop-step.step-index _ here
                (sym c.is_communication_of.ensures ∙ w.if-is_communication_of.true))
            | goal.else-is_communication_of w ↦ w.current-is ∙ was.current
                ∙ sym (interval_at-other c.args.steps.now c.args.process c.loop-step.step-index _ here
                (sym c.is_communication_of.ensures ∙ w.if-is_communication_of.false))
          ];
      none =
          below_more _ _ was.none
          (λ true_here.
          elim c.else-current-interval.branch [
            | goal.else-current-interval-via-then-current-interval+else-is_true_observation_of w ↦ false≢true
                (sym w.if-is_true_observation_of.false
                ∙ w.is_true_observation_of.ensures.observed.1 (same_Some _ _ (sym here ∙ true_here.0)))
            | goal.else-current-interval-via-else-current-interval w ↦ w.if-current-interval.false
                (was.current ∙ true_here.1)
          ]);
    }

pub returns-clause-state : goal.returns-clause-state
returns-clause-state c = (
  λ no. absurd (false≢true no),
  λ is. absurd (c.loop-step.invariant.none is.place (let within : is.place < length c.args.steps.now = slice_get_within
      c.args.steps.now is.place (Observe c.args.process true) is.observed in omega arith) (is.observed, is.within)),
)
