use Rattle.wcp_plain.proofs.Words.{◌≡◌, ◌<◌, ◌⊎◌, Some, length, inl, inr, ⊎_elim, subst, sym, ◌∙◌, ap, arith}
use Rattle.wcp_plain.proofs.Words.{false≢true, slice_get-get_or, interval_at}
use Rattle.wcp_plain.proofs.Turns.{Reads, reads_send, reads_receive, entered, pass_by_other, answer_is, never_before}
use Rattle.wcp_plain.proofs.order.happened_before.Goals as goal
use Rattle.wcp_plain.proofs.order.happened_before.Goals.{in-Send+in_ok-push-in-Send, in-Recv+then-has_reached}
use Rattle.wcp_plain.proofs.order.happened_before.Goals.{in-Recv+else-has_reached, then-process-to+else-interval-to}
use Rattle.wcp_plain.proofs.order.happened_before.Goals.{else-process-to, Joined-step}

-- a send or a receive was read
reads : (c : Joined-step)
    → Reads c.args.steps.now c.args.from c.loop-step.step-index c.match-step.pass c.match-step.process
reads c =
    let was = c.loop-step.invariant in
    let here = slice_get-get_or _ _ _ c.loop-step-test.true in
    elim c.match-step.branch [
      | in-Send+in_ok-push-in-Send w ↦
          rw (w.pass-is, w.process-is)
          (reads_send c.args.steps.now c.args.from c.loop-step.step-index c.loop-step.pass w.in-Send.process
          w.has_reached-after.result was.from was.pass w.push.new.self w.in-Send.field-1 (here
          ∙ ap (λ step. Some step) w.in-Send.is) w.in_ok-push-in-Send.ensures.items w.has_reached-after.ensures)
      | in-Recv+then-has_reached w ↦
          rw (w.pass-is, w.process-is)
          (reads_receive c.args.steps.now c.args.from c.loop-step.step-index c.loop-step.pass w.in-Recv.process
          w.has_reached.result was.from was.pass w.in-Recv.message (here ∙ ap (λ step. Some step) w.in-Recv.is)
          (λ yes. inl (w.has_reached.ensures.0 yes), λ _. w.if-has_reached.true))
      | in-Recv+else-has_reached w ↦
          rw (w.pass-is, w.process-is)
          (reads_receive c.args.steps.now c.args.from c.loop-step.step-index c.loop-step.pass w.in-Recv.process
          w.has_carried.result was.from was.pass w.in-Recv.message (here ∙ ap (λ step. Some step) w.in-Recv.is) (
            λ yes. inr (w.has_carried.ensures.0 yes),
            λ either. ⊎_elim (λ reached. absurd (false≢true (sym w.if-has_reached.false
                ∙ w.has_reached.ensures.1 reached))) (λ carried. w.has_carried.ensures.1 carried) either,
          ))
    ]

pub loop-step-preserved-in_default : goal.loop-step-preserved-in_default
loop-step-preserved-in_default c =
    let was = c.loop-step.invariant in
    let stays = pass_by_other _ _ _ _ _ _ _ was.pass
    (slice_get-get_or _ _ _ c.loop-step-test.true) c.in_default.not-Send c.in_default.not-Recv in
    record {
      from = was.from;
      pass = stays.0;
      interval = was.interval
          ∙ sym (stays.1 c.args.to.process);
      ahead = was.ahead;
    }

pub returns-then-interval-to : goal.returns-then-interval-to
returns-then-interval-to c =
    answer_is c.args.steps.now c.args.from c.args.to c.loop-step.step-index c.match-step.pass c.match-step.process
    (reads (goal.at.returns-then-interval-to c).Joined-step) c.if-process-to.true
    (omega (arith, c.loop-step.invariant.interval))

pub loop-step-preserved : goal.loop-step-preserved
loop-step-preserved c =
    let was = c.loop-step.invariant in
    let now = reads (goal.at.loop-step-preserved c).Joined-step in
    let told = c.in_ok-enter.ensures in
    let pass = entered c.args.steps.now c.args.from c.loop-step.step-index c.match-step.pass c.enter.new.self
    c.match-step.process now told.carries told.interval told.after in
    elim c.if-process-to.branch [
      | then-process-to+else-interval-to w ↦ record {
        from = told.from ∙ now.from;
        pass = pass;
        interval = omega (arith, now.own c.args.to.process w.if-process-to.true);
        ahead = ⊎_elim (λ first. inl first)
            (λ (below : c.loop-step.interval < c.args.to.interval). inr (omega arith)) was.ahead;
      }
      | else-process-to w ↦ record {
        from = told.from ∙ now.from;
        pass = pass;
        interval = omega (arith, now.others c.args.to.process w.if-process-to.false);
        ahead = rw w.interval-is was.ahead;
      }
    ]

pub returns : goal.returns
returns c =
    let at_end : c.loop-step.step-index ≡ length c.args.steps.now = omega arith in
    let ahead = subst (λ k. (c.args.to.interval ≡ 0) ⊎ (k < c.args.to.interval)) (c.loop-step.invariant.interval
    ∙ ap (interval_at c.args.steps.now c.args.to.process) at_end) c.loop-step.invariant.ahead in
    (λ no. absurd (false≢true no), λ before. absurd (never_before c.args.steps.now c.args.from c.args.to ahead before))
