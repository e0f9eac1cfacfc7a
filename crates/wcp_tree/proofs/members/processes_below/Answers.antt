use Rattle.wcp_tree.proofs.Words.{◌+◌, ◌<◌, true≢false, sym, subst, ◌∙◌, arith, Numbers, IsBelow, few_processes}
use Rattle.wcp_tree.proofs.Words.{attached_exists}
use Rattle.wcp_tree.proofs.Gathering.{HasAllBelow, none_below, one_more, no_more}
use Rattle.wcp_tree.proofs.members.processes_below.Goals.{then-is_below, else-is_below}
use Rattle.wcp_tree.proofs.members.processes_below.Goals as goal

pub loop-p-init : goal.loop-p-init
loop-p-init c =
    subst (λ (s : Numbers). HasAllBelow s 0 (IsBelow c.args.plan.now c.args.relay)) (sym c.none-members.ensures)
    (none_below (IsBelow c.args.plan.now c.args.relay))

pub loop-p-preserved : goal.loop-p-preserved
loop-p-preserved c =
    let P = IsBelow c.args.plan.now c.args.relay in
    let Has : Numbers → Type 0 = λ s. HasAllBelow s (c.loop-p.p + 1) P in
    elim c.if-is_below.branch [
      | then-is_below w ↦
          subst Has (sym (w.members-is
          ∙ w.with-members.ensures.more (omega (arith, few_processes c.args.plan.now c.requires))))
          (one_more c.loop-p.members c.loop-p.p P c.loop-p.invariant (c.is_below.ensures.0 w.if-is_below.true))
      | else-is_below w ↦
          subst Has (sym w.members-is)
          (no_more c.loop-p.members c.loop-p.p P c.loop-p.invariant
          (λ below. true≢false (sym (c.is_below.ensures.1 below) ∙ w.if-is_below.false)))
    ]

pub returns : goal.returns
returns c = λ p. (
  (λ is. ((c.loop-p.invariant.each p).0 is).1),
  (λ below.
      let exists = attached_exists c.args.plan.now c.requires p below.0 below.1 in
      let within : p < c.loop-p.p = omega (arith, exists.0) in
      (c.loop-p.invariant.each p).1 (within, below)),
)
