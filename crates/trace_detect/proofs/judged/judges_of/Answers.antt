use Rattle.trace_detect.proofs.Words.{[], ◌∷◌, ap, arith, length, length-append, subst, Condition, Knows}
use Rattle.trace_detect.proofs.Watches.{each_more}
use Rattle.trace_detect.proofs.judged.judges_of.Goals as goal

pub loop-condition-preserved : goal.loop-condition-preserved
loop-condition-preserved c =
    let conditions = c.args.conditions.now in
    let old = c.loop-condition.invariant in
    let new = c.in_ok-add_judge.ensures in
    record {
      as_many = omega (arith, ap length new.added, length-append c.loop-condition.judges.items (new.judge ∷ []));
      each = rw new.added (
          each_more (Knows conditions []) conditions c.loop-condition.judges.items c.loop-condition.condition-index
          c.condition-item.result new.judge old.as_many (omega arith)
          (subst (λ (one : Condition). Knows conditions [] one new.judge) c.condition-item.is (new.knows conditions))
          old.each
          );
    }
