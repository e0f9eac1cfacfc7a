use Rattle.wcp_watch.proofs.Words.{take, question_at, HasTakenLast, IsSameWatch, TakesItems}
use Rattle.wcp_watch.proofs.checking.give_all.Given as goal

abbrev pub invariant-loop-item : goal.invariant-loop-item
invariant-loop-item l =
    record {
      same : IsSameWatch l.initial.panel l.panel;
      taken : TakesItems l.initial.panel l.panel (take l.item-index l.items);
      last : HasTakenLast (question_at l.panel 0) (take l.item-index l.items);
    }
