use Rattle.wcp_order.proofs.Words.{arith, subst, sym, IsFitOrder, IsFirstLeft, IsFirstStuck}
use Rattle.wcp_order.proofs.Concluding.{IsFitOrder_done, IsFirstStuck_left, no_fit_order}
use Rattle.wcp_order.proofs.Lengths.{same_length}
use Rattle.wcp_order.proofs.order.Progress.conclude.Goals as goal
use Rattle.wcp_order.proofs.order.Progress.conclude.Goals.{In-Some, In-None}

stuck : (c : In-Some) → IsFirstStuck c.args.tasks.now c.in-Some.place
stuck c = IsFirstStuck_left c.args.n c.args.tasks.now _ _ _ c.requires.within c.requires.sound c.requires.stuck
    c.in-Some.place
    (subst
    (λ done. IsFirstLeft c.args.tasks.now done c.in-Some.place) c.deref_mut.ensures.value c.in-Some.ensures.first)

fit : (c : In-None) → IsFitOrder c.args.tasks.now c.args.self.order.items
fit c = IsFitOrder_done c.args.n c.args.tasks.now _ _ _ c.requires.within c.requires.sound
    (λ p below. rw (sym c.deref_mut.ensures.value)
    (c.in-None.ensures.none p (omega (arith, below, c.requires.sound.processes))))

pub returns-in-Some-clause-stuck : goal.returns-in-Some-clause-stuck
returns-in-Some-clause-stuck c = stuck (goal.at.returns-in-Some-clause-stuck c).In-Some

pub returns-in-Some-clause-no_order : goal.returns-in-Some-clause-no_order
returns-in-Some-clause-no_order c =
    no_fit_order c.args.n c.args.tasks.now c.in-Some.place c.requires.within
    (stuck (goal.at.returns-in-Some-clause-no_order c).In-Some)

pub returns-in-None-clause-order : goal.returns-in-None-clause-order
returns-in-None-clause-order c = fit (goal.at.returns-in-None-clause-order c).In-None

pub returns-in-None-clause-all_tasks : goal.returns-in-None-clause-all_tasks
returns-in-None-clause-all_tasks c =
    same_length c.args.n c.args.tasks.now c.args.self.order.items c.requires.within c.requires.sound.is_done.within
    (fit (goal.at.returns-in-None-clause-all_tasks c).In-None).same_tasks
