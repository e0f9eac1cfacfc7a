use Rattle.wcp_queue.proofs.Words.{List, subst, arith, CheckerState}
use Rattle.wcp_queue.specs.Panel.{EachTakes}
use Rattle.wcp_queue.proofs.Panels.{IsSoundPanel-take, StandForItems-take, watched_by-take, written_back}
use Rattle.wcp_queue.proofs.panel.Panel.take.Goals as goal

pub invariant_of-self : goal.invariant_of-self
invariant_of-self c =
    let old = c.self.inside.questions in
    let new = c.take_each.new.questions in
    let takes = subst (λ (before : List CheckerState). EachTakes before new c.args.item.now) c.deref_mut.ensures.value
    c.take_each.ensures in
    let written = written_back old.len old.items new (omega (arith, old.ok)) takes.as_many in
    rw written (IsSoundPanel-take old.items new c.args.item.now c.self.invariant takes)

pub returns-clause-stand : goal.returns-clause-stand
returns-clause-stand c = λ items stand.
    let old = c.self.inside.questions in
    let new = c.take_each.new.questions in
    let takes = subst (λ (before : List CheckerState). EachTakes before new c.args.item.now) c.deref_mut.ensures.value
    c.take_each.ensures in
    let written = written_back old.len old.items new (omega (arith, old.ok)) takes.as_many in
    rw written (StandForItems-take old.items new c.args.item.now items takes (rw (← c.self.view_is) at stand))

pub returns-clause-watched : goal.returns-clause-watched
returns-clause-watched c =
    let old = c.self.inside.questions in
    let new = c.take_each.new.questions in
    let takes = subst (λ (before : List CheckerState). EachTakes before new c.args.item.now) c.deref_mut.ensures.value
    c.take_each.ensures in
    let written = written_back old.len old.items new (omega (arith, old.ok)) takes.as_many in
    rw (written, ← c.self.view_is) (watched_by-take old.items new c.args.item.now takes)
