use Rattle.draw_layout.proofs.Words.{false, slice_index_or, arith, cases_Bool, inl, inr}
use Rattle.draw_layout.proofs.Splitting.{before_member, closed_halves, half_before, half_behind}
use Rattle.draw_layout.proofs.layout.lay_out.Goals as goal

pub stand_in_columns-requires-clause-closed : goal.stand_in_columns-requires-clause-closed
stand_in_columns-requires-clause-closed c = rw c.deref-4.ensures.value
    (closed_halves c.args.n c.args.order.now c.requires.fit c.args.cut.now _ c.in_ok-halves.ensures)

pub returns : goal.returns
returns c =
    let are = rw c.deref-4.ensures.value at c.in_ok-columns.ensures in
    let left = half_before c.args.n c.args.order.now c.args.cut.now c.in_ok-halves.halves.items c.in_ok-halves.ensures
    c.in_ok-intervals.intervals.items c.in_ok-intervals.ensures in
    let right = half_behind c.args.n c.args.order.now c.args.cut.now c.in_ok-halves.halves.items c.in_ok-halves.ensures
    c.in_ok-intervals.intervals.items c.in_ok-intervals.ensures in
    let law = before_member c.args.n c.args.order.now c.args.cut.now c.requires.cut in
    record {
      intervals = c.in_ok-intervals.ensures;
      sent = c.in_ok-sent.ensures;
      events = rw c.deref-5.ensures.value at c.in_ok-events.ensures;
      truths = c.in_ok-truths.ensures;
      tasks = are.tasks;
      only = are.only;
      own = are.own;
      message = are.message;
      first = λ p i event. elim (cases_Bool (slice_index_or c.in_ok-halves.halves.items i false)) [
        | inl own ↦ (are.before p i event own).0
        | inr other ↦ omega (arith, are.behind p i event other)
      ];
      before = λ p i event before. (are.before p i event (left p i event before)).1;
      behind = λ p i event behind. are.behind p i event (right p i event behind);
      next_before = λ p i event before. are.next_before p i event (left p i event before);
      next_behind = λ p i event behind. are.next_behind p i event (right p i event behind);
      below_member = λ p i m has event less.
          let own = left p i event ((law p _ m has).1 less) in
          ((are.before p i event own).1, are.next_before p i event own);
      from_member = λ p i m has event le.
          let own = right p i event (λ before. omega (arith, le, (law p _ m has).0 before)) in
          (are.behind p i event own, are.next_behind p i event own);
      some_line = are.some_line;
      few_lines = are.few_lines;
      few_columns = are.few_columns;
    }
